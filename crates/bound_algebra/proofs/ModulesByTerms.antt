-- Terms of the bound's length or more may be dropped or kept.
use Rattle.std.proofs.Common.{ℕ, zero, ◌≡◌, ◌<◌, ◌≤◌, inl, inr, length, ltb, if◌then◌else◌, refl, sym, ap, ap₂, ◌∙◌, subst, arith}
use Rattle.std.specs.Prelude.{Contains}
use Rattle.std.proofs.lemmas.Bool.{cases_lt, cases_eq, cond-true, cond-false, lt-ltb, le-ltb}
use Rattle.std.proofs.lemmas.List.{append-nil}
use Rattle.std.proofs.lemmas.List.Elements.{All-contains, Contains-get_or}
use Rattle.linear_algebra.specs.Field.{mul}
use Rattle.linear_algebra.specs.FieldLaws.{mul_zero}
use Rattle.linear_algebra.specs.Sums.{sum_to, sum-same}
use Rattle.linear_algebra.specs.Matrix.{Mat, Mat-eq_below, zeros, transpose}
use Rattle.linear_algebra.specs.Families.{combine}
use Rattle.linear_algebra.proofs.LinearMaps.{combine-at}
use Rattle.linear_algebra.proofs.MatrixLaws.{transpose-at, transpose_zeros}
use Rattle.quiver_paths.specs.declared.Path.{Path}
use Rattle.quiver_paths.specs.Quiver.{vertex_count}
use Rattle.quiver_paths.specs.Path.{IsPath, path_length, trivial_path}
use Rattle.quiver_paths.proofs.PathLemmas.{IsPath-trivial, IsPath-end}
use Rattle.path_algebra.specs.declared.Term.{Term}
use Rattle.path_algebra.specs.declared.Relation.{Relation}
use Rattle.path_algebra.specs.declared.Header.{Header}
use Rattle.path_algebra.specs.Allowed.{IsAllowed, IsRelation, IsTerm, IsParallel}
use Rattle.path_algebra.specs.Elements.{sum_over}
use Rattle.path_algebra.proofs.Between.{composite, Path-eq}
use Rattle.path_algebra.proofs.SumsOver.{sum_over-same, sum_over-zeros}
use Rattle.path_algebra.proofs.IdealActs.{parallel_terms}
use Rattle.representations.specs.Quiver.{Relation as TypedRelation, Path as TypedPath, path_length as typed_length}
use Rattle.representations.specs.Quiver.{opposite, opposite_algebra}
use Rattle.representations.specs.Dual.{dual}
use Rattle.representations.proofs.Duals.{dual_dual, IsMod-dual}
use Rattle.projectives.proofs.TwoSided.{IsMod-dual_back}
use Rattle.representations.specs.Rep.{Rep, along, value_of_relation, IsMod}
use Rattle.bound_algebra.specs.TypedPaths.{quiver_of, arrows_of, path_of, Runs, cases_runs, listed}
use Rattle.bound_algebra.specs.BoundAlgebra.{term_at, relation_at, relation_of, bound_algebra}
use Rattle.bound_algebra.specs.PathMatrices.{path_matrix, left_path_matrix}
use Rattle.bound_algebra.specs.ModulesByTerms.{IsModuleByTerms, IsLeftModuleByTerms}
use Rattle.bound_algebra.proofs.TypedPaths.{length-arrows_of, arrows_of-path_of, leads_or_zero, long_acts_by}
use Rattle.bound_algebra.proofs.Relations.{IsSumOf, sum_over-places, relation_is, relation_listed}
use Rattle.bound_algebra.proofs.PathMatrices.{path_matrix-typed, path_matrix-apart, zeros-at, Runs-listed, dual_matrix, left_matrix}
use Rattle.bound_algebra.proofs.ModuleEntries.{entry, entry-apart, entry_kills}

module _ (h : Header) (ok : IsAllowed h) (X : Rep h.field (quiver_of h.quiver)) where
  term_is : (rel : Relation) → Contains h.relations rel → (t : Term) → Contains rel.terms t → IsTerm h t
  term_is rel c t m = All-contains (IsTerm h) rel.terms t (All-contains (IsRelation h) h.relations rel ok.relations c).terms m

  -- where long paths act as zero, terms of that length may be left out of a sum
  short_terms : (v w x y : ℕ) → ((p : Path) → IsPath h.quiver p → h.bound ≤ path_length p → (path_matrix h.quiver X v w p).at x y ≡ 0) → (rel : Relation) → Contains h.relations rel
      → sum_over h.field rel.terms (λ t. if ltb (path_length t.path) h.bound then mul h.field t.coef ((path_matrix h.quiver X v w t.path).at x y) else 0)
      ≡ sum_over h.field rel.terms (λ t. mul h.field t.coef ((path_matrix h.quiver X v w t.path).at x y))
  short_terms v w x y z rel c = sum_over-same h.field rel.terms _ _ (λ t m. elim (cases_lt (path_length t.path) h.bound) [
    | inl l ↦ cond-true _ _ 0 (lt-ltb _ _ l)
    | inr l ↦ cond-false _ _ 0 (le-ltb _ _ l) ∙ sym (ap (mul h.field t.coef) (z t.path (term_is rel c t m).path l) ∙ mul_zero h.field t.coef)
  ])

  pub terms_of_module : IsMod (bound_algebra h) X → IsModuleByTerms h X
  unfolding entry
  terms_of_module M v w = record { relations = relations; long = long }
    where
      long : (p : Path) → IsPath h.quiver p → path_length p ≡ h.bound → path_matrix h.quiver X v w p ≡ zeros h.field (X.dim v) (X.dim w)
      long p hp l = elim (cases_runs h.quiver v w p) [
        | inr d ↦ path_matrix-apart h.quiver X v w p d
        | inl r ↦
            let t : TypedPath (quiver_of h.quiver) v w = path_of h.quiver v p.arrows w r.leads in
            let same : arrows_of t ≡ p.arrows = arrows_of-path_of h.quiver v p.arrows w r.leads in
            path_matrix-typed h.quiver X t p r same ∙ M.long_paths t (let n = length-arrows_of t in let k = ap length same in omega arith)
      ]

      relations : (rel : Relation) → Contains h.relations rel → (x y : ℕ)
          → sum_over h.field rel.terms (λ t. if ltb (path_length t.path) h.bound then mul h.field t.coef ((path_matrix h.quiver X v w t.path).at x y) else 0) ≡ 0
      relations rel c x y =
          short_terms v w x y (entry_kills h ok X M v w x y).long rel c
          ∙ elim (cases_eq first.path.start v) [
            | inr d ↦ sum_over-zeros h.field rel.terms _ (λ t m. ap (mul h.field t.coef) (entry-apart h ok X M v w x y t.path (λ r. d ((par t m).starts ∙ r.starts))) ∙ mul_zero h.field t.coef)
            | inl s ↦ elim (cases_eq first.path.end w) [
              | inr d ↦ sum_over-zeros h.field rel.terms _ (λ t m. ap (mul h.field t.coef) (entry-apart h ok X M v w x y t.path (λ r. d ((par t m).ends ∙ r.ends))) ∙ mul_zero h.field t.coef)
              | inl e ↦
                  sum_over-same h.field rel.terms _ _ (λ t m. ap (λ p. mul h.field t.coef ((path_matrix h.quiver X v w p).at x y))
                  (Path-eq t.path (composite (trivial_path v) t.path (trivial_path w)) (sym (par t m).starts ∙ s) (sym (par t m).ends ∙ e) (sym (append-nil t.path.arrows))))
                  ∙ (entry_kills h ok X M v w x y).relations (trivial_path v) (trivial_path w) rel
                  (IsPath-trivial h.quiver v (subst (λ z. z < vertex_count h.quiver) s first_path.starts))
                  (IsPath-trivial h.quiver w (subst (λ z. z < vertex_count h.quiver) e (IsPath-end h.quiver first.path ok.quiver.ends first_path))) c
                  (λ t m. (sym s ∙ (par t m).starts, sym (par t m).ends ∙ e))
            ]
          ]
        where
          is : IsRelation h rel
          is = All-contains (IsRelation h) h.relations rel ok.relations c

          first : Term
          first = term_at rel.terms zero

          first_in : Contains rel.terms first
          first_in = Contains-get_or rel.terms zero _ is.some

          first_path : IsPath h.quiver first.path
          first_path = (term_is rel c first first_in).path

          par : (t : Term) → Contains rel.terms t → IsParallel first.path t.path
          par t m = parallel_terms rel.terms is.parallel first t first_in m

  pub module_of_terms : IsModuleByTerms h X → IsMod (bound_algebra h) X
  unfolding value_of_relation
  module_of_terms d = record {
    relations = λ i l. Mat-eq_below _ _ (λ x y a b. relation_entry i l x y ∙ sym (zeros-at h.field _ _ x y));
    long_paths = long_paths;
  }
    where
      long_paths : {v w : ℕ} (p : TypedPath (quiver_of h.quiver) v w) → typed_length p ≡ h.bound → along X p ≡ zeros h.field (X.dim v) (X.dim w)
      long_paths {v} {w} p e = elim (leads_or_zero h.quiver p) [
        | inr z ↦ z h.field X
        | inl l ↦ elim (cases_lt v (vertex_count h.quiver)) [
          | inl b ↦ sym (path_matrix-typed h.quiver X p (listed p) (Runs-listed h.quiver p l) refl)
              ∙ (d v w).long (listed p) (record { starts = b; leads = l }) (length-arrows_of p ∙ e)
          | inr past ↦ Mat-eq_below _ _ (λ x y a b. absurd (let n = X.past v past in omega (arith, n, a)))
        ]
      ]

      long_entry : (v w x y : ℕ) (p : Path) → IsPath h.quiver p → h.bound ≤ path_length p → (path_matrix h.quiver X v w p).at x y ≡ 0
      long_entry v w x y p hp l = ap (λ (m : Mat h.field (X.dim v) (X.dim w)). m.at x y) (elim (cases_runs h.quiver v w p) [
        | inr n ↦ path_matrix-apart h.quiver X v w p n
        | inl r ↦
            let t : TypedPath (quiver_of h.quiver) v w = path_of h.quiver v p.arrows w r.leads in
            let same : arrows_of t ≡ p.arrows = arrows_of-path_of h.quiver v p.arrows w r.leads in
            path_matrix-typed h.quiver X t p r same ∙ long_acts_by X h.bound (λ b c z i. long_paths z i) t (let n = length-arrows_of t in let k = ap length same in omega arith)
      ]) ∙ zeros-at h.field (X.dim v) (X.dim w) x y

      relation_entry : (i : ℕ) → i < length h.relations → (x y : ℕ) → (combine (relation_of h i).terms (relation_of h i).coefficient (λ k. along X ((relation_of h i).path k))).at x y ≡ 0
      relation_entry i l x y =
          combine-at r.terms r.coefficient (λ k. along X (r.path k)) x y
          ∙ sum-same h.field r.terms _ (λ k. mul h.field (term_at rel.terms k).coef ((path_matrix h.quiver X r.from r.to (term_at rel.terms k).path).at x y)) (λ k m. let n = subst (λ z. k < z) sum.count m in
          ap₂ (mul h.field) (sum.coefficient k n) (ap (λ (m : Mat h.field (X.dim r.from) (X.dim r.to)). m.at x y) (sym (path_matrix-typed h.quiver X (r.path k) (term_at rel.terms k).path (runs k n) (ap (λ (p : Path). p.arrows) (sum.path k n))))))
          ∙ ap (λ n. sum_to h.field n (λ k. mul h.field (term_at rel.terms k).coef ((path_matrix h.quiver X r.from r.to (term_at rel.terms k).path).at x y))) sum.count
          ∙ sum_over-places h.field _ rel.terms (λ t. mul h.field t.coef ((path_matrix h.quiver X r.from r.to t.path).at x y))
          ∙ sym (short_terms r.from r.to x y (long_entry r.from r.to x y) rel there)
          ∙ (d r.from r.to).relations rel there x y
        where
          r : TypedRelation (quiver_of h.quiver)
          r = relation_of h i

          rel : Relation
          rel = relation_at h.relations i

          there : Contains h.relations rel
          there = relation_listed h ok i l

          sum : IsSumOf h.quiver r rel.terms
          sum = relation_is h ok i l

          runs : (k : ℕ) → k < length rel.terms → Runs h.quiver r.from r.to (term_at rel.terms k).path
          runs k n =
              let e : IsPath h.quiver (listed (r.path k)) = subst (IsPath h.quiver) (sym (sum.path k n)) (term_is rel there (term_at rel.terms k) (Contains-get_or rel.terms k _ n)).path in
              subst (Runs h.quiver r.from r.to) (sum.path k n) (Runs-listed h.quiver (r.path k) e.leads)

-- On the left by the dual, whose matrices along paths are the transposed ones.
module _ (h : Header) (X : Rep h.field (opposite (quiver_of h.quiver))) where
  dual_entry : (v w : ℕ) (p : Path) (x y : ℕ) → (path_matrix h.quiver (dual X) v w p).at x y ≡ (left_path_matrix h.quiver X v w p).at y x
  dual_entry v w p x y = ap (λ (m : Mat h.field (X.dim v) (X.dim w)). m.at x y) (dual_matrix h.quiver X v w p) ∙ transpose-at (left_path_matrix h.quiver X v w p) x y

  entries_equal : (v w x y : ℕ) (rel : Relation)
      → sum_over h.field rel.terms (λ t. if ltb (path_length t.path) h.bound then mul h.field t.coef ((left_path_matrix h.quiver X v w t.path).at y x) else 0)
      ≡ sum_over h.field rel.terms (λ t. if ltb (path_length t.path) h.bound then mul h.field t.coef ((path_matrix h.quiver (dual X) v w t.path).at x y) else 0)
  entries_equal v w x y rel = sum_over-same h.field rel.terms _ _ (λ t m. ap (λ a. if ltb (path_length t.path) h.bound then mul h.field t.coef a else 0) (sym (dual_entry v w t.path x y)))

  pub terms_of_dual : IsModuleByTerms h (dual X) → IsLeftModuleByTerms h X
  terms_of_dual d v w = record {
    relations = λ rel c x y. entries_equal v w y x rel ∙ (d v w).relations rel c y x;
    long = λ p hp e. left_matrix h.quiver X v w p ∙ ap transpose ((d v w).long p hp e) ∙ transpose_zeros h.field (X.dim v) (X.dim w);
  }

  pub dual_terms : IsLeftModuleByTerms h X → IsModuleByTerms h (dual X)
  dual_terms d v w = record {
    relations = λ rel c x y. sym (entries_equal v w x y rel) ∙ (d v w).relations rel c y x;
    long = λ p hp e. dual_matrix h.quiver X v w p ∙ ap transpose ((d v w).long p hp e) ∙ transpose_zeros h.field (X.dim w) (X.dim v);
  }

  module _ (ok : IsAllowed h) where
    pub terms_of_left_module : IsMod (opposite_algebra (bound_algebra h)) X → IsLeftModuleByTerms h X
    terms_of_left_module M = terms_of_dual (terms_of_module h ok (dual X) (IsMod-dual_back (bound_algebra h) X M))

    pub left_module_of_terms : IsLeftModuleByTerms h X → IsMod (opposite_algebra (bound_algebra h)) X
    left_module_of_terms d = subst (IsMod (opposite_algebra (bound_algebra h))) (dual_dual X) (IsMod-dual (bound_algebra h) (dual X) (module_of_terms h ok (dual X) (dual_terms d)))
