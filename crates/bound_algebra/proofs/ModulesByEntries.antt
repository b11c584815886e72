-- What is a module over the algebra of a header: the entries of the matrices of paths take the ideal to zero.
use Rattle.std.proofs.Common.{ℕ, zero, ◌≡◌, ◌<◌, inl, inr, List, length, refl, sym, ap, ap₂, ◌∙◌, subst, arith}
use Rattle.std.specs.Prelude.{Contains}
use Rattle.std.proofs.lemmas.Bool.{cases_lt}
use Rattle.std.proofs.lemmas.List.{append-nil}
use Rattle.std.proofs.lemmas.List.Elements.{All-contains, Contains-get_or}
use Rattle.linear_algebra.specs.Field.{Gf, mul}
use Rattle.linear_algebra.specs.Sums.{sum_to, sum-same}
use Rattle.linear_algebra.specs.Matrix.{Mat-eq_below}
use Rattle.linear_algebra.specs.Families.{combine}
use Rattle.linear_algebra.proofs.LinearMaps.{combine-at}
use Rattle.quiver_paths.specs.declared.Path.{Path}
use Rattle.quiver_paths.specs.Quiver.{vertex_count}
use Rattle.quiver_paths.specs.Path.{IsPath, Leads, trivial_path}
use Rattle.quiver_paths.proofs.PathLemmas.{IsPath-trivial}
use Rattle.path_algebra.specs.declared.Term.{Term}
use Rattle.path_algebra.specs.declared.Relation.{Relation}
use Rattle.path_algebra.specs.declared.Header.{Header}
use Rattle.path_algebra.specs.Allowed.{IsAllowed, IsRelation, IsTerm}
use Rattle.path_algebra.proofs.Between.{composite, Path-eq}
use Rattle.path_algebra.proofs.IdealActs.{parallel_terms}
use Rattle.representations.specs.Quiver.{Relation as TypedRelation, Path as TypedPath}
use Rattle.representations.specs.Rep.{Rep, along, value_of_relation, IsMod}
use Rattle.bound_algebra.specs.TypedPaths.{quiver_of, arrows_of, listed}
use Rattle.bound_algebra.specs.BoundAlgebra.{term_at, relation_at, relation_of, bound_algebra}
use Rattle.bound_algebra.proofs.TypedPaths.{length-arrows_of, leads_or_zero}
use Rattle.bound_algebra.proofs.Relations.{IsSumOf, sum_over-places, relation_is, relation_listed}
use Rattle.bound_algebra.proofs.Functionals.{Kills}
use Rattle.bound_algebra.proofs.PathMatrices.{zeros-at}

-- what an entry of the matrices of the paths from v to w is at each of them
pub record IsEntry (h : Header) {q : Gf} (X : Rep q (quiver_of h.quiver)) (v w x y : ℕ) (f : Path → ℕ) : Type 0 where
  pub kills : Kills h f
  pub is : (p : TypedPath (quiver_of h.quiver) v w) → Leads h.quiver v (arrows_of p) w → (along X p).at x y ≡ f (listed p)

module _ (h : Header) (ok : IsAllowed h) (X : Rep h.field (quiver_of h.quiver)) where
  -- Where each entry is a function that takes the ideal to zero, the representation is a module.
  pub module_by_entries : ((v w x y : ℕ) → x < X.dim v → y < X.dim w → (f : Path → ℕ) × IsEntry h X v w x y f) → IsMod (bound_algebra h) X
  unfolding value_of_relation
  module_by_entries entries = record {
    relations = λ i l. Mat-eq_below _ _ (λ x y a b. relation_entry i l x y a b ∙ sym (zeros-at h.field _ _ x y));
    long_paths = λ {v} {w} p e. elim (leads_or_zero h.quiver p) [
      | inr z ↦ z h.field X
      | inl l ↦ Mat-eq_below _ _ (λ x y a b. let entry = entries v w x y a b in
          entry.1.is p l ∙ entry.1.kills.long (listed p) (record { starts = vertex v x a; leads = l }) (let n = length-arrows_of p in omega arith) ∙ sym (zeros-at h.field _ _ x y))
    ];
  }
    where
      vertex : (v x : ℕ) → x < X.dim v → v < vertex_count h.quiver
      vertex v x a = elim (cases_lt v (vertex_count h.quiver)) [ inl l ↦ l | inr past ↦ absurd (let n = X.past v past in omega (arith, n, a)) ]

      relation_entry : (i : ℕ) → i < length h.relations → (x y : ℕ) → x < X.dim (relation_of h i).from → y < X.dim (relation_of h i).to
          → (combine (relation_of h i).terms (relation_of h i).coefficient (λ k. along X ((relation_of h i).path k))).at x y ≡ 0
      relation_entry i l x y a b =
          combine-at r.terms r.coefficient (λ k. along X (r.path k)) x y
          ∙ sum-same h.field r.terms _ (λ k. mul h.field (term_at terms k).coef (f (composite first (term_at terms k).path last))) (λ k m. let n = below k m in
          ap₂ (mul h.field) (sum.coefficient k n) (entry.1.is (r.path k) (leads k n) ∙ ap f (whole k n)))
          ∙ ap (λ n. sum_to h.field n (λ k. mul h.field (term_at terms k).coef (f (composite first (term_at terms k).path last)))) sum.count
          ∙ sum_over-places h.field _ terms (λ t. mul h.field t.coef (f (composite first t.path last)))
          ∙ entry.1.kills.relations first last rel (IsPath-trivial h.quiver r.from (vertex r.from x a)) (IsPath-trivial h.quiver r.to (vertex r.to y b)) listed_there meets
        where
          r : TypedRelation (quiver_of h.quiver)
          r = relation_of h i

          rel : Relation
          rel = relation_at h.relations i

          terms : List Term
          terms = rel.terms

          listed_there : Contains h.relations rel
          listed_there = relation_listed h ok i l

          sum : IsSumOf h.quiver r terms
          sum = relation_is h ok i l

          first : Path
          first = trivial_path r.from

          last : Path
          last = trivial_path r.to

          entry : (f : Path → ℕ) × IsEntry h X r.from r.to x y f
          entry = entries r.from r.to x y a b

          f : Path → ℕ
          f = entry.0

          below : (k : ℕ) → k < r.terms → k < length terms
          below k m = subst (λ n. k < n) sum.count m

          is : IsRelation h rel
          is = All-contains (IsRelation h) h.relations rel ok.relations listed_there

          term_is : (k : ℕ) → k < length terms → IsTerm h (term_at terms k)
          term_is k n = All-contains (IsTerm h) terms (term_at terms k) is.terms (Contains-get_or terms k _ n)

          leads : (k : ℕ) → k < length terms → Leads h.quiver r.from (arrows_of (r.path k)) r.to
          leads k n = let e : IsPath h.quiver (listed (r.path k)) = subst (IsPath h.quiver) (sym (sum.path k n)) (term_is k n).path in e.leads

          whole : (k : ℕ) → k < length terms → listed (r.path k) ≡ composite first (term_at terms k).path last
          whole k n = let e = sum.path k n in Path-eq _ _ refl refl (ap (λ (p : Path). p.arrows) e ∙ sym (append-nil (term_at terms k).path.arrows))

          meets : (t : Term) → Contains terms t → (first.end ≡ t.path.start) × (t.path.end ≡ last.start)
          meets t c =
              let at = sum.path zero is.some in
              let par = parallel_terms terms is.parallel (term_at terms zero) t (Contains-get_or terms zero _ is.some) c in
              (ap (λ (p : Path). p.start) at ∙ par.starts, sym par.ends ∙ sym (ap (λ (p : Path). p.end) at))
