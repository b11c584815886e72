-- On a module each entry of the matrices of paths takes the ideal to zero.
use Rattle.std.proofs.Common.{ℕ, zero, ◌≡◌, ◌<◌, ◌≤◌, inl, inr, List, [], ◌++◌, length, sym, ap, ap₂, ◌∙◌, subst, arith}
use Rattle.std.specs.Prelude.{Contains}
use Rattle.std.proofs.lemmas.Bool.{cases_eq}
use Rattle.std.proofs.lemmas.List.Elements.{All-contains, Contains-get_or, at_from_Contains}
use Rattle.linear_algebra.specs.Field.{order, mul}
use Rattle.linear_algebra.specs.FieldLaws.{mul_zero}
use Rattle.linear_algebra.specs.Sums.{sum_to, sum-same}
use Rattle.linear_algebra.specs.Matrix.{Mat, zeros, ◌·◌}
use Rattle.linear_algebra.proofs.Families.{mul_combine, combine_mul}
use Rattle.linear_algebra.proofs.LinearMaps.{combine-at}
use Rattle.linear_algebra.proofs.MatrixLaws.{mul_zeros, zeros_mul}
use Rattle.quiver_paths.specs.declared.Path.{Path}
use Rattle.quiver_paths.specs.Path.{IsPath, Leads, path_length, concat}
use Rattle.quiver_paths.proofs.PathLemmas.{IsPath-concat}
use Rattle.path_algebra.specs.declared.Term.{Term}
use Rattle.path_algebra.specs.declared.Relation.{Relation}
use Rattle.path_algebra.specs.declared.Header.{Header}
use Rattle.path_algebra.specs.Allowed.{IsAllowed, IsRelation, IsTerm}
use Rattle.path_algebra.specs.Elements.{sum_over}
use Rattle.path_algebra.proofs.Between.{composite}
use Rattle.path_algebra.proofs.SumsOver.{sum_over-zeros}
use Rattle.representations.specs.Quiver.{Relation as TypedRelation, Path as TypedPath, path_join}
use Rattle.representations.specs.Rep.{Rep, along, value_of_relation, IsMod}
use Rattle.representations.proofs.Paths.{along_join}
use Rattle.bound_algebra.specs.TypedPaths.{quiver_of, arrows_of, path_of, Runs, cases_runs}
use Rattle.bound_algebra.specs.BoundAlgebra.{term_at, relation_at, relation_of, bound_algebra}
use Rattle.bound_algebra.specs.PathMatrices.{path_matrix}
use Rattle.bound_algebra.proofs.TypedPaths.{arrows_of-join, length-arrows_of, arrows_of-path_of, long_acts}
use Rattle.bound_algebra.proofs.Relations.{IsSumOf, sum_over-places, relation_is}
use Rattle.bound_algebra.proofs.Functionals.{Kills}
use Rattle.bound_algebra.proofs.PathMatrices.{path_matrix-typed, path_matrix-apart, zeros-at}

-- a listed relation has a place
relation_place : (relations : List Relation) (r : Relation) → Contains relations r → (i : ℕ) × (i < length relations) × (relation_at relations i ≡ r)
relation_place relations r c = let at = at_from_Contains relations r c in (at.0, at.1, at.2 (record { terms = [] }))

module _ (h : Header) (ok : IsAllowed h) (X : Rep h.field (quiver_of h.quiver)) (M : IsMod (bound_algebra h) X) (v w x y : ℕ) where
  unfoldable pub entry : Path → ℕ
  entry p = (path_matrix h.quiver X v w p).at x y

  pub entry-typed : (t : TypedPath (quiver_of h.quiver) v w) (p : Path) → Runs h.quiver v w p → arrows_of t ≡ p.arrows → entry p ≡ (along X t).at x y
  unfolding entry
  entry-typed t p r e = ap (λ (m : Mat h.field (X.dim v) (X.dim w)). m.at x y) (path_matrix-typed h.quiver X t p r e)

  pub entry-apart : (p : Path) → (Runs h.quiver v w p → ⊥) → entry p ≡ 0
  unfolding entry
  entry-apart p d = ap (λ (m : Mat h.field (X.dim v) (X.dim w)). m.at x y) (path_matrix-apart h.quiver X v w p d) ∙ zeros-at h.field (X.dim v) (X.dim w) x y

  entry_small : (p : Path) → entry p < order h.field
  unfolding entry
  entry_small p = (path_matrix h.quiver X v w p).fits.small x y

  entry_long : (p : Path) → IsPath h.quiver p → h.bound ≤ path_length p → entry p ≡ 0
  entry_long p hp l = elim (cases_runs h.quiver v w p) [
    | inr d ↦ entry-apart p d
    | inl r ↦
        let t : TypedPath (quiver_of h.quiver) v w = path_of h.quiver v p.arrows w r.leads in
        let same : arrows_of t ≡ p.arrows = arrows_of-path_of h.quiver v p.arrows w r.leads in
        entry-typed t p r same
        ∙ ap (λ (m : Mat h.field (X.dim v) (X.dim w)). m.at x y) (long_acts (bound_algebra h) X M t (let n = length-arrows_of t in let k = ap length same in omega arith))
        ∙ zeros-at h.field (X.dim v) (X.dim w) x y
  ]

  module _ (a b : Path) (rel : Relation) (ha : IsPath h.quiver a) (hb : IsPath h.quiver b) (c : Contains h.relations rel)
      (meets : (t : Term) → Contains rel.terms t → (a.end ≡ t.path.start) × (t.path.end ≡ b.start)) (s : a.start ≡ v) (e : b.end ≡ w) where
    is : IsRelation h rel
    is = All-contains (IsRelation h) h.relations rel ok.relations c

    place : (i : ℕ) × (i < length h.relations) × (relation_at h.relations i ≡ rel)
    place = relation_place h.relations rel c

    r : TypedRelation (quiver_of h.quiver)
    unfolding place
    r = relation_of h place.0

    sum : IsSumOf h.quiver r rel.terms
    unfolding r place
    sum = subst (λ (z : Relation). IsSumOf h.quiver (relation_of h place.0) z.terms) place.2 (relation_is h ok place.0 place.1)

    vanishes : value_of_relation X r ≡ zeros h.field (X.dim r.from) (X.dim r.to)
    unfolding r place
    vanishes = M.relations place.0 place.1

    there : (k : ℕ) → k < length rel.terms → Contains rel.terms (term_at rel.terms k)
    there k n = Contains-get_or rel.terms k _ n

    first : TypedPath (quiver_of h.quiver) v r.from
    first = path_of h.quiver v a.arrows r.from (subst (λ z. Leads h.quiver z a.arrows r.from) s (subst (Leads h.quiver a.start a.arrows)
        ((meets (term_at rel.terms zero) (there zero is.some)).0 ∙ sym (ap (λ (p : Path). p.start) (sum.path zero is.some))) ha.leads))

    last : TypedPath (quiver_of h.quiver) r.to w
    last = path_of h.quiver r.to b.arrows w (subst (λ z. Leads h.quiver z b.arrows w)
        (sym (meets (term_at rel.terms zero) (there zero is.some)).1 ∙ sym (ap (λ (p : Path). p.end) (sum.path zero is.some))) (subst (Leads h.quiver b.start b.arrows) e hb.leads))

    first_arrows : arrows_of first ≡ a.arrows
    unfolding first
    first_arrows = arrows_of-path_of h.quiver v a.arrows r.from _

    last_arrows : arrows_of last ≡ b.arrows
    unfolding last
    last_arrows = arrows_of-path_of h.quiver r.to b.arrows w _

    term_entry : (k : ℕ) → k < length rel.terms → entry (composite a (term_at rel.terms k).path b) ≡ (along X first · (along X (r.path k) · along X last)).at x y
    term_entry k n =
        let t : TypedPath (quiver_of h.quiver) v w = path_join first (path_join (r.path k) last) in
        let same : arrows_of t ≡ (composite a (term_at rel.terms k).path b).arrows = arrows_of-join first (path_join (r.path k) last)
        ∙ ap₂ (λ xs ys. xs ++ ys) first_arrows (arrows_of-join (r.path k) last ∙ ap₂ (λ xs ys. xs ++ ys) (ap (λ (p : Path). p.arrows) (sum.path k n)) last_arrows) in
        entry-typed t (composite a (term_at rel.terms k).path b) (record { starts = s; ends = e; leads = leads k n }) same
        ∙ ap (λ (m : Mat h.field (X.dim v) (X.dim w)). m.at x y) (along_join X first (path_join (r.path k) last) ∙ ap (λ m. along X first · m) (along_join X (r.path k) last))
      where
        leads : (k : ℕ) → k < length rel.terms → Leads h.quiver v (composite a (term_at rel.terms k).path b).arrows w
        leads k n =
            let m = meets (term_at rel.terms k) (there k n) in
            let hp = (All-contains (IsTerm h) rel.terms (term_at rel.terms k) is.terms (there k n)).path in
            let whole = IsPath-concat h.quiver a (concat (term_at rel.terms k).path b) ha (IsPath-concat h.quiver (term_at rel.terms k).path b hp hb m.1) m.0 in
            subst (λ z. Leads h.quiver z (composite a (term_at rel.terms k).path b).arrows w) s (subst (Leads h.quiver a.start (composite a (term_at rel.terms k).path b).arrows) e whole.leads)

    between_zero : sum_over h.field rel.terms (λ t. mul h.field t.coef (entry (composite a t.path b))) ≡ 0
    unfolding value_of_relation
    between_zero =
        sym (sum_over-places h.field _ rel.terms (λ t. mul h.field t.coef (entry (composite a t.path b))))
        ∙ sum-same h.field (length rel.terms) _ (λ k. mul h.field (r.coefficient k) ((along X first · (along X (r.path k) · along X last)).at x y))
        (λ k n. ap₂ (mul h.field) (sym (sum.coefficient k n)) (term_entry k n))
        ∙ ap (λ n. sum_to h.field n (λ k. mul h.field (r.coefficient k) ((along X first · (along X (r.path k) · along X last)).at x y))) (sym sum.count)
        ∙ sym (combine-at r.terms r.coefficient (λ k. along X first · (along X (r.path k) · along X last)) x y)
        ∙ ap (λ (m : Mat h.field (X.dim v) (X.dim w)). m.at x y) (
        sym (mul_combine r.terms r.coefficient (along X first) (λ k. along X (r.path k) · along X last))
        ∙ ap (λ m. along X first · m) (sym (combine_mul r.terms r.coefficient (λ k. along X (r.path k)) (along X last)) ∙ ap (λ m. m · along X last) vanishes ∙ zeros_mul (along X last))
        ∙ mul_zeros (along X first))
        ∙ zeros-at h.field (X.dim v) (X.dim w) x y

  pub entry_kills : Kills h entry
  entry_kills = record { small = entry_small; long = entry_long; relations = relations }
    where
      relations : (a b : Path) (rel : Relation) → IsPath h.quiver a → IsPath h.quiver b → Contains h.relations rel
          → ((t : Term) → Contains rel.terms t → (a.end ≡ t.path.start) × (t.path.end ≡ b.start))
          → sum_over h.field rel.terms (λ t. mul h.field t.coef (entry (composite a t.path b))) ≡ 0
      relations a b rel ha hb c meets = elim (cases_eq a.start v) [
        | inr d ↦ sum_over-zeros h.field rel.terms _ (λ t k. ap (mul h.field t.coef) (entry-apart (composite a t.path b) (λ r. d r.starts)) ∙ mul_zero h.field t.coef)
        | inl s ↦ elim (cases_eq b.end w) [
          | inr d ↦ sum_over-zeros h.field rel.terms _ (λ t k. ap (mul h.field t.coef) (entry-apart (composite a t.path b) (λ r. d r.ends)) ∙ mul_zero h.field t.coef)
          | inl e ↦ between_zero a b rel ha hb c meets s e
        ]
      ]
