-- Spaces of families that have products, and that commute modulo an ideal.
use Rattle.std.proofs.Common.{ℕ, ◌<◌, ◌≡◌, ◌+◌, List, get_or, length, sym, ap, ap₂, ◌∙◌, inl, inr, arith, subst}
use Rattle.std.proofs.lemmas.Bool.{cases_eq}
use Rattle.std.specs.Prelude.{Bool, true, false, MatchBool}
use Rattle.linear_algebra.specs.Field.{Gf, add, mul, neg}
use Rattle.linear_algebra.specs.Matrix.{Mat, negative, ◌⊞◌, ◌⊟◌, ◌⊙◌}
use Rattle.linear_algebra.proofs.MatrixLaws.{difference, neg_scale, one_scale}
use Rattle.linear_algebra.specs.Parts.{row}
use Rattle.linear_algebra.specs.Rank.{IsInSpan}
use Rattle.linear_algebra.specs.Typed.{as_row}
use Rattle.linear_algebra.proofs.PartsLaws.{Row-eq}
use Rattle.linear_algebra.proofs.Solving.{row_in_span, in_span_self}
use Rattle.fp_linear.specs.Slices.{AreElements, plus_multiple}
use Rattle.fp_linear.proofs.Slices.{length-plus, plus-at}
use Rattle.path_algebra.specs.declared.Header.{Header}
use Rattle.module_types.specs.declared.Module.{Module}
use Rattle.claim_conditions.specs.LocalConditions.{families_of}
use Rattle.local_checks.specs.Standing.{space}
use Rattle.local_checks.specs.Families.{IsFamily, family, family_space}
use Rattle.local_modules.specs.Algebra.{Algebra, Element}
use Rattle.local_modules.specs.Ideal.{IsCongruent}
use Rattle.local_modules.specs.Subalgebra.{IsSubalgebra, CommutesModulo}
use Rattle.local_modules.proofs.Subalgebras.{products_by_rows, commutes_by_rows}
use Rattle.local_checks.specs.Closures.{IsMultipliedBy, CommutesWith, HasProducts}
use Rattle.local_checks.proofs.Spaces.{as_row_is}

-- A multiple of a row is added to another.
pub added_row : (q : Gf) (n factor : ℕ) (source old new : List ℕ) → AreElements q source → AreElements q old → AreElements q new → length source ≡ n → length old ≡ n → new ≡ plus_multiple q factor source old
    → as_row q n new ≡ as_row q n old ⊞ factor ⊙ as_row q n source
unfolding ◌⊞◌ ◌⊙◌
added_row q n factor source old new a b c s o e = Row-eq _ _ (λ j l.
    as_row_is q n new c (ap length e ∙ length-plus q factor source old ∙ o) j ∙ ap (λ (x : List ℕ). get_or x j 0) e ∙ plus-at q factor source old j (omega (arith, l, o))
    ∙ sym (ap₂ (λ x y. add q x (mul q factor y)) (as_row_is q n old b o j) (as_row_is q n source a s j)))

module _ {q : Gf} (E : Algebra q) {k : ℕ} (rows : Mat q k E.size) where
  pub multiplied_more : (x y : Element E) (n : ℕ) → y ≡ row n rows → IsMultipliedBy E rows x n → IsInSpan rows (E.product x y) → IsMultipliedBy E rows x (n + 1)
  multiplied_more x y n e h c j l = elim (cases_eq j n) [ inl d ↦ subst (λ (i : ℕ). IsInSpan rows (E.product x (row i rows))) (sym d) (subst (λ z. IsInSpan rows (E.product x z)) e c) | inr o ↦ h j (omega arith) ]

  pub products_of_rows : ((i : ℕ) → i < k → IsMultipliedBy E rows (row i rows) k) → HasProducts E rows
  products_of_rows h x y s t = products_by_rows E rows rows rows (λ i j a b. h i a j b) x y s t

  pub rows_of_products : HasProducts E rows → (i : ℕ) → i < k → IsMultipliedBy E rows (row i rows) k
  rows_of_products h i a j b = h (row i rows) (row j rows) (row_in_span rows rows i (in_span_self rows)) (row_in_span rows rows j (in_span_self rows))

  pub subalgebra_decided : (b : Bool) → IsInSpan rows E.unit → MatchBool b (HasProducts E rows) (¬ HasProducts E rows) → MatchBool b (IsSubalgebra E rows) (¬ IsSubalgebra E rows)
  subalgebra_decided true u h = record { has_unit = u; has_products = h }
  subalgebra_decided false u h = λ s. h s.has_products

module _ {q : Gf} (E : Algebra q) {n k : ℕ} (ring : Mat q n E.size) (ideal : Mat q k E.size) where
  pub commutes_more : (x y : Element E) (c : ℕ) → y ≡ row c ring → CommutesWith E ring ideal x c → IsCongruent ideal (E.product x y) (E.product y x) → CommutesWith E ring ideal x (c + 1)
  commutes_more x y c e h p j l = elim (cases_eq j c) [
    | inl d ↦ subst (λ (i : ℕ). IsCongruent ideal (E.product x (row i ring)) (E.product (row i ring) x)) (sym d) (subst (λ z. IsCongruent ideal (E.product x z) (E.product z x)) e p)
    | inr o ↦ h j (omega arith)
  ]

  pub commutes_of_rows : ((i : ℕ) → i < n → CommutesWith E ring ideal (row i ring) n) → CommutesModulo E ring ideal
  commutes_of_rows h = commutes_by_rows E ring ideal (λ i j a b. h i a j b)

  pub rows_of_commutes : CommutesModulo E ring ideal → (i : ℕ) → i < n → CommutesWith E ring ideal (row i ring) n
  rows_of_commutes h i a j b = h (row i ring) (row j ring) (row_in_span ring ring i (in_span_self ring)) (row_in_span ring ring j (in_span_self ring))

-- The difference of two products is a member or not.
pub commute_decided : (h : Header) (m : Module) (rows pivots : List ℕ) (x y : Element (families_of h m)) (s t new : List ℕ) (factor : ℕ) → IsFamily h m s → IsFamily h m t → AreElements h.field new → family h m t ≡ x → family h m s ≡ y
    → factor ≡ neg h.field 1 → new ≡ plus_multiple h.field factor s t → (b : Bool)
    → MatchBool b (IsInSpan (space h.field (length new) rows pivots) (as_row h.field (length new) new)) (¬ IsInSpan (space h.field (length new) rows pivots) (as_row h.field (length new) new))
    → MatchBool b (IsCongruent (family_space h m rows pivots) x y) (¬ IsCongruent (family_space h m rows pivots) x y)
commute_decided h m rows pivots x y s t new factor fs ft a ex ey ef en b d =
    let is : family h m new ≡ x ⊟ y = added_row h.field (families_of h m).size factor s t new fs.elements ft.elements a fs.count ft.count en
    ∙ ap₂ (λ (u v : Element (families_of h m)). u ⊞ factor ⊙ v) ex ey ∙ ap (λ (z : ℕ). x ⊞ z ⊙ y) ef ∙ less_multiple x y in
    subst (λ (z : Element (families_of h m)). MatchBool b (IsInSpan (family_space h m rows pivots) z) (¬ IsInSpan (family_space h m rows pivots) z)) is
    (subst (λ (n : ℕ). MatchBool b (IsInSpan (space h.field n rows pivots) (as_row h.field n new)) (¬ IsInSpan (space h.field n rows pivots) (as_row h.field n new))) (ap length en ∙ length-plus h.field factor s t ∙ ft.count) d)
  where
    less_multiple : {q : Gf} {m n : ℕ} (x y : Mat q m n) → x ⊞ neg q 1 ⊙ y ≡ x ⊟ y
    less_multiple x y = ap (λ z. x ⊞ z) (neg_scale 1 y ∙ ap negative (one_scale y)) ∙ sym (difference x y)
