-- All combinations of rows, place by place.
use Rattle.std.proofs.Common.{ℕ, ◌<◌, ◌≡◌, ◌+◌, List, length, get_or, sym, ap, ◌∙◌, inl, inr, arith, subst}
use Rattle.std.proofs.lemmas.Bool.{cases_eq}
use Rattle.std.specs.Prelude.{Bool, true, false, MatchBool}
use Rattle.linear_algebra.specs.Field.{Gf, order}
use Rattle.linear_algebra.specs.Matrix.{Mat, Row, ◌⊟◌, ◌·◌}
use Rattle.linear_algebra.specs.Rank.{IsInSpan}
use Rattle.linear_algebra.specs.Rows.{rows_of, times}
use Rattle.linear_algebra.specs.Typed.{as_row}
use Rattle.linear_algebra.proofs.PartsLaws.{Row-eq}
use Rattle.linear_algebra.proofs.Solving.{in_span_mul, in_span_sum, in_span_trans}
use Rattle.linear_algebra.proofs.Products.{products, sums}
use Rattle.linear_algebra.proofs.Typed.{as_row-times}
use Rattle.fp_linear.specs.Slices.{AreElements}
use Rattle.fp_linear.proofs.Cells.{IsGrid-rows_of}
use Rattle.path_algebra.specs.declared.Header.{Header}
use Rattle.local_modules.specs.Algebra.{Algebra, Element}
use Rattle.local_modules.specs.Ideal.{IsCongruent}
use Rattle.local_modules.specs.Subalgebra.{IsSubalgebra, IsIdealOf, CommutesModulo, IsUnitOf, IsListedOf}
use Rattle.local_modules.proofs.AlgebraLaws.{difference_product, product_difference}
use Rattle.local_modules.proofs.ResidueRing.{congruent_member}
use Rattle.module_types.specs.declared.Module.{Module}
use Rattle.claim_conditions.specs.LocalConditions.{families_of}
use Rattle.local_checks.specs.Standing.{standing}
use Rattle.local_checks.specs.Families.{IsFamily, family, family_rows}
use Rattle.local_checks.proofs.Spaces.{as_row_is}
use Rattle.residue_checks.specs.RingsModulo.{IsListedSpace}
use Rattle.residue_checks.specs.Representatives.{AreRepresentatives}
use Rattle.residue_checks.specs.ZeroOrUnits.{IsZeroOrUnitOf, BeginsWith, AreZeroOrUnits, AreZeroOrUnitsBelow}

-- the combination that is written
pub combination_is : (q : Gf) (b n : ℕ) (digits some y : List ℕ) → AreElements q some → y ≡ times q n digits (rows_of b n some) → as_row q n y ≡ as_row q b digits · standing q b n some
combination_is q b n digits some y a e = ap (as_row q n) e ∙ as_row-times q b n digits (rows_of b n some) (IsGrid-rows_of q b n some a)

pub combination_of : (h : Header) (m : Module) (digits some old y : List ℕ) → IsFamily h m old → AreElements h.field some → y ≡ times h.field (length old) digits (rows_of (length digits) (length old) some)
    → family h m y ≡ as_row h.field (length digits) digits · family_rows h m (length digits) some
combination_of h m digits some old y f a e =
    combination_is h.field (length digits) (families_of h m).size digits some y a (e ∙ ap (λ (n : ℕ). times h.field n digits (rows_of (length digits) n some)) f.count)

module _ {q : Gf} (E : Algebra q) {n l b : ℕ} (f : Mat q n E.size) (J : Mat q l E.size) (some : Mat q b E.size) where
  -- Where all digits are given there is one combination.
  the_one : (digits : List ℕ) (k : ℕ) → AreElements q digits → length digits ≡ b → k ≡ b → (c : Row q b) → BeginsWith digits k c → c ≡ as_row q b digits
  the_one digits k a e d c h = Row-eq _ _ (λ j s. h j (omega (arith, d, s)) ∙ sym (as_row_is q b digits a e j))

  begins : (digits : List ℕ) (k : ℕ) → AreElements q digits → length digits ≡ b → BeginsWith digits k (as_row q b digits)
  begins digits k a e j s = as_row_is q b digits a e j

  pub one_decided : (digits : List ℕ) (k : ℕ) → AreElements q digits → length digits ≡ b → k ≡ b → (t : Bool) → MatchBool t (IsZeroOrUnitOf E f J (as_row q b digits · some)) (¬ IsZeroOrUnitOf E f J (as_row q b digits · some))
      → MatchBool t (AreZeroOrUnits E f J some digits k) (¬ AreZeroOrUnits E f J some digits k)
  one_decided digits k a e d true u = λ c h. subst (λ (x : Row q b). IsZeroOrUnitOf E f J (x · some)) (sym (the_one digits k a e d c h)) u
  one_decided digits k a e d false u = λ w. u (w (as_row q b digits) (begins digits k a e))

  -- One number at the next place.
  module _ (old new : List ℕ) (k : ℕ) (same : (j : ℕ) → j < k → get_or new j 0 ≡ get_or old j 0) where
    pub some_fail : AreZeroOrUnits E f J some old k → AreZeroOrUnits E f J some new (k + 1)
    some_fail w c h = w c (λ j s. h j (omega (arith, s)) ∙ same j s)

    pub none_below : AreZeroOrUnitsBelow E f J some old k 0
    none_below c h s = absurd (omega (arith, s))

    pub more_below : (x : ℕ) → get_or new k 0 ≡ x → AreZeroOrUnitsBelow E f J some old k x → AreZeroOrUnits E f J some new (k + 1) → AreZeroOrUnitsBelow E f J some old k (x + 1)
    more_below x e u w c h s = elim (cases_eq (c.at 0 k) x) [
      | inl d ↦ w c (λ j t. elim (cases_eq j k) [ inl g ↦ ap (c.at 0) g ∙ d ∙ sym e ∙ ap (λ (i : ℕ). get_or new i 0) (sym g) | inr g ↦ h j (omega (arith, t, g)) ∙ sym (same j (omega (arith, t, g))) ])
      | inr d ↦ u c h (omega (arith, s, d))
    ]

  pub all_below : (digits : List ℕ) (k x : ℕ) → x ≡ order q → AreZeroOrUnitsBelow E f J some digits k x → AreZeroOrUnits E f J some digits k
  all_below digits k x e u c h = u c h (subst (λ (z : ℕ). c.at 0 k < z) (sym e) (c.fits.small 0 k))

-- The class of an element says whether it has an inverse.
module _ {q : Gf} (E : Algebra q) {n l : ℕ} (f : Mat q n E.size) (J : Mat q l E.size) (inside : IsInSpan f J) (ideal : IsIdealOf E f J) where
  unit_of_class : (x y : Element E) → IsCongruent J x y → IsUnitOf E f J y → IsUnitOf E f J x
  unit_of_class x y c u = record {
    inverse = u.inverse;
    inside = u.inside;
    right = joined (E.product x u.inverse) (E.product y u.inverse) (subst (IsInSpan J) (difference_product E x y u.inverse) (ideal.right u.inverse (x ⊟ y) u.inside c)) u.right;
    left = joined (E.product u.inverse x) (E.product u.inverse y) (subst (IsInSpan J) (product_difference E u.inverse x y) (ideal.left u.inverse (x ⊟ y) u.inside c)) u.left;
  }
    where
      joined : (a d : Element E) → IsCongruent J a d → IsCongruent J d E.unit → IsCongruent J a E.unit
      joined a d s t = subst (IsInSpan J) (simp (products, sums)) (in_span_sum J (a ⊟ d) (d ⊟ E.unit) s t)

  module _ {b : ℕ} (some : Mat q b E.size) (r : AreRepresentatives f J some) (digits : List ℕ) where
    units_of_all : AreZeroOrUnits E f J some digits 0 → (x : Element E) → IsInSpan f x → (IsInSpan J x → ⊥) → IsUnitOf E f J x
    units_of_all w x s t =
        let c = r.each x s in
        unit_of_class x (c.coordinates · some) c.is (w c.coordinates (λ j k. absurd (omega (arith, k))) (λ z. t (congruent_member J x (c.coordinates · some) c.is z)))

    all_of_units : IsListedOf E f J → AreZeroOrUnits E f J some digits 0
    all_of_units u c h = u.inverses (c · some) (in_span_trans f some (c · some) r.inside (in_span_mul some c))

    pub listed_decided : (t : Bool) → IsSubalgebra E f → (CommutesModulo E f J → ⊥) → MatchBool t (AreZeroOrUnits E f J some digits 0) (¬ AreZeroOrUnits E f J some digits 0)
        → MatchBool t (IsListedSpace E f J) (¬ IsListedSpace E f J)
    listed_decided true s n w = record { subalgebra = s; listed = record { not_commutative = n; inverses = units_of_all w } }
    listed_decided false s n w = λ u. w (all_of_units u.listed)
