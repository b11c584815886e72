-- Whether an element of a ring has an inverse modulo an ideal, by the rank of its products.
use Rattle.std.proofs.Common.{ℕ, ◌<◌, ◌≡◌, ◌+◌, List, length, sym, ap, ◌∙◌, arith, subst}
use Rattle.std.specs.Prelude.{Bool, true, false, MatchBool}
use Rattle.linear_algebra.specs.Field.{Gf}
use Rattle.linear_algebra.specs.Matrix.{Mat, ◌⊟◌, ◌·◌}
use Rattle.linear_algebra.specs.Parts.{row}
use Rattle.linear_algebra.specs.Rank.{IsInSpan, HasRightInverse}
use Rattle.linear_algebra.specs.RowForm.{IsRowReduced}
use Rattle.linear_algebra.specs.Ranks.{rank}
use Rattle.linear_algebra.proofs.Solving.{in_span_self}
use Rattle.projectives.specs.Projective.{of_rows}
use Rattle.projectives.specs.Yoneda.{row-of_rows}
use Rattle.path_algebra.specs.declared.Header.{Header}
use Rattle.local_modules.specs.Algebra.{Algebra, Element}
use Rattle.local_modules.specs.Residue.{ResidueRing, IsRemainder}
use Rattle.local_modules.specs.Subalgebra.{IsSubalgebra, IsIdealOf, IsUnitOf, subalgebra}
use Rattle.local_modules.proofs.Subalgebras.{subalgebra_embedded}
use Rattle.local_modules.proofs.Embeddings.{embedded_ideal, embedded_unit, unit_embedded}
use Rattle.local_modules.proofs.ResidueRing.{residue}
use Rattle.local_modules.proofs.ResidueRows.{residue_size, unit_from_rank, rank_from_unit}
use Rattle.module_types.specs.declared.Module.{Module}
use Rattle.claim_conditions.specs.LocalConditions.{families_of}
use Rattle.local_checks.specs.Families.{family_space}
use Rattle.local_checks.specs.Remainders.{HaveRemaindersOfRank}
use Rattle.local_checks.proofs.ResidueForms.{remainder_by_rows}
use Rattle.local_checks.proofs.Spaces.{place, space_reduced, space_independent}
use Rattle.residue_checks.specs.RingsModulo.{AreRingAndIdeal, products_with}
use Rattle.residue_checks.specs.ZeroOrUnits.{IsZeroOrUnitOf}

module _ {q : Gf} (E : Algebra q) {n l : ℕ} (f : Mat q n E.size) (independent : HasRightInverse f) (closed : IsSubalgebra E f) (J : Mat q l E.size) (pivot : ℕ → ℕ) (reduced : IsRowReduced J pivot)
    (inside : IsInSpan f J) (ideal : IsIdealOf E f J) where
  abbrev A : Algebra q
  A = subalgebra E f independent closed

  abbrev I : Mat q l A.size
  I = inside.by

  ideal_at : IsIdealOf E f (I · f)
  ideal_at = subst (λ (z : Mat q l E.size). IsIdealOf E f z) (sym inside.is) ideal

  abbrev R : ResidueRing A I
  R = residue A I (embedded_ideal A E f (subalgebra_embedded E f independent closed) I ideal_at)

  forth : IsInSpan (I · f) J
  forth = subst (λ (z : Mat q l E.size). IsInSpan z J) (sym inside.is) (in_span_self J)

  back : IsInSpan J (I · f)
  back = subst (λ (z : Mat q l E.size). IsInSpan J z) (sym inside.is) (in_span_self J)

  size : l + R.ring.size ≡ n
  size = residue_size A E f (subalgebra_embedded E f independent closed) independent I R J pivot reduced forth back

  -- the rows of f times y
  module _ (y : Element E) (m : IsInSpan f y) where
    abbrev pub products : Mat q n E.size
    products = of_rows n (products_with E f y)

    are_products : (i : ℕ) → i < n → row i products ≡ E.product (row i f) (m.by · f)
    are_products i h = row-of_rows n (products_with E f y) i h ∙ ap (E.product (row i f)) (sym m.is)

    module _ (rest : Mat q n E.size) (d : IsRemainder J pivot products rest) where
      pub unit_of_rank : l + rank rest ≡ n → IsUnitOf E f J y
      unit_of_rank h =
          let u = unit_from_rank A E f (subalgebra_embedded E f independent closed) independent I R J pivot reduced forth back m.by products rest are_products d (let s = size in omega (arith, s, h)) in
          subst (IsUnitOf E f J) m.is (subst (λ (z : Mat q l E.size). IsUnitOf E f z (m.by · f)) inside.is (unit_embedded A E f (subalgebra_embedded E f independent closed) I m.by u))

      pub rank_of_unit : IsUnitOf E f J y → l + rank rest ≡ n
      rank_of_unit u =
          let v = embedded_unit A E f (subalgebra_embedded E f independent closed) I m.by (subst (λ (z : Mat q l E.size). IsUnitOf E f z (m.by · f)) (sym inside.is) (subst (IsUnitOf E f J) (sym m.is) u)) in
          let r = rank_from_unit A E f (subalgebra_embedded E f independent closed) independent I R J pivot reduced forth back m.by products rest are_products d v in
          let s = size in omega (arith, s, r)

-- Spaces of families: zero, or by the rank of what is left of the products.
module _ (h : Header) (m : Module) (ring ring_pivots rows pivots : List ℕ) (S : AreRingAndIdeal h m ring ring_pivots rows pivots) (closed : IsSubalgebra (families_of h m) (family_space h m ring ring_pivots))
    (y : Element (families_of h m)) (inside : IsInSpan (family_space h m ring ring_pivots) y) where
  abbrev E : Algebra h.field
  E = families_of h m

  abbrev f : Mat h.field (length ring_pivots) E.size
  f = family_space h m ring ring_pivots

  abbrev J : Mat h.field (length pivots) E.size
  J = family_space h m rows pivots

  pub zero_decided : IsInSpan J y → IsZeroOrUnitOf E f J y
  zero_decided s n = absurd (n s)

  module _ (r : ℕ) (x : HaveRemaindersOfRank h m rows pivots (length ring_pivots) (products_with E f y) r) where
    left : IsRemainder J (place h.field E.size rows pivots S.second) (of_rows (length ring_pivots) (products_with E f y)) x.rest
    left = remainder_by_rows J (place h.field E.size rows pivots S.second) (of_rows (length ring_pivots) (products_with E f y)) x.rest
        (λ i l. subst (λ (z : Element E). IsInSpan J (z ⊟ row i x.rest)) (sym (row-of_rows (length ring_pivots) (products_with E f y) i l)) (x.are i l).differs)
        (λ i t l k. (x.are i l).clear t k)

    pub unit_decided : (b : Bool) → (IsInSpan J y → ⊥) → MatchBool b (length pivots + r ≡ length ring_pivots) (¬ length pivots + r ≡ length ring_pivots) → MatchBool b (IsZeroOrUnitOf E f J y) (¬ IsZeroOrUnitOf E f J y)
    unit_decided true n e = λ k. unit_of_rank E f (space_independent h.field E.size ring ring_pivots S.first) closed J (place h.field E.size rows pivots S.second) (space_reduced h.field E.size rows pivots S.second) S.inside S.ideal y inside x.rest left
        (ap (λ (k : ℕ). length pivots + k) x.rank_is ∙ e)
    unit_decided false n e = λ u. e (ap (λ (k : ℕ). length pivots + k) (sym x.rank_is)
        ∙ rank_of_unit E f (space_independent h.field E.size ring ring_pivots S.first) closed J (place h.field E.size rows pivots S.second) (space_reduced h.field E.size rows pivots S.second) S.inside S.ideal y inside x.rest left (u n))
