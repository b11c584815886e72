-- The endomorphisms of a local module that are no isomorphisms have a finite basis, and there is a functional that is zero on them and 1 on the
-- identity; it comes from one on Hom (P, M), where P covers M.
use Rattle.std.proofs.Common.{◌≡◌, ◌⊎◌, inl, inr, sym, ap, ◌∙◌, subst}
use Rattle.linear_algebra.specs.Field.{Gf}
use Rattle.linear_algebra.specs.Matrix.{Mat, Row, zeros, one, ◌·◌}
use Rattle.linear_algebra.specs.Rank.{IsInColumnSpan, IsSeparate}
use Rattle.linear_algebra.specs.LinearMaps.{IsLinear, matrix_of}
use Rattle.linear_algebra.proofs.MatrixLaws.{mul_assoc_mat, add_mul_mat, scale_mul, zero_scale, mul_zeros, zeros_mul}
use Rattle.linear_algebra.proofs.LinearMaps.{mul-matrix_of}
use Rattle.linear_algebra.proofs.Solving.{solve_or, factors_through, zeros_not_one}
use Rattle.representations.specs.Quiver.{Quiver, BoundQuiver}
use Rattle.representations.specs.Rep.{Rep}
use Rattle.representations.specs.Hom.{Hom, ◌≫◌, identity, zero_hom}
use Rattle.representations.specs.Module.{IsIso, IsNilpotent, IsEpi}
use Rattle.representations.specs.HomSpace.{HomBasis}
use Rattle.representations.proofs.Homs.{compose_identity, compose_zero, zero_multiple, power-zero, power-suc}
use Rattle.representations.proofs.Factoring.{epi_cancels}
use Rattle.representations.proofs.HomSpace.{hom_basis, coordinates, hom-coordinates, coordinates-hom, coordinates-sum, coordinates-multiple, hom_sum, hom_scale, compose_linear_right}
use Rattle.projectives.specs.TwoSided.{TwoSided}
use Rattle.projectives.specs.Pairing.{IsFunctional, pairing, IsPairingAfter}
use Rattle.projectives.proofs.Pairing.{perfect_after}
use Rattle.local_modules.specs.Local.{IsLocal}
use Rattle.local_modules.proofs.DecidedSpaces.{Spanning, spanning_rows}
use Rattle.local_modules.proofs.LocalRings.{never_both, iso_identity, nilpotent_sum, nilpotent_multiple}
use Rattle.auslander_reiten.specs.SequenceData.{LocalPresentation, EndFunctional}

module _ {q : Gf} {Q : Quiver} {M : Rep q Q} (L : IsLocal M) where
  abbrev pub ends : HomBasis M M
  ends = hom_basis M M

  abbrev pub Nilpotent : Row q ends.size → Type 0
  Nilpotent x = IsNilpotent (ends.hom x)

  zero_nilpotent : Nilpotent (zeros q 1 ends.size)
  zero_nilpotent = record {
    exponent = 1;
    vanishes = power-suc (ends.hom (zeros q 1 ends.size)) 0 ∙ ap (λ z. ends.hom (zeros q 1 ends.size) ≫ z) (power-zero (ends.hom (zeros q 1 ends.size)))
        ∙ compose_identity (ends.hom (zeros q 1 ends.size)) ∙ ap ends.hom (sym (zero_scale (zeros q 1 ends.size))) ∙ hom_scale ends 0 (zeros q 1 ends.size) ∙ zero_multiple (ends.hom (zeros q 1 ends.size));
  }

  -- Rows whose combinations are the nilpotent endomorphisms, in coordinates.
  radical_rows : Spanning Nilpotent
  radical_rows = spanning_rows Nilpotent zero_nilpotent
      (λ x y m n. subst IsNilpotent (sym (hom_sum ends x y)) (nilpotent_sum L (ends.hom x) (ends.hom y) m n))
      (λ c x n. subst IsNilpotent (sym (hom_scale ends c x)) (nilpotent_multiple L c (ends.hom x) n))
      (λ x. elim (L.decides (ends.hom x)) [ inl i ↦ inr (λ n. never_both L (ends.hom x) n i) | inr n ↦ inl n ])

  -- The column of a functional that is zero on the nilpotent endomorphisms and 1 on the identity.
  separate : IsSeparate radical_rows.rows (coordinates ends (identity M))
  separate = elim (solve_or radical_rows.rows (coordinates ends (identity M))) [
    | inr s ↦ s
    | inl s ↦ absurd (never_both L (identity M) (subst IsNilpotent (ap ends.hom s.is ∙ hom-coordinates ends (identity M)) (radical_rows.inside s.by)) (iso_identity M))
  ]

  pub at_end : Hom M M → Mat q 1 1
  at_end x = coordinates ends x · separate.functional

  pub at_end-nilpotent : (x : Hom M M) → IsNilpotent x → at_end x ≡ zeros q 1 1
  unfolding at_end
  at_end-nilpotent x n =
      let s = radical_rows.spans (coordinates ends x) (subst IsNilpotent (sym (hom-coordinates ends x)) n) in
      ap (λ z. z · separate.functional) (sym s.is) ∙ mul_assoc_mat s.by radical_rows.rows separate.functional
      ∙ ap (λ z. s.by · z) separate.kills ∙ mul_zeros s.by

  pub at_end-identity : at_end (identity M) ≡ one q 1
  unfolding at_end
  at_end-identity = separate.sees

  -- From End M to Hom (P, M) along a surjection c.
  module _ {P : Rep q Q} (c : Hom P M) (onto : IsEpi c) where
    homs : HomBasis P M
    homs = hom_basis P M

    composed : Row q ends.size → Row q homs.size
    composed x = coordinates homs (c ≫ ends.hom x)

    composed_linear : IsLinear composed
    unfolding composed
    composed_linear = compose_linear_right ends homs c

    zero_row : (x : Row q ends.size) → composed x ≡ zeros q 1 homs.size → x · separate.functional ≡ zeros q 1 1
    unfolding composed
    zero_row x e =
        ap (λ z. z · separate.functional) (sym (coordinates-hom ends x) ∙ ap (coordinates ends) (epi_cancels c onto (ends.hom x) (zero_hom M M) (
        sym (hom-coordinates homs (c ≫ ends.hom x)) ∙ ap homs.hom (e ∙ sym (zero_scale (coordinates homs (zero_hom P M))))
        ∙ hom_scale homs 0 (coordinates homs (zero_hom P M)) ∙ zero_multiple (homs.hom (coordinates homs (zero_hom P M))) ∙ sym (compose_zero c M))
        ∙ sym (zero_multiple (zero_hom M M))) ∙ coordinates-multiple ends 0 (zero_hom M M) ∙ zero_scale (coordinates ends (zero_hom M M)))
        ∙ zeros_mul separate.functional

    column : IsInColumnSpan (matrix_of composed) separate.functional
    column = factors_through (matrix_of composed) separate.functional (λ x e. zero_row x (sym (mul-matrix_of composed composed_linear x) ∙ e))

    pub carried : Hom P M → Mat q 1 1
    carried y = coordinates homs y · column.by

    pub carried_linear : IsFunctional carried
    unfolding carried
    carried_linear = record {
      of_sum = λ a b. ap (λ z. z · column.by) (coordinates-sum homs a b) ∙ add_mul_mat (coordinates homs a) (coordinates homs b) column.by;
      of_multiple = λ n a. ap (λ z. z · column.by) (coordinates-multiple homs n a) ∙ scale_mul n (coordinates homs a) column.by;
    }

    pub carried_is : (x : Hom M M) → carried (c ≫ x) ≡ at_end x
    unfolding carried composed at_end
    carried_is x =
        ap (λ z. coordinates homs (c ≫ z) · column.by) (sym (hom-coordinates ends x))
        ∙ ap (λ z. z · column.by) (sym (mul-matrix_of composed composed_linear (coordinates ends x)))
        ∙ mul_assoc_mat (coordinates ends x) (matrix_of composed) column.by ∙ ap (λ z. coordinates ends x · z) column.is

-- Each local module with a minimal presentation has such a functional.
module _ {q : Gf} {A : BoundQuiver} (T : TwoSided q A) {M : Rep q A.quiver} (D : LocalPresentation T M) where
  represented : IsPairingAfter T D.h D.u (carried D.local D.c D.presentation.onto)
  represented = perfect_after T D.h D.u M D.is_module (carried D.local D.c D.presentation.onto) (carried_linear D.local D.c D.presentation.onto)

  at_nilpotent : (x : Hom M M) → (IsIso x → ⊥) → IsIso x ⊎ IsNilpotent x → pairing T D.h D.u (D.c ≫ x) represented.by ≡ zeros q 1 1
  at_nilpotent x n (inl i) = absurd (n i)
  at_nilpotent x n (inr z) = represented.is (D.c ≫ x) ∙ carried_is D.local D.c D.presentation.onto x ∙ at_end-nilpotent D.local x z

  at_identity : pairing T D.h D.u (D.c ≫ identity M) represented.by ≡ one q 1
  at_identity = represented.is (D.c ≫ identity M) ∙ carried_is D.local D.c D.presentation.onto (identity M) ∙ at_end-identity D.local

  pub end_functional : EndFunctional T D
  end_functional = record {
    t = represented.by;
    vanishes = λ x n. at_nilpotent x n (D.local.decides x);
    seen = identity M;
    sees = λ e. zeros_not_one q (sym e ∙ at_identity);
  }
