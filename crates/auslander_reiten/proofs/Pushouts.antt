-- The pushout of a short exact sequence L → E → M along a homomorphism h : L → Y: again exact, Y → W → M.
use Rattle.std.proofs.Common.{ℕ, ◌≡◌, sym, ap, ap₂, ◌∙◌, subst}
use Rattle.linear_algebra.specs.Field.{Gf}
use Rattle.linear_algebra.specs.Matrix.{Row, zeros, ◌⊞◌, ◌·◌}
use Rattle.linear_algebra.specs.Rank.{IsInSpan}
use Rattle.linear_algebra.proofs.MatrixLaws.{mul_assoc_mat, mul_add_mat, add_mul_mat, mul_zeros, zeros_mul, mul_one_mat}
use Rattle.representations.specs.Quiver.{Quiver}
use Rattle.representations.specs.Rep.{Rep}
use Rattle.representations.specs.Hom.{Hom, ◌≫◌, ◌⊕◌, zero_hom, negative_hom}
use Rattle.representations.specs.Module.{IsMono, IsExact}
use Rattle.representations.specs.Factoring.{FactorsAfter}
use Rattle.representations.specs.Submodule.{quotient_rep, projection}
use Rattle.representations.specs.Kernel.{cokernel}
use Rattle.representations.specs.Sum.{sum_rep, into_first, into_second, onto_first, onto_second, from_sum, into_sum}
use Rattle.representations.proofs.Homs.{compose_assoc, identity_compose, compose_zero, compose_sum, sum_compose, negative_compose, sum_zero, compose-at, sum-at, same-at, identity-at, zero_hom-at}
use Rattle.representations.proofs.Submodules.{projection_epi}
use Rattle.representations.proofs.Kernels.{IsExact-zero, cokernel_exact, cokernel_universal}
use Rattle.representations.proofs.Sums.{second_second, second_first, whole_sum, first_from_sum, second_from_sum, from_sum_by_parts, into_sum_by_parts, into_sum_first}
use Rattle.auslander_reiten.specs.AlmostSplit.{IsShortExact}
use Rattle.auslander_reiten.proofs.Chains.{zero_on_rows, equal_of_difference}

module _ {q : Gf} {Q : Quiver} {L E M Y : Rep q Q} (f : Hom L E) (g : Hom E M) (e : IsShortExact f g) (h : Hom L Y) where
  abbrev pub difference : Hom L (sum_rep E Y)
  difference = into_sum f (negative_hom h)

  abbrev pub pushout : Rep q Q
  pushout = quotient_rep (cokernel difference)

  abbrev onto : Hom (sum_rep E Y) pushout
  onto = projection (cokernel difference)

  abbrev pub from_middle : Hom E pushout
  from_middle = into_first E Y ≫ onto

  abbrev pub from_other : Hom Y pushout
  from_other = into_second E Y ≫ onto

  -- The square commutes.
  pub square : f ≫ from_middle ≡ h ≫ from_other
  square = equal_of_difference (f ≫ from_middle) (h ≫ from_other) (
      ap₂ (λ a b. a ⊕ b) (sym (compose_assoc f (into_first E Y) onto))
      (sym (negative_compose h from_other) ∙ sym (compose_assoc (negative_hom h) (into_second E Y) onto))
      ∙ sym (sum_compose (f ≫ into_first E Y) (negative_hom h ≫ into_second E Y) onto)
      ∙ ap (λ z. z ≫ onto) (sym (into_sum_by_parts f (negative_hom h)))
      ∙ IsExact-zero difference onto (cokernel_exact difference))

  -- The homomorphism to M: g on E, and zero on Y.
  to_end_zero : difference ≫ from_sum g (zero_hom Y M) ≡ zero_hom L M
  to_end_zero =
      ap (λ z. difference ≫ z) (from_sum_by_parts g (zero_hom Y M))
      ∙ compose_sum difference (onto_first E Y ≫ g) (onto_second E Y ≫ zero_hom Y M)
      ∙ ap₂ (λ a b. a ⊕ b)
      (sym (compose_assoc difference (onto_first E Y) g) ∙ ap (λ z. z ≫ g) (into_sum_first f (negative_hom h)) ∙ IsExact-zero f g e.exact)
      (ap (λ z. difference ≫ z) (compose_zero (onto_second E Y) M) ∙ compose_zero difference M)
      ∙ sum_zero (zero_hom L M)

  to_end_factor : FactorsAfter onto (from_sum g (zero_hom Y M))
  to_end_factor = cokernel_universal difference (from_sum g (zero_hom Y M)) to_end_zero

  pub to_end : Hom pushout M
  to_end = to_end_factor.factor

  onto_end : onto ≫ to_end ≡ from_sum g (zero_hom Y M)
  unfolding to_end
  onto_end = to_end_factor.is

  pub middle_end : from_middle ≫ to_end ≡ g
  middle_end = compose_assoc (into_first E Y) onto to_end ∙ ap (λ z. into_first E Y ≫ z) onto_end ∙ first_from_sum g (zero_hom Y M)

  pub other_end : from_other ≫ to_end ≡ zero_hom Y M
  other_end = compose_assoc (into_second E Y) onto to_end ∙ ap (λ z. into_second E Y ≫ z) onto_end ∙ second_from_sum g (zero_hom Y M)

  -- Y is embedded.
  embedded : (w : ℕ) (y : Row q (Y.dim w)) → IsInSpan (difference.at w) (y · (into_second E Y).at w) → y ≡ zeros q 1 (Y.dim w)
  embedded w y s =
      sym (mul_one_mat y) ∙ ap (λ z. y · z) (sym (identity-at Y w) ∙ sym (same-at (second_second E Y) w) ∙ compose-at (into_second E Y) (onto_second E Y) w)
      ∙ sym (mul_assoc_mat y ((into_second E Y).at w) ((onto_second E Y).at w))
      ∙ ap (λ z. z · (onto_second E Y).at w) (sym s.is ∙ ap (λ z. z · difference.at w) none ∙ zeros_mul (difference.at w))
      ∙ zeros_mul ((onto_second E Y).at w)
    where
      none : s.by ≡ zeros q 1 (L.dim w)
      none = e.mono w s.by (
          ap (λ z. s.by · z) (sym (same-at (into_sum_first f (negative_hom h)) w) ∙ compose-at difference (onto_first E Y) w)
          ∙ sym (mul_assoc_mat s.by (difference.at w) ((onto_first E Y).at w)) ∙ ap (λ z. z · (onto_first E Y).at w) s.is
          ∙ mul_assoc_mat y ((into_second E Y).at w) ((onto_first E Y).at w)
          ∙ ap (λ z. y · z) (sym (compose-at (into_second E Y) (onto_first E Y) w) ∙ same-at (second_first E Y) w ∙ zero_hom-at Y E w) ∙ mul_zeros y)

  pub other_mono : IsMono from_other
  other_mono w y z = embedded w y ((cokernel_exact difference).exact w (y · (into_second E Y).at w) (
      mul_assoc_mat y ((into_second E Y).at w) (onto.at w) ∙ ap (λ m. y · m) (sym (compose-at (into_second E Y) onto w)) ∙ z))

  -- What goes to zero in M comes from Y.
  onto_by_parts : onto ≡ onto_first E Y ≫ from_middle ⊕ onto_second E Y ≫ from_other
  onto_by_parts =
      sym (identity_compose onto) ∙ ap (λ z. z ≫ onto) (sym (whole_sum E Y)) ∙ sum_compose (onto_first E Y ≫ into_first E Y) (onto_second E Y ≫ into_second E Y) onto
      ∙ ap₂ (λ a b. a ⊕ b) (compose_assoc (onto_first E Y) (into_first E Y) onto) (compose_assoc (onto_second E Y) (into_second E Y) onto)

  onto_end_first : onto ≫ to_end ≡ onto_first E Y ≫ g
  onto_end_first = onto_end ∙ from_sum_by_parts g (zero_hom Y M) ∙ ap (λ z. onto_first E Y ≫ g ⊕ z) (compose_zero (onto_second E Y) M) ∙ sum_zero (onto_first E Y ≫ g)

  from_both : (w : ℕ) (z : Row q ((sum_rep E Y).dim w)) → IsInSpan (f.at w) (z · (onto_first E Y).at w) → IsInSpan (from_other.at w) (z · onto.at w)
  from_both w z s = record {
    by = s.by · h.at w ⊞ z · (onto_second E Y).at w;
    is = add_mul_mat (s.by · h.at w) (z · (onto_second E Y).at w) (from_other.at w)
        ∙ ap (λ y. y ⊞ z · (onto_second E Y).at w · from_other.at w) (
        mul_assoc_mat s.by (h.at w) (from_other.at w) ∙ ap (λ y. s.by · y) (sym (compose-at h from_other w) ∙ sym (same-at square w) ∙ compose-at f from_middle w)
        ∙ sym (mul_assoc_mat s.by (f.at w) (from_middle.at w)) ∙ ap (λ y. y · from_middle.at w) s.is)
        ∙ ap₂ (λ a b. a ⊞ b) (mul_assoc_mat z ((onto_first E Y).at w) (from_middle.at w)) (mul_assoc_mat z ((onto_second E Y).at w) (from_other.at w))
        ∙ sym (mul_add_mat z ((onto_first E Y).at w · from_middle.at w) ((onto_second E Y).at w · from_other.at w))
        ∙ ap (λ y. z · y) (sym (ap₂ (λ a b. a ⊞ b) (compose-at (onto_first E Y) from_middle w) (compose-at (onto_second E Y) from_other w))
        ∙ sym (sum-at (onto_first E Y ≫ from_middle) (onto_second E Y ≫ from_other) w) ∙ sym (same-at onto_by_parts w));
  }

  pub other_exact : IsExact from_other to_end
  other_exact = record {
    complex = λ w x. zero_on_rows from_other to_end other_end w x;
    exact = λ w x c.
        let s = projection_epi (cokernel difference) w x in
        subst (IsInSpan (from_other.at w)) s.is (from_both w s.by (e.exact.exact w (s.by · (onto_first E Y).at w) (
        mul_assoc_mat s.by ((onto_first E Y).at w) (g.at w) ∙ ap (λ z. s.by · z) (sym (compose-at (onto_first E Y) g w) ∙ sym (same-at onto_end_first w) ∙ compose-at onto to_end w)
        ∙ sym (mul_assoc_mat s.by (onto.at w) (to_end.at w)) ∙ ap (λ z. z · to_end.at w) s.is ∙ c)));
  }
