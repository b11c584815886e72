-- The places of the components: component i of a row stands after those before it.
use Rattle.std.proofs.Common.{ℕ, zero, suc, ◌+◌, ◌<◌, ◌≡◌, inl, inr, refl, sym, ap, ap₂, ◌∙◌, arith, not-suc-le-zero, subst}
use Rattle.std.proofs.lemmas.Bool.{cases_eq}
use Rattle.linear_algebra.specs.Field.{Gf}
use Rattle.linear_algebra.specs.Matrix.{Row, ◌⊞◌, ◌·◌, stack}
use Rattle.linear_algebra.specs.Parts.{left_part, right_part}
use Rattle.linear_algebra.specs.BlockFamilies.{total}
use Rattle.linear_algebra.proofs.MatrixLaws.{mul_zeros, mul_one_mat, add_zeros, zeros_add}
use Rattle.linear_algebra.proofs.Blocks.{beside_stack}
use Rattle.linear_algebra.proofs.PartsLaws.{beside_parts, left_part-at, right_part-at}
use Rattle.linear_algebra.proofs.BlockFamilies.{total_grows}
use Rattle.representations.specs.Quiver.{Quiver}
use Rattle.representations.specs.Rep.{Rep}
use Rattle.representations.specs.Hom.{Hom, identity, zero_hom}
use Rattle.representations.specs.Sum.{sum_family, from_sum}
use Rattle.representations.proofs.Homs.{identity-at, zero_hom-at, same-at, compose_zero}
use Rattle.representations.proofs.SumFamilies.{from_family}
use Rattle.projectives.specs.Words.{Words, projective}
use Rattle.projectives.specs.Families.{choose, family_in, projectives}
use Rattle.projectives.specs.Components.{family_out, component}
use Rattle.projectives.proofs.Families.{choose-same, choose-other, in-from_family, equal_on_parts}

module _ {q : Gf} {Q : Quiver} where
  pub sum_family-dim : (k : ℕ) (X : ℕ → Rep q Q) (w : ℕ) → (sum_family k X).dim w ≡ total k (λ j. (X j).dim w)
  unfolding sum_family
  sum_family-dim zero X w = refl
  sum_family-dim (suc k) X w = ap (λ n. n + (X k).dim w) (sum_family-dim k X w)

  -- a row under a homomorphism out of a sum of two
  from_sum-row : {X Y Z : Rep q Q} (f : Hom X Z) (g : Hom Y Z) (w : ℕ) (x : Row q (X.dim w + Y.dim w)) → x · (from_sum f g).at w ≡ left_part (X.dim w) (Y.dim w) x · f.at w ⊞ right_part (X.dim w) (Y.dim w) x · g.at w
  unfolding from_sum
  from_sum-row {X} {Y} f g w x =
      ap (λ z. z · stack (f.at w) (g.at w)) (sym (beside_parts (X.dim w) (Y.dim w) x))
      ∙ beside_stack (left_part (X.dim w) (Y.dim w) x) (right_part (X.dim w) (Y.dim w) x) (f.at w) (g.at w)

  first_of_two : {X Y Z : Rep q Q} (f : Hom X Z) (g : Hom Y Z) → g ≡ zero_hom Y Z → (w : ℕ) (x : Row q (X.dim w + Y.dim w)) → x · (from_sum f g).at w ≡ left_part (X.dim w) (Y.dim w) x · f.at w
  first_of_two {X} {Y} {Z} f g e w x =
      from_sum-row f g w x
      ∙ ap (λ z. left_part (X.dim w) (Y.dim w) x · f.at w ⊞ right_part (X.dim w) (Y.dim w) x · z) (same-at e w ∙ zero_hom-at Y Z w)
      ∙ ap (λ z. left_part (X.dim w) (Y.dim w) x · f.at w ⊞ z) (mul_zeros (right_part (X.dim w) (Y.dim w) x))
      ∙ add_zeros (left_part (X.dim w) (Y.dim w) x · f.at w)

  second_of_two : {X Y : Rep q Q} (f : Hom X Y) (g : Hom Y Y) → f ≡ zero_hom X Y → g ≡ identity Y → (w : ℕ) (x : Row q (X.dim w + Y.dim w)) → x · (from_sum f g).at w ≡ right_part (X.dim w) (Y.dim w) x
  second_of_two {X} {Y} f g e d w x =
      from_sum-row f g w x
      ∙ ap₂ (λ a b. left_part (X.dim w) (Y.dim w) x · a ⊞ right_part (X.dim w) (Y.dim w) x · b) (same-at e w ∙ zero_hom-at X Y w) (same-at d w ∙ identity-at Y w)
      ∙ ap₂ (λ a b. a ⊞ b) (mul_zeros (left_part (X.dim w) (Y.dim w) x)) (mul_one_mat (right_part (X.dim w) (Y.dim w) x))
      ∙ zeros_add (right_part (X.dim w) (Y.dim w) x)

  -- what is zero on all parts is zero
  none_of_parts : (k : ℕ) (X : ℕ → Rep q Q) (Z : Rep q Q) (f : (j : ℕ) → Hom (X j) Z) → ((j : ℕ) → j < k → f j ≡ zero_hom (X j) Z) → from_family k X f ≡ zero_hom (sum_family k X) Z
  none_of_parts k X Z f h = equal_on_parts k X (from_family k X f) (zero_hom (sum_family k X) Z) (λ i l.
      in-from_family k X f i l ∙ h i l ∙ sym (compose_zero (family_in k X i) Z))

  last_alone : (k : ℕ) (X : ℕ → Rep q Q) → from_family k X (λ j. choose X j k (cases_eq j k) (identity (X k)) (zero_hom (X j) (X k))) ≡ zero_hom (sum_family k X) (X k)
  last_alone k X = none_of_parts k X (X k) (λ j. choose X j k (cases_eq j k) (identity (X k)) (zero_hom (X j) (X k))) (λ j l.
      choose-other X j k (cases_eq j k) (identity (X k)) (zero_hom (X j) (X k)) (omega arith))

  -- Part i of a row: its entries from the place where the parts before it end.
  pub family_out-places : (k : ℕ) (X : ℕ → Rep q Q) (i w : ℕ) → i < k → (x : Row q ((sum_family k X).dim w)) (p : ℕ) → p < (X i).dim w → (x · (family_out k X i).at w).at 0 p ≡ x.at 0 (total i (λ j. (X j).dim w) + p)
  unfolding sum_family family_out from_family
  family_out-places zero X i w h x p l = absurd (not-suc-le-zero h)
  family_out-places (suc k) X i w h x p l = elim (cases_eq i k) [
    | inl e ↦ subst (λ i. (x · (family_out (suc k) X i).at w).at 0 p ≡ x.at 0 (total i (λ j. (X j).dim w) + p)) (sym e) (
        ap (λ (z : Row q ((X k).dim w)). z.at 0 p) (second_of_two (from_family k X (λ j. choose X j k (cases_eq j k) (identity (X k)) (zero_hom (X j) (X k)))) (choose X k k (cases_eq k k) (identity (X k)) (zero_hom (X k) (X k))) (last_alone k X) (choose-same X k (cases_eq k k) (identity (X k)) (zero_hom (X k) (X k))) w x)
        ∙ right_part-at ((sum_family k X).dim w) ((X k).dim w) x 0 p
        ∙ ap (λ n. x.at 0 (n + p)) (sum_family-dim k X w))
    | inr d ↦
        let inside = total_grows (λ j. (X j).dim w) k i (omega arith) in
        let whole = sum_family-dim k X w in
        ap (λ (z : Row q ((X i).dim w)). z.at 0 p) (first_of_two (family_out k X i) (choose X k i (cases_eq k i) (identity (X i)) (zero_hom (X k) (X i))) (choose-other X k i (cases_eq k i) (identity (X i)) (zero_hom (X k) (X i)) (λ e. d (sym e))) w x)
        ∙ family_out-places k X i w (omega arith) (left_part ((sum_family k X).dim w) ((X k).dim w) x) p l
        ∙ left_part-at ((sum_family k X).dim w) ((X k).dim w) x 0 (total i (λ j. (X j).dim w) + p) (omega arith)
  ]

-- So component i of a row of a sum of projective modules begins where the words of those before it end.
pub component-places : {q : Gf} {Q : Quiver} (W : Words q Q) (k : ℕ) (v : ℕ → ℕ) (i w : ℕ) → i < k → (x : Row q ((projectives W k v).dim w)) (p : ℕ) → p < W.count (v i) w
    → (component W k v i w x).at 0 p ≡ x.at 0 (total i (λ j. W.count (v j) w) + p)
component-places W k v i w h x p l = family_out-places k (λ j. projective W (v j)) i w h x p l
