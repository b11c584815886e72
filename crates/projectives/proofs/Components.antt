-- The injections and projections of a sum of a family: what they are after one another, and that together they make up the sum.
use Rattle.std.proofs.Common.{ℕ, ◌<◌, ◌≡◌, ◌≢◌, sym, ap, ◌∙◌}
use Rattle.std.proofs.lemmas.Bool.{cases_eq}
use Rattle.linear_algebra.specs.Field.{Gf}
use Rattle.linear_algebra.specs.Matrix.{Row, zeros, ◌·◌}
use Rattle.linear_algebra.specs.BlockFamilies.{sum_all}
use Rattle.linear_algebra.proofs.MatrixLaws.{mul_assoc_mat, mul_one_mat, mul_zeros}
use Rattle.linear_algebra.proofs.BlockFamilies.{sum_all-same, sum_all_mul, mul_sum_all, sum_all-single}
use Rattle.representations.specs.Quiver.{Quiver}
use Rattle.representations.specs.Rep.{Rep}
use Rattle.representations.specs.Hom.{Hom-eq, ◌≫◌, identity, zero_hom, sum_of}
use Rattle.representations.specs.Sum.{sum_family}
use Rattle.representations.proofs.Homs.{compose-at, identity-at, zero_hom-at, same-at, compose_assoc, compose_identity, identity_compose, zero_compose, compose_sum_of, sum_of-at}
use Rattle.projectives.specs.Words.{Words, projective}
use Rattle.projectives.specs.Families.{choose, family_in, projectives}
use Rattle.projectives.specs.Components.{family_out, component, in_component}
use Rattle.projectives.proofs.Families.{choose-same, choose-other, in-from_family, equal_on_parts}

module _ {q : Gf} {Q : Quiver} (k : ℕ) (X : ℕ → Rep q Q) where
  pub in-out : (i : ℕ) → i < k → family_in k X i ≫ family_out k X i ≡ identity (X i)
  unfolding family_out
  in-out i h =
      in-from_family k X (λ j. choose X j i (cases_eq j i) (identity (X i)) (zero_hom (X j) (X i))) i h
      ∙ choose-same X i (cases_eq i i) (identity (X i)) (zero_hom (X i) (X i))

  pub in-out_other : (i j : ℕ) → i < k → i ≢ j → family_in k X i ≫ family_out k X j ≡ zero_hom (X i) (X j)
  unfolding family_out
  in-out_other i j h n =
      in-from_family k X (λ i. choose X i j (cases_eq i j) (identity (X j)) (zero_hom (X i) (X j))) i h
      ∙ choose-other X i j (cases_eq i j) (identity (X j)) (zero_hom (X i) (X j)) n

  in-whole-at : (i w : ℕ) → i < k → (family_in k X i ≫ sum_of k (λ j. family_out k X j ≫ family_in k X j)).at w ≡ (family_in k X i).at w
  in-whole-at i w h =
      same-at (compose_sum_of k (family_in k X i) (λ j. family_out k X j ≫ family_in k X j)) w
      ∙ sum_of-at k (λ j. family_in k X i ≫ (family_out k X j ≫ family_in k X j)) w
      ∙ sum_all-single k i (λ j. (family_in k X i ≫ (family_out k X j ≫ family_in k X j)).at w) h (λ j l n.
      same-at (sym (compose_assoc (family_in k X i) (family_out k X j) (family_in k X j)) ∙ ap (λ z. z ≫ family_in k X j) (in-out_other i j h (λ e. n (sym e))) ∙ zero_compose (X i) (family_in k X j)) w
      ∙ zero_hom-at (X i) (sum_family k X) w)
      ∙ same-at (sym (compose_assoc (family_in k X i) (family_out k X i) (family_in k X i)) ∙ ap (λ z. z ≫ family_in k X i) (in-out i h) ∙ identity_compose (family_in k X i)) w

  -- Each row is the sum of its components.
  pub whole : sum_of k (λ j. family_out k X j ≫ family_in k X j) ≡ identity (sum_family k X)
  whole = equal_on_parts k X _ _ (λ i h. Hom-eq _ _ (λ w. in-whole-at i w h) ∙ sym (compose_identity (family_in k X i)))

module _ {q : Gf} {Q : Quiver} (W : Words q Q) (k : ℕ) (v : ℕ → ℕ) (w : ℕ) where
  pub component_in : (i : ℕ) → i < k → (x : Row q (W.count (v i) w)) → component W k v i w (in_component W k v i w x) ≡ x
  component_in i h x =
      mul_assoc_mat x ((family_in k (λ j. projective W (v j)) i).at w) ((family_out k (λ j. projective W (v j)) i).at w)
      ∙ ap (λ z. x · z) (sym (compose-at (family_in k (λ j. projective W (v j)) i) (family_out k (λ j. projective W (v j)) i) w) ∙ same-at (in-out k (λ j. projective W (v j)) i h) w ∙ identity-at (projective W (v i)) w)
      ∙ mul_one_mat x

  pub component_in_other : (i j : ℕ) → i < k → i ≢ j → (x : Row q (W.count (v i) w)) → component W k v j w (in_component W k v i w x) ≡ zeros q 1 (W.count (v j) w)
  component_in_other i j h n x =
      mul_assoc_mat x ((family_in k (λ j. projective W (v j)) i).at w) ((family_out k (λ j. projective W (v j)) j).at w)
      ∙ ap (λ z. x · z) (sym (compose-at (family_in k (λ j. projective W (v j)) i) (family_out k (λ j. projective W (v j)) j) w) ∙ same-at (in-out_other k (λ j. projective W (v j)) i j h n) w ∙ zero_hom-at (projective W (v i)) (projective W (v j)) w)
      ∙ mul_zeros x

  -- The component i of a sum of rows, one in each component, is the row in it.
  pub component_of_sum : (i : ℕ) → i < k → (x : (i : ℕ) → Row q (W.count (v i) w)) → component W k v i w (sum_all k (λ j. in_component W k v j w (x j))) ≡ x i
  component_of_sum i h x =
      sum_all_mul k (λ j. in_component W k v j w (x j)) ((family_out k (λ j. projective W (v j)) i).at w)
      ∙ sum_all-single k i (λ j. component W k v i w (in_component W k v j w (x j))) h (λ j l n. component_in_other j i l n (x j))
      ∙ component_in i h (x i)

  -- Each row is the sum of its components.
  pub sum_of_components : (x : Row q ((projectives W k v).dim w)) → sum_all k (λ i. in_component W k v i w (component W k v i w x)) ≡ x
  sum_of_components x =
      sum_all-same k _ (λ i. x · (family_out k (λ j. projective W (v j)) i ≫ family_in k (λ j. projective W (v j)) i).at w)
      (λ i h.
      mul_assoc_mat x ((family_out k (λ j. projective W (v j)) i).at w) ((family_in k (λ j. projective W (v j)) i).at w)
      ∙ ap (λ z. x · z) (sym (compose-at (family_out k (λ j. projective W (v j)) i) (family_in k (λ j. projective W (v j)) i) w)))
      ∙ sym (mul_sum_all k x (λ i. (family_out k (λ j. projective W (v j)) i ≫ family_in k (λ j. projective W (v j)) i).at w))
      ∙ ap (λ z. x · z) (sym (sum_of-at k (λ i. family_out k (λ j. projective W (v j)) i ≫ family_in k (λ j. projective W (v j)) i) w) ∙ same-at (whole k (λ j. projective W (v j))) w ∙ identity-at (projectives W k v) w)
      ∙ mul_one_mat x
