-- The three rules of the pairing: it is perfect, natural in the module, and natural in the sum of projective modules.
use Rattle.std.proofs.Common.{ℕ, zero, suc, ◌<◌, ◌≡◌, ◌≢◌, sym, ap, ◌∙◌}
use Rattle.linear_algebra.specs.Field.{Gf}
use Rattle.linear_algebra.specs.Matrix.{Mat, Row, zeros, ◌⊞◌, ◌⊙◌, ◌·◌, transpose}
use Rattle.linear_algebra.specs.LinearMaps.{IsLinear, matrix_of}
use Rattle.linear_algebra.specs.BlockFamilies.{sum_all}
use Rattle.linear_algebra.proofs.MatrixLaws.{mul_assoc_mat, mul_add_mat, add_mul_mat, mul_scale, scale_mul, zero_scale, mul_zeros, zeros_mul, transpose-at}
use Rattle.linear_algebra.proofs.PartsLaws.{Mat_1-eq, equal_on_rows}
use Rattle.linear_algebra.proofs.LinearMaps.{mul-matrix_of}
use Rattle.linear_algebra.proofs.BlockFamilies.{sum_all-same, sum_all-add, sum_all-scale, sum_all-single}
use Rattle.representations.specs.Quiver.{Quiver, BoundQuiver}
use Rattle.representations.specs.Rep.{Rep, IsMod}
use Rattle.representations.specs.Hom.{Hom, ◌≫◌, ◌⊕◌, multiple, zero_hom, sum_of}
use Rattle.representations.proofs.Homs.{compose-at, sum-at, multiple-at, zero_hom-at, compose_assoc, identity_compose, compose_sum, compose_multiple, zero_multiple, sum_of_compose, sum_of-same, zero_compose}
use Rattle.projectives.specs.Words.{projective}
use Rattle.projectives.specs.Projective.{generator}
use Rattle.projectives.specs.Yoneda.{yoneda}
use Rattle.projectives.specs.Families.{family_in, projectives, generator_of}
use Rattle.projectives.specs.HomRows.{value}
use Rattle.projectives.specs.Components.{family_out}
use Rattle.projectives.specs.TwoSided.{TwoSided}
use Rattle.projectives.specs.Injective.{injectives}
use Rattle.projectives.specs.Pairing.{IsFunctional, column_of, hom_of_columns, pairing, IsPairingAfter}
use Rattle.projectives.proofs.Yoneda.{generator-yoneda, yoneda-generator, yoneda-sum, yoneda-multiple}
use Rattle.projectives.proofs.Families.{generator-hom}
use Rattle.projectives.proofs.Components.{in-out, in-out_other, whole}
use Rattle.projectives.proofs.DualYoneda.{equal_by_columns, column-hom_of_columns, column-sum, column-multiple, column-natural}

pub transpose_1 : {q : Gf} (a : Mat q 1 1) → transpose a ≡ a
transpose_1 a = Mat_1-eq (transpose a) a (transpose-at a 0 0)

-- Functionals of sums and zero.
module _ {q : Gf} {Q : Quiver} {X Y : Rep q Q} (f : Hom X Y → Mat q 1 1) (L : IsFunctional f) where
  pub functional-zero : f (zero_hom X Y) ≡ zeros q 1 1
  functional-zero = ap f (sym (zero_multiple (zero_hom X Y))) ∙ L.of_multiple 0 (zero_hom X Y) ∙ zero_scale (f (zero_hom X Y))

  pub functional-sum_of : (k : ℕ) (g : ℕ → Hom X Y) → f (sum_of k g) ≡ sum_all k (λ i. f (g i))
  unfolding sum_of sum_all
  functional-sum_of zero g = functional-zero
  functional-sum_of (suc k) g = L.of_sum (sum_of k g) (g k) ∙ ap (λ z. z ⊞ f (g k)) (functional-sum_of k g)

module _ {q : Gf} {A : BoundQuiver} (T : TwoSided q A) (k : ℕ) (v : ℕ → ℕ) where
  -- The pairing is linear on both sides.
  pub pairing-linear_after : (X : Rep q A.quiver) (u : Hom (projectives T.words k v) X) → IsFunctional (λ (s : Hom X (injectives T k v)). pairing T k v u s)
  unfolding pairing
  pairing-linear_after X u = record {
    of_sum = λ s t.
        sum_all-same k _ (λ j. value A T.words T.basis k v u j · column_of T k v s j ⊞ value A T.words T.basis k v u j · column_of T k v t j) (λ j l.
        ap (λ z. value A T.words T.basis k v u j · z) (column-sum T k v X s t j) ∙ mul_add_mat (value A T.words T.basis k v u j) (column_of T k v s j) (column_of T k v t j))
        ∙ sum_all-add k (λ j. value A T.words T.basis k v u j · column_of T k v s j) (λ j. value A T.words T.basis k v u j · column_of T k v t j);
    of_multiple = λ c s.
        sum_all-same k _ (λ j. c ⊙ (value A T.words T.basis k v u j · column_of T k v s j)) (λ j l.
        ap (λ z. value A T.words T.basis k v u j · z) (column-multiple T k v X c s j) ∙ mul_scale c (value A T.words T.basis k v u j) (column_of T k v s j))
        ∙ sym (sum_all-scale c k (λ j. value A T.words T.basis k v u j · column_of T k v s j));
  }

  value-sum : (X : Rep q A.quiver) (f g : Hom (projectives T.words k v) X) (j : ℕ) → value A T.words T.basis k v (f ⊕ g) j ≡ value A T.words T.basis k v f j ⊞ value A T.words T.basis k v g j
  value-sum X f g j = ap (λ z. generator_of A T.words T.basis k v j · z) (sum-at f g (v j)) ∙ mul_add_mat (generator_of A T.words T.basis k v j) (f.at (v j)) (g.at (v j))

  value-multiple : (X : Rep q A.quiver) (c : ℕ) (f : Hom (projectives T.words k v) X) (j : ℕ) → value A T.words T.basis k v (multiple c f) j ≡ c ⊙ value A T.words T.basis k v f j
  value-multiple X c f j = ap (λ z. generator_of A T.words T.basis k v j · z) (multiple-at c f (v j)) ∙ mul_scale c (generator_of A T.words T.basis k v j) (f.at (v j))

  pub value-natural : (X Y : Rep q A.quiver) (u : Hom (projectives T.words k v) X) (f : Hom X Y) (j : ℕ) → value A T.words T.basis k v (u ≫ f) j ≡ value A T.words T.basis k v u j · f.at (v j)
  value-natural X Y u f j = ap (λ z. generator_of A T.words T.basis k v j · z) (compose-at u f (v j)) ∙ sym (mul_assoc_mat (generator_of A T.words T.basis k v j) (u.at (v j)) (f.at (v j)))

  pub pairing-linear_before : (X : Rep q A.quiver) (s : Hom X (injectives T k v)) → IsFunctional (λ (u : Hom (projectives T.words k v) X). pairing T k v u s)
  unfolding pairing
  pairing-linear_before X s = record {
    of_sum = λ f g.
        sum_all-same k _ (λ j. value A T.words T.basis k v f j · column_of T k v s j ⊞ value A T.words T.basis k v g j · column_of T k v s j) (λ j l.
        ap (λ z. z · column_of T k v s j) (value-sum X f g j) ∙ add_mul_mat (value A T.words T.basis k v f j) (value A T.words T.basis k v g j) (column_of T k v s j))
        ∙ sum_all-add k (λ j. value A T.words T.basis k v f j · column_of T k v s j) (λ j. value A T.words T.basis k v g j · column_of T k v s j);
    of_multiple = λ c f.
        sum_all-same k _ (λ j. c ⊙ (value A T.words T.basis k v f j · column_of T k v s j)) (λ j l.
        ap (λ z. z · column_of T k v s j) (value-multiple X c f j) ∙ scale_mul c (value A T.words T.basis k v f j) (column_of T k v s j))
        ∙ sym (sum_all-scale c k (λ j. value A T.words T.basis k v f j · column_of T k v s j));
  }

  -- It is natural in the module.
  pub pairing-natural : (X Y : Rep q A.quiver) (u : Hom (projectives T.words k v) X) (f : Hom X Y) (s : Hom Y (injectives T k v)) → pairing T k v (u ≫ f) s ≡ pairing T k v u (f ≫ s)
  unfolding pairing
  pairing-natural X Y u f s = sum_all-same k _ _ (λ j l.
      ap (λ z. z · column_of T k v s j) (value-natural X Y u f j) ∙ mul_assoc_mat (value A T.words T.basis k v u j) (f.at (v j)) (column_of T k v s j)
      ∙ ap (λ z. value A T.words T.basis k v u j · z) (sym (column-natural T k v X Y f s j)))

  module _ (X : Rep q A.quiver) (M : IsMod A X) where
    -- The homomorphism that takes generator j to x, and the others to zero.
    unfoldable pub only : (j : ℕ) → Row q (X.dim (v j)) → Hom (projectives T.words k v) X
    only j x = family_out k (λ j. projective T.words (v j)) j ≫ yoneda A T.words T.basis X M (v j) x

    in-only : (j : ℕ) → j < k → (x : Row q (X.dim (v j))) → value A T.words T.basis k v (only j x) j ≡ x
    unfolding only
    in-only j h x =
        generator-hom A T.words T.basis k v X (only j x) j
        ∙ ap (λ (z : Hom (projective T.words (v j)) X). generator A T.words T.basis (v j) · z.at (v j))
        (sym (compose_assoc (family_in k (λ j. projective T.words (v j)) j) (family_out k (λ j. projective T.words (v j)) j) (yoneda A T.words T.basis X M (v j) x))
        ∙ ap (λ z. z ≫ yoneda A T.words T.basis X M (v j) x) (in-out k (λ j. projective T.words (v j)) j h) ∙ identity_compose (yoneda A T.words T.basis X M (v j) x))
        ∙ generator-yoneda A T.words T.basis X M (v j) x

    in-only_other : (i j : ℕ) → i < k → i ≢ j → (x : Row q (X.dim (v j))) → value A T.words T.basis k v (only j x) i ≡ zeros q 1 (X.dim (v i))
    unfolding only
    in-only_other i j h n x =
        generator-hom A T.words T.basis k v X (only j x) i
        ∙ ap (λ (z : Hom (projective T.words (v i)) X). generator A T.words T.basis (v i) · z.at (v i))
        (sym (compose_assoc (family_in k (λ j. projective T.words (v j)) i) (family_out k (λ j. projective T.words (v j)) j) (yoneda A T.words T.basis X M (v j) x))
        ∙ ap (λ z. z ≫ yoneda A T.words T.basis X M (v j) x) (in-out_other k (λ j. projective T.words (v j)) i j h n) ∙ zero_compose (projective T.words (v i)) (yoneda A T.words T.basis X M (v j) x))
        ∙ ap (λ z. generator A T.words T.basis (v i) · z) (zero_hom-at (projective T.words (v i)) X (v i)) ∙ mul_zeros (generator A T.words T.basis (v i))

    pairing-only : (j : ℕ) → j < k → (x : Row q (X.dim (v j))) (s : Hom X (injectives T k v)) → pairing T k v (only j x) s ≡ x · column_of T k v s j
    unfolding pairing
    pairing-only j h x s =
        sum_all-single k j (λ i. value A T.words T.basis k v (only j x) i · column_of T k v s i) h (λ i l n.
        ap (λ z. z · column_of T k v s i) (in-only_other i j l n x) ∙ zeros_mul (column_of T k v s i))
        ∙ ap (λ z. z · column_of T k v s j) (in-only j h x)

    sum-only : (u : Hom (projectives T.words k v) X) → sum_of k (λ j. only j (value A T.words T.basis k v u j)) ≡ u
    unfolding only
    sum-only u =
        sum_of-same k _ (λ j. family_out k (λ j. projective T.words (v j)) j ≫ family_in k (λ j. projective T.words (v j)) j ≫ u) (λ j l.
        ap (λ z. family_out k (λ j. projective T.words (v j)) j ≫ z)
        (ap (yoneda A T.words T.basis X M (v j)) (generator-hom A T.words T.basis k v X u j) ∙ yoneda-generator A T.words T.basis X M (v j) (family_in k (λ j. projective T.words (v j)) j ≫ u))
        ∙ sym (compose_assoc (family_out k (λ j. projective T.words (v j)) j) (family_in k (λ j. projective T.words (v j)) j) u))
        ∙ sym (sum_of_compose k (λ j. family_out k (λ j. projective T.words (v j)) j ≫ family_in k (λ j. projective T.words (v j)) j) u)
        ∙ ap (λ z. z ≫ u) (whole k (λ j. projective T.words (v j))) ∙ identity_compose u

    -- Homomorphisms with the same pairings are equal.
    pub equal_by_pairing : (s t : Hom X (injectives T k v)) → ((u : Hom (projectives T.words k v) X) → pairing T k v u s ≡ pairing T k v u t) → s ≡ t
    equal_by_pairing s t e = equal_by_columns T k v X M s t (λ j h. equal_on_rows _ _ (λ x. sym (pairing-only j h x s) ∙ e (only j x) ∙ pairing-only j h x t))

    -- Each functional on Hom (P, X) is the pairing with exactly one homomorphism.
    module _ (f : Hom (projectives T.words k v) X → Mat q 1 1) (L : IsFunctional f) where
      linear-only : (j : ℕ) → IsLinear (λ (x : Row q (X.dim (v j))). f (only j x))
      unfolding only
      linear-only j = record {
        sum = λ x y.
            ap f (ap (λ z. family_out k (λ j. projective T.words (v j)) j ≫ z) (yoneda-sum A T.words T.basis X M (v j) x y)
            ∙ compose_sum (family_out k (λ j. projective T.words (v j)) j) (yoneda A T.words T.basis X M (v j) x) (yoneda A T.words T.basis X M (v j) y))
            ∙ L.of_sum (only j x) (only j y);
        multiple = λ c x.
            ap f (ap (λ z. family_out k (λ j. projective T.words (v j)) j ≫ z) (yoneda-multiple A T.words T.basis X M (v j) c x)
            ∙ compose_multiple c (family_out k (λ j. projective T.words (v j)) j) (yoneda A T.words T.basis X M (v j) x))
            ∙ L.of_multiple c (only j x);
      }

      represented : Hom X (injectives T k v)
      represented = hom_of_columns T k v X M (λ j. matrix_of (λ (x : Row q (X.dim (v j))). f (only j x)))

      pairing-represented : (u : Hom (projectives T.words k v) X) → pairing T k v u represented ≡ f u
      unfolding pairing represented
      pairing-represented u =
          sum_all-same k _ (λ j. f (only j (value A T.words T.basis k v u j))) (λ j l.
          ap (λ z. value A T.words T.basis k v u j · z) (column-hom_of_columns T k v X M (λ j. matrix_of (λ (x : Row q (X.dim (v j))). f (only j x))) j l)
          ∙ mul-matrix_of (λ (x : Row q (X.dim (v j))). f (only j x)) (linear-only j) (value A T.words T.basis k v u j))
          ∙ sym (functional-sum_of f L k (λ j. only j (value A T.words T.basis k v u j)))
          ∙ ap f (sum-only u)

      pub perfect_after : IsPairingAfter T k v f
      perfect_after = record {
        by = represented;
        is = pairing-represented;
        once = λ s e. equal_by_pairing s represented (λ u. e u ∙ sym (pairing-represented u));
      }
