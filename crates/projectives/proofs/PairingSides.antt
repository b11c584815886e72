-- The pairing on the other side, and its third rule: it is natural in the sum of projective modules.
use Rattle.std.proofs.Common.{ℕ, ◌<◌, ◌≡◌, refl, sym, ap, ap₂, ◌∙◌}
use Rattle.linear_algebra.specs.Field.{Gf}
use Rattle.linear_algebra.specs.Matrix.{Mat, Row, Column, ◌·◌, transpose}
use Rattle.linear_algebra.specs.Parts.{row, column}
use Rattle.linear_algebra.specs.BlockFamilies.{sum_all}
use Rattle.linear_algebra.proofs.MatrixLaws.{mul_assoc_mat, transpose_mul, transpose_transpose}
use Rattle.linear_algebra.proofs.PartsLaws.{rows_equal, row-mul, column-mul, transpose_row}
use Rattle.linear_algebra.proofs.BlockFamilies.{sum_all-same, sum_all-swap, mul_sum_all, sum_all_mul, transpose_sum_all}
use Rattle.representations.specs.Quiver.{BoundQuiver, opposite_algebra}
use Rattle.representations.specs.Rep.{Rep, IsMod}
use Rattle.representations.specs.Hom.{Hom, ◌≫◌}
use Rattle.representations.specs.Dual.{dual, dual_hom}
use Rattle.representations.proofs.Duals.{IsMod-dual, dual-at}
use Rattle.representations.proofs.Homs.{compose-at}
use Rattle.projectives.specs.Words.{projective, along_word}
use Rattle.projectives.specs.Families.{family_in, projectives, generator_of}
use Rattle.projectives.specs.HomRows.{value}
use Rattle.projectives.specs.Components.{in_component}
use Rattle.projectives.specs.TwoSided.{TwoSided, other, swap}
use Rattle.projectives.specs.Injective.{injectives, turn, undual}
use Rattle.projectives.specs.Transposed.{coefficients, transposed, nakayama}
use Rattle.projectives.specs.Pairing.{IsFunctional, column_of, pairing, IsPairingAfter, IsPairingBefore}
use Rattle.projectives.proofs.TwoSided.{generator_of-back}
use Rattle.projectives.proofs.Turning.{turn_turn, turn-sum, turn-multiple, dual-undual, undual-dual}
use Rattle.projectives.proofs.DualYoneda.{value_along, column-turn, columns_along}
use Rattle.projectives.proofs.Transposed.{transposed-value, value_of_coefficients, nakayama_is}
use Rattle.projectives.proofs.Pairing.{transpose_1, value-natural, pairing-linear_after, perfect_after}

module _ {q : Gf} {A : BoundQuiver} (T : TwoSided q A) (k : ℕ) (v : ℕ → ℕ) where
  -- On the other side the dual of u is paired with s turned round, and the value is the same.
  column-dual : (X : Rep q A.quiver) (u : Hom (projectives T.words k v) X) (j : ℕ) → column_of (swap T) k v {X = dual X} (dual_hom u) j ≡ transpose (value A T.words T.basis k v u j)
  column-dual X u j =
      ap₂ (λ a b. a · transpose b) (dual-at u (v j)) (generator_of-back T k v j)
      ∙ sym (transpose_mul (generator_of A T.words T.basis k v j) (u.at (v j)))

  pub pairing-swap : (X : Rep q A.quiver) (u : Hom (projectives T.words k v) X) (s : Hom X (injectives T k v)) → pairing (swap T) k v {X = dual X} (turn s) (dual_hom u) ≡ pairing T k v u s
  unfolding pairing
  pairing-swap X u s = sum_all-same k _ _ (λ j l.
      ap₂ (λ a b. a · b) (column-turn T k v X s j) (column-dual X u j)
      ∙ sym (transpose_mul (value A T.words T.basis k v u j) (column_of T k v s j))
      ∙ transpose_1 (value A T.words T.basis k v u j · column_of T k v s j))

  -- So each functional on Hom (X, νP) is the pairing with exactly one homomorphism.
  module _ (X : Rep q A.quiver) (M : IsMod A X) (f : Hom X (injectives T k v) → Mat q 1 1) (L : IsFunctional f) where
    turned : IsFunctional (λ (g : Hom (projectives (other T) k v) (dual X)). f (turn g))
    turned = record {
      of_sum = λ a b. ap f (turn-sum X (projectives (other T) k v) a b) ∙ L.of_sum (turn a) (turn b);
      of_multiple = λ c a. ap f (turn-multiple X (projectives (other T) k v) c a) ∙ L.of_multiple c (turn a);
    }

    on_other_side : IsPairingAfter (swap T) k v {X = dual X} (λ (g : Hom (projectives (other T) k v) (dual X)). f (turn g))
    on_other_side = perfect_after (swap T) k v (dual X) (IsMod-dual A X M) (λ (g : Hom (projectives (other T) k v) (dual X)). f (turn g)) turned

    pub perfect_before : IsPairingBefore T k v f
    perfect_before = record {
      by = undual on_other_side.by;
      is = λ s.
          sym (pairing-swap X (undual on_other_side.by) s)
          ∙ ap (λ (z : Hom (dual X) (dual (projectives T.words k v))). pairing (swap T) k v {X = dual X} (turn s) z) (dual-undual (projectives T.words k v) X on_other_side.by)
          ∙ on_other_side.is (turn s) ∙ ap f (turn_turn (projectives (other T) k v) X s);
      once = λ u e.
          sym (undual-dual (projectives T.words k v) X u)
          ∙ ap (λ (z : Hom (dual X) (dual (projectives T.words k v))). undual z) (on_other_side.once (dual_hom u) (λ g.
          ap (λ (z : Hom (projectives (other T) k v) (dual X)). pairing (swap T) k v {X = dual X} z (dual_hom u)) (sym (turn_turn X (projectives (other T) k v) g))
          ∙ pairing-swap X u (turn g) ∙ e (turn g)));
    }

  -- Homomorphisms out of P with the same pairings are equal.
  pub equal_by_pairing_before : (X : Rep q A.quiver) → IsMod A X → (f g : Hom (projectives T.words k v) X) → ((s : Hom X (injectives T k v)) → pairing T k v f s ≡ pairing T k v g s) → f ≡ g
  equal_by_pairing_before X M f g e = p.once f e ∙ sym (p.once g (λ s. refl))
    where
      p : IsPairingBefore T k v (pairing T k v g)
      p = perfect_before X M (pairing T k v g) (pairing-linear_after T k v X g)

-- Natural in the sum of projective modules.
module _ {q : Gf} {A : BoundQuiver} (T : TwoSided q A) (k : ℕ) (v : ℕ → ℕ) (h : ℕ) (w : ℕ → ℕ) (X : Rep q A.quiver) (M : IsMod A X) (u : Hom (projectives T.words h w) X) (y : Hom X (injectives T k v)) where
  -- the matrix of the numbers u_j · X_p · η_i, for the words p from w j to v i: by rows, and by columns
  through : (i j : ℕ) → Column q (T.words.count (w j) (v i))
  through i j = (family_in h (λ j. projective T.words (w j)) j ≫ u).at (v i) · column_of T k v y i

  across : (i j : ℕ) → Row q (T.words.count (w j) (v i))
  across i j = value A T.words T.basis h w u j · (y.at (w j) · transpose ((family_in k (λ i. projective (other T) (v i)) i).at (w j)))

  through-across : (i j : ℕ) → through i j ≡ transpose (across i j)
  unfolding through across
  through-across i j = rows_equal _ _ (λ p l.
      row-mul p ((family_in h (λ j. projective T.words (w j)) j ≫ u).at (v i)) (column_of T k v y i)
      ∙ ap (λ z. z · column_of T k v y i) (value_along A T.words T.basis h w X M u j (v i) p l)
      ∙ mul_assoc_mat (value A T.words T.basis h w u j) (along_word T.words X (w j) (v i) p) (column_of T k v y i)
      ∙ ap (λ z. value A T.words T.basis h w u j · z) (sym (columns_along T k v X M y i (w j) p l))
      ∙ sym (column-mul p (value A T.words T.basis h w u j) (y.at (w j) · transpose ((family_in k (λ i. projective (other T) (v i)) i).at (w j))))
      ∙ sym (transpose_1 (column p (across i j)))
      ∙ ap (λ z. transpose (column p z)) (sym (transpose_transpose (across i j)))
      ∙ ap transpose (sym (transpose_row p (transpose (across i j))))
      ∙ transpose_transpose (row p (transpose (across i j))))

  module _ (d : Hom (projectives T.words k v) (projectives T.words h w)) where
    term : (i j : ℕ) → Mat q 1 1
    term i j = coefficients T k v h w d i j · through i j

    left_term : (i : ℕ) → value A T.words T.basis k v (d ≫ u) i · column_of T k v y i ≡ sum_all h (λ j. term i j)
    unfolding term through
    left_term i =
        ap (λ z. z · column_of T k v y i)
        (value-natural T k v (projectives T.words h w) X d u i ∙ ap (λ z. z · u.at (v i)) (sym (value_of_coefficients T k v h w d i))
        ∙ sum_all_mul h (λ j. in_component T.words h w j (v i) (coefficients T k v h w d i j)) (u.at (v i)))
        ∙ sum_all_mul h (λ j. in_component T.words h w j (v i) (coefficients T k v h w d i j) · u.at (v i)) (column_of T k v y i)
        ∙ sum_all-same h _ _ (λ j l.
        ap (λ z. z · column_of T k v y i)
        (mul_assoc_mat (coefficients T k v h w d i j) ((family_in h (λ j. projective T.words (w j)) j).at (v i)) (u.at (v i))
        ∙ ap (λ z. coefficients T k v h w d i j · z) (sym (compose-at (family_in h (λ j. projective T.words (w j)) j) u (v i))))
        ∙ mul_assoc_mat (coefficients T k v h w d i j) ((family_in h (λ j. projective T.words (w j)) j ≫ u).at (v i)) (column_of T k v y i))

    column-nakayama : (j : ℕ) → j < h → column_of T h w (y ≫ nakayama T k v h w d) j
        ≡ y.at (w j) · sum_all k (λ i. transpose ((family_in k (λ i. projective (other T) (v i)) i).at (w j)) · transpose (coefficients T k v h w d i j))
    column-nakayama j l =
        ap (λ z. z · transpose (generator_of (opposite_algebra A) (other T) T.opposite_basis h w j))
        (compose-at y (nakayama T k v h w d) (w j)
        ∙ ap (λ (z : Hom (injectives T k v) (injectives T h w)). y.at (w j) · z.at (w j)) (nakayama_is T k v h w d)
        ∙ ap (λ z. y.at (w j) · z) (dual-at (transposed T k v h w d) (w j)))
        ∙ mul_assoc_mat (y.at (w j)) (transpose ((transposed T k v h w d).at (w j))) (transpose (generator_of (opposite_algebra A) (other T) T.opposite_basis h w j))
        ∙ ap (λ z. y.at (w j) · z)
        (sym (transpose_mul (generator_of (opposite_algebra A) (other T) T.opposite_basis h w j) ((transposed T k v h w d).at (w j)))
        ∙ ap transpose (transposed-value T k v h w d j l)
        ∙ transpose_sum_all k (λ i. in_component (other T) k v i (w j) (coefficients T k v h w d i j))
        ∙ sum_all-same k _ _ (λ i m. transpose_mul (coefficients T k v h w d i j) ((family_in k (λ i. projective (other T) (v i)) i).at (w j))))

    meet : (i j : ℕ) → value A T.words T.basis h w u j · (y.at (w j) · (transpose ((family_in k (λ i. projective (other T) (v i)) i).at (w j)) · transpose (coefficients T k v h w d i j))) ≡ term i j
    unfolding term across
    meet i j =
        ap (λ z. value A T.words T.basis h w u j · z)
        (sym (mul_assoc_mat (y.at (w j)) (transpose ((family_in k (λ i. projective (other T) (v i)) i).at (w j))) (transpose (coefficients T k v h w d i j))))
        ∙ sym (mul_assoc_mat (value A T.words T.basis h w u j) (y.at (w j) · transpose ((family_in k (λ i. projective (other T) (v i)) i).at (w j))) (transpose (coefficients T k v h w d i j)))
        ∙ sym (transpose_1 (across i j · transpose (coefficients T k v h w d i j)))
        ∙ transpose_mul (across i j) (transpose (coefficients T k v h w d i j))
        ∙ ap₂ (λ a b. a · b) (transpose_transpose (coefficients T k v h w d i j)) (sym (through-across i j))

    right_term : (j : ℕ) → j < h → value A T.words T.basis h w u j · column_of T h w (y ≫ nakayama T k v h w d) j ≡ sum_all k (λ i. term i j)
    right_term j l =
        ap (λ z. value A T.words T.basis h w u j · z)
        (column-nakayama j l ∙ mul_sum_all k (y.at (w j)) (λ i. transpose ((family_in k (λ i. projective (other T) (v i)) i).at (w j)) · transpose (coefficients T k v h w d i j)))
        ∙ mul_sum_all k (value A T.words T.basis h w u j) (λ i. y.at (w j) · (transpose ((family_in k (λ i. projective (other T) (v i)) i).at (w j)) · transpose (coefficients T k v h w d i j)))
        ∙ sum_all-same k _ _ (λ i m. meet i j)

    pub pairing-nakayama : pairing T k v (d ≫ u) y ≡ pairing T h w u (y ≫ nakayama T k v h w d)
    unfolding pairing
    pairing-nakayama =
        sum_all-same k _ (λ i. sum_all h (λ j. term i j)) (λ i l. left_term i)
        ∙ sum_all-swap k h term
        ∙ sym (sum_all-same h _ (λ j. sum_all k (λ i. term i j)) right_term)
