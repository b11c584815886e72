-- A row of a sum of projective modules lies in the radical exactly where its coefficients at the trivial words are zero.
use Rattle.std.proofs.Common.{ℕ, zero, suc, ◌+◌, ◌<◌, ◌≡◌, ◌≢◌, inl, inr, refl, sym, ap, ap₂, ◌∙◌, arith, subst, not-suc-le-zero}
use Rattle.std.proofs.Math.Path.{subst_refl, path_j}
use Rattle.std.proofs.lemmas.Bool.{cases_lt, cases_eq}
use native.Mathlib.Bridge.{le_prop}
use Rattle.linear_algebra.specs.Field.{Gf, add, mul}
use Rattle.linear_algebra.specs.FieldLaws.{add_zero_zero, mul_zero}
use Rattle.linear_algebra.specs.Sums.{sum-zeros}
use Rattle.linear_algebra.specs.Matrix.{Row, zeros, one, ◌⊞◌, ◌⊙◌, ◌·◌, stack, beside}
use Rattle.linear_algebra.specs.Parts.{unit, left_part, right_part}
use Rattle.linear_algebra.specs.Families.{combine}
use Rattle.linear_algebra.specs.BlockFamilies.{total}
use Rattle.linear_algebra.proofs.MatrixLaws.{mul_one_mat, mul_zeros, mul_assoc_mat, add_zeros, zeros_add, zero_scale}
use Rattle.linear_algebra.proofs.Blocks.{mul_beside, beside_stack, beside_add}
use Rattle.linear_algebra.proofs.PartsLaws.{beside_parts, left_part-at, right_part-at}
use Rattle.linear_algebra.proofs.LinearMaps.{as_units}
use Rattle.linear_algebra.proofs.BlockFamilies.{total_grows}
use Rattle.representations.specs.Quiver.{Quiver, Path, trivial, then, path_length, BoundQuiver}
use Rattle.representations.specs.Rep.{Rep, along}
use Rattle.representations.specs.Radical.{IsInRadical}
use Rattle.representations.specs.Sum.{sum_rep, sum_family, into_first, into_second, onto_first, onto_second}
use Rattle.representations.proofs.MatrixExtras.{zero_columns}
use Rattle.representations.proofs.Paths.{along-then}
use Rattle.representations.proofs.Radical.{radical-zeros, radical-sum, radical-scale, radical-hom, by_terms}
use Rattle.projectives.specs.Words.{Words, IsWordBasis, projective}
use Rattle.projectives.specs.Families.{projectives}
use Rattle.projectives.specs.Generators.{VanishesAtTrivialWords}
use Rattle.projectives.proofs.TrivialWords.{IsTrivial, trivial_or_long}
use Rattle.projectives.proofs.RadicalWords.{word_in_radical}

-- Combinations of rows of the radical.
pub radical_combine : {q : Gf} {Q : Quiver} {X : Rep q Q} {w : ℕ} (s : ℕ) (c : ℕ → ℕ) (g : ℕ → Row q (X.dim w)) → ((i : ℕ) → i < s → IsInRadical X w (c i ⊙ g i)) → IsInRadical X w (combine s c g)
unfolding combine
radical_combine {w = w} zero c g h = radical-zeros 1 w
radical_combine (suc s) c g h = radical-sum (radical_combine s c g (λ i l. h i (omega arith))) (h s (omega arith))

below_once : (i n : ℕ) (g h : i < n) → g ≡ h
below_once i n = let prop : IsProp (i < n) = hlevel (le_prop) in prop

-- The size of a sum of a family.
pub family_dim : {q : Gf} {Q : Quiver} (k : ℕ) (X : ℕ → Rep q Q) (w : ℕ) → (sum_family k X).dim w ≡ total k (λ i. (X i).dim w)
unfolding sum_family
family_dim zero X w = refl
family_dim (suc k) X w = ap (λ n. n + (X k).dim w) (family_dim k X w)

module _ {q : Gf} (A : BoundQuiver) (W : Words q A.quiver) (B : IsWordBasis A W) where
  -- The trivial words are those at the trivial places.
  trivial_place : (v w i : ℕ) (h : i < W.count v w) → IsTrivial (W.word v w i h) → (v ≡ w) × (i ≡ B.place v)
  trivial_place v w i h t = (
    t.same,
    path_j (λ w e. (i : ℕ) (h : i < W.count v w) → (let p : Path A.quiver v v = trivial in subst (Path A.quiver v) e p) ≡ W.word v w i h → i ≡ B.place v)
        (λ i h e. B.place_only v i h (sym e ∙ subst_refl (Path A.quiver v) trivial)) t.same i h t.is,
  )

  long_word : (v w i : ℕ) (h : i < W.count v w) → (v ≡ w → i ≢ B.place v) → IsInRadical (projective W v) w (unit q (W.count v w) i)
  long_word v w i h d = elim (trivial_or_long (W.word v w i h)) [
    | inl t ↦ absurd (let p = trivial_place v w i h t in d p.0 p.1)
    | inr l ↦ word_in_radical A W B v w i l.0 h (λ g. ap (λ h. path_length (W.word v w i h)) (below_once i (W.count v w) g h) ∙ l.1)
  ]

  -- One projective module.
  pub one_in_radical : (v w : ℕ) (x : Row q (W.count v w)) → (v ≡ w → x.at 0 (B.place v) ≡ 0) → IsInRadical (projective W v) w x
  one_in_radical v w x z = subst (IsInRadical (projective W v) w) (sym (as_units x)) (radical_combine (W.count v w) (x.at 0) (unit q (W.count v w)) each)
    where
      each : (i : ℕ) → i < W.count v w → IsInRadical (projective W v) w (x.at 0 i ⊙ unit q (W.count v w) i)
      each i h = elim (cases_eq v w) [
        | inl e ↦ elim (cases_eq i (B.place v)) [
          | inl f ↦ subst (IsInRadical (projective W v) w) (sym (ap (λ c. c ⊙ unit q (W.count v w) i) (ap (x.at 0) f ∙ z e) ∙ zero_scale (unit q (W.count v w) i))) (radical-zeros 1 w)
          | inr f ↦ radical-scale (x.at 0 i) (long_word v w i h (λ d. f))
        ]
        | inr e ↦ radical-scale (x.at 0 i) (long_word v w i h (λ d. absurd (e d)))
      ]

  last_vanishes : (v : ℕ) {u w : ℕ} (k : ℕ) (p : Path A.quiver u w) → path_length p ≡ suc k → w ≡ v → (y : Row q (W.count v u)) → (y · along (projective W v) p).at 0 (B.place v) ≡ 0
  unfolding ◌·◌
  last_vanishes v k trivial e d y = absurd (omega arith)
  last_vanishes v k (then a p) e d y =
      ap (λ (z : Row q (W.count v (A.quiver.target a))). z.at 0 (B.place v)) (ap (λ z. y · z) (along-then (projective W v) a p) ∙ sym (mul_assoc_mat y (along (projective W v) p) (W.act v a)))
      ∙ sum-zeros q _ _ (λ t l. ap (mul q ((y · along (projective W v) p).at 0 t)) (B.not_trivial v a t d) ∙ mul_zero q ((y · along (projective W v) p).at 0 t))

  one_vanishes : (v w : ℕ) (x : Row q (W.count v w)) → IsInRadical (projective W v) w x → v ≡ w → x.at 0 (B.place v) ≡ 0
  unfolding zeros ◌⊞◌
  one_vanishes v w x r e = by_terms (λ (x : Row q (W.count v w)). x.at 0 (B.place v) ≡ 0) refl
      (λ x y f g. ap₂ (add q) f g ∙ add_zero_zero q)
      (λ u p l y. last_vanishes v 0 p l (sym e) y) r

-- The two parts of a row.
module _ {q : Gf} (m n : ℕ) where
  first_of : (x : Row q (m + n)) → x · stack (one q m) (zeros q n m) ≡ left_part m n x
  first_of x =
      ap (λ z. z · stack (one q m) (zeros q n m)) (sym (beside_parts m n x)) ∙ beside_stack (left_part m n x) (right_part m n x) (one q m) (zeros q n m)
      ∙ ap₂ (λ a b. a ⊞ b) (mul_one_mat (left_part m n x)) (mul_zeros (right_part m n x)) ∙ add_zeros (left_part m n x)

  second_of : (x : Row q (m + n)) → x · stack (zeros q m n) (one q n) ≡ right_part m n x
  second_of x =
      ap (λ z. z · stack (zeros q m n) (one q n)) (sym (beside_parts m n x)) ∙ beside_stack (left_part m n x) (right_part m n x) (zeros q m n) (one q n)
      ∙ ap₂ (λ a b. a ⊞ b) (mul_zeros (left_part m n x)) (mul_one_mat (right_part m n x)) ∙ zeros_add (right_part m n x)

  both_parts : (x : Row q (m + n)) → left_part m n x · beside (one q m) (zeros q m n) ⊞ right_part m n x · beside (zeros q n m) (one q n) ≡ x
  both_parts x =
      ap₂ (λ a b. a ⊞ b)
      (mul_beside (left_part m n x) (one q m) (zeros q m n) ∙ ap₂ beside (mul_one_mat (left_part m n x)) (mul_zeros (left_part m n x)))
      (mul_beside (right_part m n x) (zeros q n m) (one q n) ∙ ap₂ beside (mul_zeros (right_part m n x)) (mul_one_mat (right_part m n x)))
      ∙ beside_add (left_part m n x) (zeros q 1 m) (zeros q 1 n) (right_part m n x)
      ∙ ap₂ beside (add_zeros (left_part m n x)) (zeros_add (right_part m n x)) ∙ beside_parts m n x

module _ {q : Gf} {Q : Quiver} (X Y : Rep q Q) (w : ℕ) where
  radical_left : (x : Row q (X.dim w + Y.dim w)) → IsInRadical (sum_rep X Y) w x → IsInRadical X w (left_part (X.dim w) (Y.dim w) x)
  unfolding onto_first
  radical_left x r = subst (IsInRadical X w) (first_of (X.dim w) (Y.dim w) x) (radical-hom (onto_first X Y) r)

  radical_right : (x : Row q (X.dim w + Y.dim w)) → IsInRadical (sum_rep X Y) w x → IsInRadical Y w (right_part (X.dim w) (Y.dim w) x)
  unfolding onto_second
  radical_right x r = subst (IsInRadical Y w) (second_of (X.dim w) (Y.dim w) x) (radical-hom (onto_second X Y) r)

  radical_parts : (x : Row q (X.dim w + Y.dim w)) → IsInRadical X w (left_part (X.dim w) (Y.dim w) x) → IsInRadical Y w (right_part (X.dim w) (Y.dim w) x) → IsInRadical (sum_rep X Y) w x
  unfolding into_first into_second
  radical_parts x r s = subst (IsInRadical (sum_rep X Y) w) (both_parts (X.dim w) (Y.dim w) x) (radical-sum (radical-hom (into_first X Y) r) (radical-hom (into_second X Y) s))

module _ {q : Gf} (A : BoundQuiver) (W : Words q A.quiver) (B : IsWordBasis A W) (v : ℕ → ℕ) where
  family_vanishes : (k w : ℕ) → w < A.quiver.vertices → (x : Row q ((projectives W k v).dim w)) → IsInRadical (projectives W k v) w x → VanishesAtTrivialWords A W B k v w x
  unfolding sum_family
  family_vanishes zero w b x r j h e = absurd (not-suc-le-zero h)
  family_vanishes (suc k) w b x r j h e =
      let size : (projectives W k v).dim w ≡ total k (λ i. W.count (v i) w) = family_dim k (λ j. projective W (v j)) w in
      elim (cases_eq j k) [
        | inl f ↦
            ap (λ j. x.at 0 (total j (λ i. W.count (v i) w) + B.place (v j))) f
            ∙ ap (λ n. x.at 0 (n + B.place (v k))) (sym size)
            ∙ sym (right_part-at ((projectives W k v).dim w) (W.count (v k) w) x 0 (B.place (v k)))
            ∙ one_vanishes A W B (v k) w _ (radical_right (projectives W k v) (projective W (v k)) w x r) (ap v (sym f) ∙ e)
        | inr f ↦
            let grows = total_grows (λ i. W.count (v i) w) k j (omega arith) in
            let below : B.place (v j) < W.count (v j) w = subst (λ w. B.place (v j) < W.count (v j) w) e (B.place_below (v j) (subst (λ w. w < A.quiver.vertices) (sym e) b)) in
            sym (left_part-at ((projectives W k v).dim w) (W.count (v k) w) x 0 (total j (λ i. W.count (v i) w) + B.place (v j)) (omega arith))
            ∙ family_vanishes k w b _ (radical_left (projectives W k v) (projective W (v k)) w x r) j (omega arith) e
      ]

  -- The radical of the sum.
  pub radical_vanishes : (k w : ℕ) (x : Row q ((projectives W k v).dim w)) → IsInRadical (projectives W k v) w x → VanishesAtTrivialWords A W B k v w x
  radical_vanishes k w x r j h e = elim (cases_lt w A.quiver.vertices) [
    | inl b ↦ family_vanishes k w b x r j h e
    | inr b ↦ x.fits.right 0 _ (let none = (projectives W k v).past w b in omega arith)
  ]

  pub vanishing_in_radical : (k w : ℕ) (x : Row q ((projectives W k v).dim w)) → VanishesAtTrivialWords A W B k v w x → IsInRadical (projectives W k v) w x
  unfolding sum_family
  vanishing_in_radical zero w x z = subst (IsInRadical (projectives W zero v) w) (sym (zero_columns refl x)) (radical-zeros 1 w)
  vanishing_in_radical (suc k) w x z =
      radical_parts (projectives W k v) (projective W (v k)) w x
      (vanishing_in_radical k w (left_part ((projectives W k v).dim w) (W.count (v k) w) x) (λ j h e. elim (cases_lt (total j (λ i. W.count (v i) w) + B.place (v j)) ((projectives W k v).dim w)) [
        | inl l ↦ left_part-at ((projectives W k v).dim w) (W.count (v k) w) x 0 _ l ∙ z j (omega arith) e
        | inr l ↦ (left_part ((projectives W k v).dim w) (W.count (v k) w) x).fits.right 0 _ l
      ]))
      (one_in_radical A W B (v k) w _ (λ e.
      right_part-at ((projectives W k v).dim w) (W.count (v k) w) x 0 (B.place (v k))
      ∙ ap (λ n. x.at 0 (n + B.place (v k))) (family_dim k (λ j. projective W (v j)) w) ∙ z k (omega arith) e))
