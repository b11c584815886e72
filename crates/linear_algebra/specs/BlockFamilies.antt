-- Sums of families of matrices, and matrices made of families of blocks: side by side, or one over the other.
use Rattle.std.specs.Prelude.{ℕ, zero, suc, ◌+◌, ◌<◌, ◌≡◌, cond, ltb, refl}
use Rattle.std.proofs.Common.{le-ltb}
use Rattle.std.proofs.lemmas.Bool.{cond-false, cond_both}
use Rattle.linear_algebra.specs.Field.{Gf, order}
use Rattle.linear_algebra.specs.FieldLaws.{order-pos}
use Rattle.linear_algebra.specs.Matrix.{Mat, zeros, ◌⊞◌, transpose, stack, beside}

-- f 0 + f 1 + .. + f (k − 1)
unfoldable pub sum_all : {q : Gf} {m n : ℕ} → ℕ → (ℕ → Mat q m n) → Mat q m n
sum_all {q} {m} {n} zero f = zeros q m n
sum_all (suc k) f = sum_all k f ⊞ f k

-- size 0 + size 1 + .. + size (k − 1)
abbrev pub total : ℕ → (ℕ → ℕ) → ℕ
total zero size = zero
total (suc k) size = total k size + size k

-- the blocks x 0, x 1, .., x (k − 1) side by side, and one over the other
unfoldable pub beside_all : {q : Gf} {l : ℕ} (k : ℕ) (size : ℕ → ℕ) → ((v : ℕ) → Mat q l (size v)) → Mat q l (total k size)
beside_all {q} {l} zero size x = zeros q l zero
beside_all (suc k) size x = beside (beside_all k size x) (x k)

unfoldable pub stack_all : {q : Gf} {l : ℕ} (k : ℕ) (size : ℕ → ℕ) → ((v : ℕ) → Mat q (size v) l) → Mat q (total k size) l
stack_all {q} {l} zero size x = zeros q zero l
stack_all (suc k) size x = stack (stack_all k size x) (x k)

-- block v of a matrix that is made of blocks side by side, or one over the other
unfoldable pub column_block : {q : Gf} {l : ℕ} (k : ℕ) (size : ℕ → ℕ) (v : ℕ) → Mat q l (total k size) → Mat q l (size v)
column_block {q} {l} k size v a = record {
  at = λ i j. cond (ltb j (size v)) (a.at i (total v size + j)) zero;
  fits = record {
    small = λ i j. cond_both (ltb j (size v)) (a.at i (total v size + j)) zero (λ y. y < order q) (λ e. a.fits.small i (total v size + j)) (λ e. order-pos q);
    below = λ i j h. cond_both (ltb j (size v)) (a.at i (total v size + j)) zero (λ y. y ≡ zero) (λ e. a.fits.below i (total v size + j) h) (λ e. refl);
    right = λ i j h. cond-false (ltb j (size v)) (a.at i (total v size + j)) zero (le-ltb j (size v) h);
  };
}

unfoldable pub row_block : {q : Gf} {l : ℕ} (k : ℕ) (size : ℕ → ℕ) (v : ℕ) → Mat q (total k size) l → Mat q (size v) l
row_block k size v a = transpose (column_block k size v (transpose a))
