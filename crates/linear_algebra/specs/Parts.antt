-- Parts of a matrix: a row, a column, the first rows and the others, the first columns and the others; unit rows; scalars.
use Rattle.std.specs.Prelude.{ℕ, zero, ◌+◌, ◌<◌, ◌≡◌, cond, ltb, refl}
use Rattle.std.proofs.Common.{arith, le-ltb}
use Rattle.std.proofs.lemmas.Bool.{cond-false, cond_both}
use Rattle.linear_algebra.specs.Field.{Gf, order}
use Rattle.linear_algebra.specs.FieldLaws.{order-pos}
use Rattle.linear_algebra.specs.Matrix.{Mat, Row, Column, made, one, transpose}

-- row i of a, and column j; zero where there is none
unfoldable pub row : {q : Gf} {m n : ℕ} → ℕ → Mat q m n → Row q n
row {q} {m} {n} k a = record {
  at = λ i j. cond (ltb i 1) (a.at k j) zero;
  fits = record {
    small = λ i j. cond_both (ltb i 1) (a.at k j) zero (λ x. x < order q) (λ e. a.fits.small k j) (λ e. order-pos q);
    below = λ i j h. cond-false (ltb i 1) (a.at k j) zero (le-ltb i 1 h);
    right = λ i j h. cond_both (ltb i 1) (a.at k j) zero (λ x. x ≡ zero) (λ e. a.fits.right k j h) (λ e. refl);
  };
}

unfoldable pub column : {q : Gf} {m n : ℕ} → ℕ → Mat q m n → Column q m
column k a = transpose (row k (transpose a))

-- the row of length n with 1 at place i and zeros elsewhere, and such a column
unfoldable pub unit : (q : Gf) (n : ℕ) → ℕ → Row q n
unit q n i = row i (one q n)

unfoldable pub unit_column : (q : Gf) (n : ℕ) → ℕ → Column q n
unit_column q n i = transpose (unit q n i)

-- a scalar as a matrix of one row and one column
unfoldable pub scalar : (q : Gf) → ℕ → Mat q 1 1
scalar q c = made q 1 1 (λ i j. c)

-- the first m rows, and the k rows after them
unfoldable pub upper : {q : Gf} (m k : ℕ) {n : ℕ} → Mat q (m + k) n → Mat q m n
upper {q} m k {n} a = record {
  at = λ i j. cond (ltb i m) (a.at i j) zero;
  fits = record {
    small = λ i j. cond_both (ltb i m) (a.at i j) zero (λ x. x < order q) (λ e. a.fits.small i j) (λ e. order-pos q);
    below = λ i j h. cond-false (ltb i m) (a.at i j) zero (le-ltb i m h);
    right = λ i j h. cond_both (ltb i m) (a.at i j) zero (λ x. x ≡ zero) (λ e. a.fits.right i j h) (λ e. refl);
  };
}

unfoldable pub lower : {q : Gf} (m k : ℕ) {n : ℕ} → Mat q (m + k) n → Mat q k n
lower m k a = record {
  at = λ i j. a.at (m + i) j;
  fits = record { small = λ i j. a.fits.small (m + i) j; below = λ i j h. a.fits.below (m + i) j (omega arith); right = λ i j h. a.fits.right (m + i) j h };
}

-- the first k columns, and the n columns after them
unfoldable pub left_part : {q : Gf} {m : ℕ} (k n : ℕ) → Mat q m (k + n) → Mat q m k
left_part k n a = transpose (upper k n (transpose a))

unfoldable pub right_part : {q : Gf} {m : ℕ} (k n : ℕ) → Mat q m (k + n) → Mat q m n
right_part k n a = transpose (lower k n (transpose a))
