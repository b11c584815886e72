-- Linear functions of matrices and rows, and a matrix as one long row.
use Rattle.std.specs.Prelude.{ℕ, zero, suc, ◌+◌, ◌*◌, ◌/◌, ◌%◌, ◌<◌, ◌≤◌, ◌≡◌, cond, ltb, refl}
use Rattle.std.proofs.Common.{arith, le-ltb, mul-le-mul_right, zero-le, zero-lt-suc}
use Rattle.std.proofs.lemmas.Bool.{cond-false, cond_both}
use Rattle.std.proofs.lemmas.Nat.{le-div}
use Rattle.linear_algebra.specs.Field.{Gf, order}
use Rattle.linear_algebra.specs.FieldLaws.{order-pos}
use Rattle.linear_algebra.specs.Matrix.{Mat, Row, made, ◌⊞◌, ◌⊙◌}
use Rattle.linear_algebra.specs.Parts.{unit}

-- A function that goes with sums and multiples.
pub record IsLinear {q : Gf} {m n k l : ℕ} (f : Mat q m n → Mat q k l) : Type 0 where
  pub sum : (a b : Mat q m n) → f (a ⊞ b) ≡ f a ⊞ f b
  pub multiple : (c : ℕ) (a : Mat q m n) → f (c ⊙ a) ≡ c ⊙ f a

-- The matrix of a linear function of rows: its rows are the values at the unit rows.
unfoldable pub matrix_of : {q : Gf} {m n : ℕ} → (Row q m → Row q n) → Mat q m n
matrix_of {q} {m} {n} f = made q m n (λ i j. (f (unit q m i)).at 0 j)

-- past the last row of a matrix, as a long row goes
past_rows : (m n i j : ℕ) → m ≤ i → m * n ≤ i * n + j
past_rows m n i j h = let k = mul-le-mul_right n h in omega arith

past_long : (m n k : ℕ) (P : ℕ → ℕ → Type 0) → m * n ≤ k → (m ≤ k / n → P (k / n) (k % n)) → (n ≤ k % n → P (k / n) (k % n)) → P (k / n) (k % n)
past_long m zero k P h x y = y zero-le
past_long m (suc n) k P h x y = x (le-div m k (suc n) (zero-lt-suc n) h)

-- The rows of a matrix one after another, as one row; and back.
unfoldable pub flatten : {q : Gf} {m n : ℕ} → Mat q m n → Row q (m * n)
unfolding past_long past_rows
flatten {q} {m} {n} a = record {
  at = λ i k. cond (ltb i 1) (a.at (k / n) (k % n)) zero;
  fits = record {
    small = λ i k. cond_both (ltb i 1) (a.at (k / n) (k % n)) zero (λ x. x < order q) (λ e. a.fits.small (k / n) (k % n)) (λ e. order-pos q);
    below = λ i k h. cond-false (ltb i 1) (a.at (k / n) (k % n)) zero (le-ltb i 1 h);
    right = λ i k h. cond_both (ltb i 1) (a.at (k / n) (k % n)) zero (λ x. x ≡ zero)
        (λ e. past_long m n k (λ i j. a.at i j ≡ zero) h (a.fits.below (k / n) (k % n)) (a.fits.right (k / n) (k % n)))
        (λ e. refl);
  };
}

unfoldable pub unflatten : {q : Gf} (m n : ℕ) → Row q (m * n) → Mat q m n
unfolding past_rows
unflatten {q} m n x = record {
  at = λ i j. cond (ltb j n) (x.at 0 (i * n + j)) zero;
  fits = record {
    small = λ i j. cond_both (ltb j n) (x.at 0 (i * n + j)) zero (λ y. y < order q) (λ e. x.fits.small 0 (i * n + j)) (λ e. order-pos q);
    below = λ i j h. cond_both (ltb j n) (x.at 0 (i * n + j)) zero (λ y. y ≡ zero) (λ e. x.fits.right 0 (i * n + j) (past_rows m n i j h)) (λ e. refl);
    right = λ i j h. cond-false (ltb j n) (x.at 0 (i * n + j)) zero (le-ltb j n h);
  };
}
