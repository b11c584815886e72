-- Matrices of sizes that are equal along paths: they are equal along those paths as soon as their entries are.
use Rattle.std.proofs.Common.{ℕ, ◌≡◌, refl, sym}
use mathlib.Core.Path.{PathP}
use mathlib.Core.HLevel.{is_prop→PathP}
use Rattle.linear_algebra.specs.Field.{Gf}
use Rattle.linear_algebra.specs.Matrix.{Mat, IsAt, IsAt-prop, Mat-eq, reshape}
use Rattle.linear_algebra.proofs.PartsLaws.{reshape-at}

pub Mat-path : {q : Gf} (m n : 𝕀 → ℕ) (a : Mat q (m 0) (n 0)) (b : Mat q (m 1) (n 1)) → ((i j : ℕ) → a.at i j ≡ b.at i j) → PathP (λ k. Mat q (m k) (n k)) a b
Mat-path {q} m n a b h = λ k. record {
  at = λ i j. h i j k;
  fits = is_prop→PathP (λ k. IsAt q (m k) (n k) (λ i j. h i j k)) (λ k. IsAt-prop q (m k) (n k) (λ i j. h i j k)) a.fits b.fits k;
}

-- A reshaped matrix is the same along the paths of sizes.
pub reshape-path : {q : Gf} {m n k l : ℕ} (e : m ≡ k) (d : n ≡ l) (a : Mat q m n) → PathP (λ i. Mat q (e i) (d i)) a (reshape e d a)
reshape-path e d a = Mat-path (λ i. e i) (λ i. d i) a (reshape e d a) (λ i j. sym (reshape-at e d a i j))

pub reshape_refl : {q : Gf} {m n : ℕ} (a : Mat q m n) → reshape refl refl a ≡ a
reshape_refl a = Mat-eq _ _ (λ i j. reshape-at refl refl a i j)
