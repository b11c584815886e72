-- Powers of a square matrix.
use Rattle.std.specs.Prelude.{ℕ, zero, suc, ◌≡◌}
use Rattle.linear_algebra.specs.Field.{Gf}
use Rattle.linear_algebra.specs.Matrix.{Mat, zeros, one, ◌⊞◌, ◌⊟◌, ◌⊙◌, ◌·◌}

-- x multiplied k times by itself
unfoldable pub mat_power : {q : Gf} {n : ℕ} → Mat q n n → ℕ → Mat q n n
mat_power {q} {n} x zero = one q n
mat_power x (suc k) = x · mat_power x k

-- 1 + x + .. + x^(k − 1)
unfoldable pub geometric : {q : Gf} {n : ℕ} → Mat q n n → ℕ → Mat q n n
geometric {q} {n} x zero = zeros q n n
geometric x (suc k) = geometric x k ⊞ mat_power x k

-- (x − (k − 1)) · .. · (x − 1) · (x − 0), where a number c stands for c ⊙ 1
unfoldable pub shifts : {q : Gf} {n : ℕ} → Mat q n n → ℕ → Mat q n n
shifts {q} {n} x zero = one q n
shifts {q} {n} x (suc k) = (x ⊟ k ⊙ one q n) · shifts x k

-- Some power is zero.
pub record IsNilpotent {q : Gf} {n : ℕ} (x : Mat q n n) : Type 0 where
  pub exponent : ℕ
  pub vanishes : mat_power x exponent ≡ zeros q n n

-- Rows split into some that the power e of x takes to zero and some in the image of that power.
pub record FittingParts {q : Gf} {k d : ℕ} (x : Mat q d d) (e : ℕ) (y : Mat q k d) : Type 0 where
  pub nilpotent_part : Mat q k d
  pub source : Mat q k d
  pub sum : nilpotent_part ⊞ source · mat_power x e ≡ y
  pub vanishes : nilpotent_part · mat_power x e ≡ zeros q k d
