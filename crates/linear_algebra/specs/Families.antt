-- Families of square matrices g 0, g 1, .., of which the first s count: their combinations and products.
use Rattle.std.specs.Prelude.{ℕ, zero, suc, ◌≡◌}
use Rattle.linear_algebra.specs.Field.{Gf}
use Rattle.linear_algebra.specs.Matrix.{Mat, Row, Column, zeros, one, ◌⊞◌, ◌⊙◌, ◌·◌}

-- c 0 ⊙ g 0 + .. + c (s − 1) ⊙ g (s − 1)
unfoldable pub combine : {q : Gf} {m n : ℕ} → ℕ → (ℕ → ℕ) → (ℕ → Mat q m n) → Mat q m n
combine {q} {m} {n} zero c g = zeros q m n
combine (suc s) c g = combine s c g ⊞ c s ⊙ g s

-- r is a combination of the first s members of the family.
pub record IsCombination {q : Gf} {m n : ℕ} (s : ℕ) (g : ℕ → Mat q m n) (r : Mat q m n) : Type 0 where
  pub coefficients : ℕ → ℕ
  pub is : combine s coefficients g ≡ r

-- h 0 · h 1 · .. · h (k − 1)
unfoldable pub ordered_product : {q : Gf} {n : ℕ} → (ℕ → Mat q n n) → ℕ → Mat q n n
ordered_product {q} {n} h zero = one q n
ordered_product h (suc k) = ordered_product h k · h k

-- A combination r of the family and a row a ≠ 0 with a · r = a.
pub record HasFixedRow {q : Gf} {n : ℕ} (s : ℕ) (g : ℕ → Mat q n n) : Type 0 where
  pub element : Mat q n n
  pub in_family : IsCombination s g element
  pub fixed : Row q n
  pub functional : Column q n
  pub nonzero : fixed · functional ≡ one q 1
  pub is_fixed : fixed · element ≡ fixed
