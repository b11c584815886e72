-- Finite-dimensional algebras over a field of the table, by coordinates over a basis. (Assem, Simson, Skowroński, volume 1, chapter I, 1.)
use Rattle.std.specs.Prelude.{ℕ, zero, suc, ◌≡◌}
use Rattle.linear_algebra.specs.Field.{Gf}
use Rattle.linear_algebra.specs.Matrix.{Row, zeros, ◌⊞◌, ◌⊙◌}

-- An associative algebra with a unit: its elements are the rows of length size, and the product is linear in each factor.
pub record Algebra (q : Gf) : Type 0 where
  pub size : ℕ
  pub product : Row q size → Row q size → Row q size
  pub unit : Row q size
  pub sum_product : (x y z : Row q size) → product (x ⊞ y) z ≡ product x z ⊞ product y z
  pub product_sum : (x y z : Row q size) → product x (y ⊞ z) ≡ product x y ⊞ product x z
  pub multiple_product : (c : ℕ) (x y : Row q size) → product (c ⊙ x) y ≡ c ⊙ product x y
  pub product_multiple : (c : ℕ) (x y : Row q size) → product x (c ⊙ y) ≡ c ⊙ product x y
  pub associates : (x y z : Row q size) → product (product x y) z ≡ product x (product y z)
  pub unit_product : (x : Row q size) → product unit x ≡ x
  pub product_unit : (x : Row q size) → product x unit ≡ x

-- An element, as a row of coordinates.
abbrev pub Element : {q : Gf} → Algebra q → Type 0
Element {q} A = Row q A.size

-- x multiplied k times by itself
unfoldable pub power_in : {q : Gf} (A : Algebra q) → Element A → ℕ → Element A
power_in A x zero = A.unit
power_in A x (suc k) = A.product x (power_in A x k)

-- h 0 times h 1 times .. times h (k − 1)
unfoldable pub product_in : {q : Gf} (A : Algebra q) → (ℕ → Element A) → ℕ → Element A
product_in A h zero = A.unit
product_in A h (suc k) = A.product (product_in A h k) (h k)

-- An element with an inverse on both sides.
pub record IsUnitIn {q : Gf} (A : Algebra q) (x : Element A) : Type 0 where
  pub inverse : Element A
  pub right : A.product x inverse ≡ A.unit
  pub left : A.product inverse x ≡ A.unit

-- Some power is zero.
pub record IsNilpotentIn {q : Gf} (A : Algebra q) (x : Element A) : Type 0 where
  pub exponent : ℕ
  pub vanishes : power_in A x exponent ≡ zeros q 1 A.size

-- An element that has no inverse, and no power that is zero.
pub record IsMixed {q : Gf} (A : Algebra q) (x : Element A) : Type 0 where
  pub no_unit : IsUnitIn A x → ⊥
  pub not_nilpotent : IsNilpotentIn A x → ⊥
