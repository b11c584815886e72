-- Ideals of a finite-dimensional algebra, by rows that span them, and what holds modulo an ideal.
-- (Assem, Simson, Skowroński, volume 1, chapter I, 1.)
use Rattle.std.specs.Prelude.{ℕ, ◌<◌, ◌≤◌, ◌≡◌}
use Rattle.linear_algebra.specs.Field.{Gf, order}
use Rattle.linear_algebra.specs.Matrix.{Mat, zeros, ◌⊟◌, ◌⊙◌}
use Rattle.linear_algebra.specs.Rank.{IsInSpan}
use Rattle.local_modules.specs.Algebra.{Algebra, Element, power_in, product_in}

-- The span of the rows is closed under products with each element, on both sides.
pub record IsTwoSided {q : Gf} (A : Algebra q) {k : ℕ} (ideal : Mat q k A.size) : Type 0 where
  pub left : (a x : Element A) → IsInSpan ideal x → IsInSpan ideal (A.product a x)
  pub right : (a x : Element A) → IsInSpan ideal x → IsInSpan ideal (A.product x a)

-- Each product of s members is zero.
abbrev pub PowerVanishes : {q : Gf} (A : Algebra q) {k : ℕ} → Mat q k A.size → ℕ → Type 0
PowerVanishes {q} A ideal s = (h : ℕ → Element A) → ((i : ℕ) → i < s → IsInSpan ideal (h i)) → product_in A h s ≡ zeros q 1 A.size

-- The least number from 1 on with that property.
pub record IsLeastPower {q : Gf} (A : Algebra q) {k : ℕ} (ideal : Mat q k A.size) (s : ℕ) : Type 0 where
  pub positive : 1 ≤ s
  pub vanishes : PowerVanishes A ideal s
  pub least : (t : ℕ) → 1 ≤ t → PowerVanishes A ideal t → s ≤ t

-- x and y are in the same class modulo the ideal.
abbrev pub IsCongruent : {q : Gf} {k n : ℕ} (ideal : Mat q k n) → Mat q 1 n → Mat q 1 n → Type 0
IsCongruent ideal x y = IsInSpan ideal (x ⊟ y)

-- The residue ring modulo the ideal is commutative.
abbrev pub IsCommutativeModulo : {q : Gf} (A : Algebra q) {k : ℕ} → Mat q k A.size → Type 0
IsCommutativeModulo A ideal = (x y : Element A) → IsCongruent ideal (A.product x y) (A.product y x)

-- The residue ring is commutative, the map that takes y to its q-th power is injective on it, and its fixed elements are the multiples of one
-- that is not zero; q is the number of elements of the field.
pub record IsFrobeniusField {q : Gf} (A : Algebra q) {k : ℕ} (ideal : Mat q k A.size) : Type 0 where
  pub commutative : IsCommutativeModulo A ideal
  pub injective : (x y : Element A) → IsCongruent ideal (power_in A x (order q)) (power_in A y (order q)) → IsCongruent ideal x y
  pub fixed : Element A
  pub fixed_nonzero : IsInSpan ideal fixed → ⊥
  pub is_fixed : IsCongruent ideal (power_in A fixed (order q)) fixed
  pub all_fixed : (y : Element A) → IsCongruent ideal (power_in A y (order q)) y → (c : ℕ) × IsCongruent ideal y (c ⊙ fixed)

-- An inverse of x on both sides, modulo the ideal.
pub record IsUnitModulo {q : Gf} (A : Algebra q) {k : ℕ} (ideal : Mat q k A.size) (x : Element A) : Type 0 where
  pub inverse : Element A
  pub right : IsCongruent ideal (A.product x inverse) A.unit
  pub left : IsCongruent ideal (A.product inverse x) A.unit

-- The residue ring is not commutative, and each of its elements but zero has an inverse.
pub record IsListedDivisionRing {q : Gf} (A : Algebra q) {k : ℕ} (ideal : Mat q k A.size) : Type 0 where
  pub not_commutative : IsCommutativeModulo A ideal → ⊥
  pub inverses : (x : Element A) → (IsInSpan ideal x → ⊥) → IsUnitModulo A ideal x

-- The two-sided ideal that an ideal and an element x generate: it is two-sided, has both, and lies in each two-sided ideal that has both.
pub record IsGeneratedWith {q : Gf} (A : Algebra q) {k l : ℕ} (ideal : Mat q k A.size) (x : Element A) (larger : Mat q l A.size) : Type 0 where
  pub two_sided : IsTwoSided A larger
  pub has_ideal : IsInSpan larger ideal
  pub has_element : IsInSpan larger x
  pub least : {s : ℕ} (other : Mat q s A.size) → IsTwoSided A other → IsInSpan other ideal → IsInSpan other x → IsInSpan other larger
