-- The residue ring of an algebra modulo an ideal. (Assem, Simson, Skowroński, volume 1, chapter I, 1.)
use Rattle.std.specs.Prelude.{ℕ, ◌≡◌, ◌<◌}
use Rattle.linear_algebra.specs.Field.{Gf}
use Rattle.linear_algebra.specs.Matrix.{Mat, zeros, one, ◌·◌, ◌⊞◌}
use Rattle.linear_algebra.specs.Rank.{IsInSpan}
use Rattle.linear_algebra.specs.RowForm.{IsCoReduced}
use Rattle.local_modules.specs.Algebra.{Algebra, Element}

-- An algebra `ring` and a matrix `class` that takes each element to its class: it goes with products and the unit, and takes to zero what is in the
-- ideal and no more. The class of the element with 1 at place i and zeros elsewhere is the coordinate i of `ring`; `lift` takes a class to such an element.
pub record ResidueRing {q : Gf} (A : Algebra q) {k : ℕ} (ideal : Mat q k A.size) : Type 0 where
  pub ring : Algebra q
  pub class : Mat q A.size ring.size
  pub place : ℕ → ℕ
  pub coreduced : IsCoReduced class place
  pub lift : Mat q ring.size A.size
  pub class_of_lift : lift · class ≡ one q ring.size
  pub product : (x y : Element A) → A.product x y · class ≡ ring.product (x · class) (y · class)
  pub unit : A.unit · class ≡ ring.unit
  pub vanishes : (x : Element A) → IsInSpan ideal x → x · class ≡ zeros q 1 ring.size
  pub kernel : (x : Element A) → x · class ≡ zeros q 1 ring.size → IsInSpan ideal x

-- The rows of `rest` are those of p less combinations of the rows of J, and zero at the pivots of J.
pub record IsRemainder {q : Gf} {m l n : ℕ} (J : Mat q l n) (pivot : ℕ → ℕ) (p rest : Mat q m n) : Type 0 where
  pub by : Mat q m l
  pub is : rest ≡ p ⊞ by · J
  pub clear : (r i : ℕ) → i < l → rest.at r (pivot i) ≡ 0
