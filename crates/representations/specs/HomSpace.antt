-- The space of homomorphisms from one representation to another. (Assem, Simson, Skowroński, volume 1, chapter I, 2, and III, 1.)
use Rattle.std.specs.Prelude.{ℕ, ◌*◌, ◌<◌, ◌≡◌}
use Rattle.linear_algebra.specs.Field.{Gf}
use Rattle.linear_algebra.specs.Matrix.{Mat, Row, ◌⊟◌, ◌·◌}
use Rattle.linear_algebra.specs.Parts.{row}
use Rattle.linear_algebra.specs.Rank.{IsInSpan}
use Rattle.linear_algebra.specs.RowForm.{IsRowReduced}
use Rattle.linear_algebra.specs.BlockFamilies.{total}
use Rattle.linear_algebra.specs.Solutions.{flatten_all, unflatten_all}
use Rattle.representations.specs.Quiver.{Quiver}
use Rattle.representations.specs.Rep.{Rep}
use Rattle.representations.specs.Hom.{Hom}

-- The number of entries of a homomorphism.
abbrev pub unknowns : {q : Gf} {Q : Quiver} → Rep q Q → Rep q Q → ℕ
unknowns {Q = Q} X Y = total Q.vertices (λ v. X.dim v * Y.dim v)

-- A homomorphism as one row: its matrices vertex by vertex, each row by row.
unfoldable pub flat : {q : Gf} {Q : Quiver} {X Y : Rep q Q} → Hom X Y → Row q (unknowns X Y)
flat {Q = Q} {X = X} {Y = Y} f = flatten_all Q.vertices X.dim Y.dim f.at

module _ {q : Gf} {Q : Quiver} (X Y : Rep q Q) where
  -- A row as a family of matrices at the vertices.
  unfoldable pub unflat : Row q (unknowns X Y) → (v : ℕ) → Mat q (X.dim v) (Y.dim v)
  unflat x v = unflatten_all Q.vertices X.dim Y.dim x v

  -- How far a family of matrices is from going with the arrow a.
  unfoldable pub defect : Row q (unknowns X Y) → (a : ℕ) → Mat q (X.dim (Q.source a)) (Y.dim (Q.target a))
  defect x a = X.mat a · unflat x (Q.target a) ⊟ unflat x (Q.source a) · Y.mat a

  -- The number of linear equations that say of a row that it is a homomorphism: one for each entry of a square, for each arrow.
  abbrev pub equations : ℕ
  equations = total Q.arrows (λ a. X.dim (Q.source a) * Y.dim (Q.target a))

  -- The left sides of these equations: the defects at all arrows, as one row. A row is a homomorphism where they are zero.
  unfoldable pub defects : Row q (unknowns X Y) → Row q equations
  defects x = flatten_all Q.arrows (λ a. X.dim (Q.source a)) (λ a. Y.dim (Q.target a)) (defect x)

-- A basis of the homomorphisms, in reduced row form: each combination of its rows is a homomorphism, and each homomorphism is a combination
-- of its rows, by exactly one row of coefficients.
pub record HomBasis {q : Gf} {Q : Quiver} (X Y : Rep q Q) : Type 0 where
  pub size : ℕ
  pub basis : Mat q size (unknowns X Y)
  pub pivot : ℕ → ℕ
  pub reduced : IsRowReduced basis pivot
  pub hom : Row q size → Hom X Y
  pub hom_flat : (c : Row q size) → flat (hom c) ≡ c · basis
  pub spans : (f : Hom X Y) → IsInSpan basis (flat f)
  pub once : (c d : Row q size) → c · basis ≡ d · basis → c ≡ d

-- The same of given rows: each is a homomorphism, each homomorphism is a combination of them, by exactly one row of coefficients.
pub record IsHomBasis {q : Gf} {Q : Quiver} (X Y : Rep q Q) {n : ℕ} (basis : Mat q n (unknowns X Y)) : Type 0 where
  pub homs : (i : ℕ) → i < n → (f : Hom X Y) × (flat f ≡ row i basis)
  pub spans : (f : Hom X Y) → IsInSpan basis (flat f)
  pub once : (c d : Row q n) → c · basis ≡ d · basis → c ≡ d
