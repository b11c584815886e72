-- The radical of a module and its powers. (Assem, Simson, Skowroński, volume 1, chapter I, 3, and chapter III, 2.2.)
use Rattle.std.specs.Prelude.{ℕ, ◌≡◌, List, [], ◌∷◌}
use Rattle.linear_algebra.specs.Field.{Gf}
use Rattle.linear_algebra.specs.Matrix.{Row, zeros, ◌⊞◌, ◌·◌}
use Rattle.representations.specs.Quiver.{Quiver, Path, path_length}
use Rattle.representations.specs.Rep.{Rep, along}
use Rattle.representations.specs.Hom.{Hom}

-- A path of k arrows to the vertex w, and a row at its start.
pub record PathTerm {q : Gf} {Q : Quiver} (X : Rep q Q) (k w : ℕ) : Type 0 where
  pub start : ℕ
  pub path : Path Q start w
  pub long : path_length path ≡ k
  pub row : Row q (X.dim start)

-- The sum of what the rows become along their paths.
abbrev pub path_sum : {q : Gf} {Q : Quiver} {X : Rep q Q} {k w : ℕ} → List (PathTerm X k w) → Row q (X.dim w)
path_sum {q} {X = X} {w = w} [] = zeros q 1 (X.dim w)
path_sum {X = X} (t ∷ ts) = t.row · along X t.path ⊞ path_sum ts

-- A row of the k-th power of the radical: a sum of rows that come along paths of k arrows.
pub record IsInRadicalPower {q : Gf} {Q : Quiver} (X : Rep q Q) (k w : ℕ) (x : Row q (X.dim w)) : Type 0 where
  pub terms : List (PathTerm X k w)
  pub is : path_sum terms ≡ x

-- A row of the radical: a sum of rows that come along arrows.
abbrev pub IsInRadical : {q : Gf} {Q : Quiver} (X : Rep q Q) (w : ℕ) → Row q (X.dim w) → Type 0
IsInRadical X w x = IsInRadicalPower X 1 w x

-- A row that f reaches, up to the radical.
pub record IsReachedModuloRadical {q : Gf} {Q : Quiver} {X Y : Rep q Q} (f : Hom X Y) (w : ℕ) (y : Row q (Y.dim w)) : Type 0 where
  pub from : Row q (X.dim w)
  pub rest : Row q (Y.dim w)
  pub in_radical : IsInRadical Y w rest
  pub is : from · f.at w ⊞ rest ≡ y
