-- Representations of a quiver. (Assem, Simson, Skowroński, volume 1, chapter III, 1.)
use Rattle.std.specs.Prelude.{ℕ, zero, ◌<◌, ◌≤◌, ◌≡◌}
use Rattle.linear_algebra.specs.Field.{Gf}
use Rattle.linear_algebra.specs.Matrix.{Mat, zeros, one, ◌·◌}
use Rattle.linear_algebra.specs.Families.{combine}
use Rattle.representations.specs.Quiver.{Quiver, Path, trivial, then, path_length, Relation, BoundQuiver}

-- A representation: a dimension at each vertex, none past the last vertex, and for each arrow a matrix from its source to its target,
-- which acts on rows from the right.
pub record Rep (q : Gf) (Q : Quiver) : Type 0 where
  pub dim : ℕ → ℕ
  pub mat : (a : ℕ) → Mat q (dim (Q.source a)) (dim (Q.target a))
  pub past : (v : ℕ) → Q.vertices ≤ v → dim v ≡ zero

-- The matrix of a path: the product of the matrices of its arrows, the first arrow first.
unfoldable pub along : {q : Gf} {Q : Quiver} (X : Rep q Q) {v w : ℕ} → Path Q v w → Mat q (X.dim v) (X.dim w)
along {q} X {v} trivial = one q (X.dim v)
along X (then a p) = along X p · X.mat a

-- The matrix of a relation: that combination of the matrices of its paths.
unfoldable pub value_of_relation : {q : Gf} {Q : Quiver} (X : Rep q Q) (r : Relation Q) → Mat q (X.dim r.from) (X.dim r.to)
value_of_relation X r = combine r.terms r.coefficient (λ i. along X (r.path i))

-- X is a module over the algebra: its relations, those below the count, act as zero, and so do all paths of the bound's length.
pub record IsMod {q : Gf} (A : BoundQuiver) (X : Rep q A.quiver) : Type 0 where
  pub relations : (i : ℕ) → i < A.relations → value_of_relation X (A.relation i) ≡ zeros q (X.dim (A.relation i).from) (X.dim (A.relation i).to)
  pub long_paths : {v w : ℕ} (p : Path A.quiver v w) → path_length p ≡ A.bound → along X p ≡ zeros q (X.dim v) (X.dim w)
