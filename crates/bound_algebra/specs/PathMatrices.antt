-- The matrices of a path on a right and on a left module, where the path is a start, an end and a list of arrows.
-- (Assem, Simson, Skowroński, volume 1, chapter III, 1.)
use Rattle.std.specs.Prelude.{ℕ, ◌⊎◌}
use Rattle.std.proofs.Common.{inl, inr}
use Rattle.linear_algebra.specs.Field.{Gf}
use Rattle.linear_algebra.specs.Matrix.{Mat, zeros}
use Rattle.quiver_paths.specs.declared.Quiver.{Quiver}
use Rattle.quiver_paths.specs.declared.Path.{Path}
use Rattle.representations.specs.Quiver.{opposite, reverse}
use Rattle.representations.specs.Rep.{Rep, along}
use Rattle.bound_algebra.specs.TypedPaths.{quiver_of, path_of, Runs, cases_runs}

abbrev pub path_matrix_by : {q : Gf} (Q : Quiver) (X : Rep q (quiver_of Q)) (v w : ℕ) (p : Path) → Runs Q v w p ⊎ (Runs Q v w p → ⊥) → Mat q (X.dim v) (X.dim w)
path_matrix_by Q X v w p (inl r) = along X (path_of Q v p.arrows w r.leads)
path_matrix_by {q} Q X v w p (inr n) = zeros q (X.dim v) (X.dim w)

-- The matrix of p on a right module, from v to w: the product of the matrices of its arrows, the first arrow first; zero where p does not lead
-- from v to w.
unfoldable pub path_matrix : {q : Gf} (Q : Quiver) (X : Rep q (quiver_of Q)) (v w : ℕ) → Path → Mat q (X.dim v) (X.dim w)
path_matrix Q X v w p = path_matrix_by Q X v w p (cases_runs Q v w p)

abbrev pub left_path_matrix_by : {q : Gf} (Q : Quiver) (X : Rep q (opposite (quiver_of Q))) (v w : ℕ) (p : Path) → Runs Q v w p ⊎ (Runs Q v w p → ⊥)
    → Mat q (X.dim w) (X.dim v)
left_path_matrix_by Q X v w p (inl r) = along X (reverse (path_of Q v p.arrows w r.leads))
left_path_matrix_by {q} Q X v w p (inr n) = zeros q (X.dim w) (X.dim v)

-- The matrix of p on a left module, a representation of the opposite quiver, from w to v: the product of the matrices of its arrows, the last arrow
-- first; zero where p does not lead from v to w.
unfoldable pub left_path_matrix : {q : Gf} (Q : Quiver) (X : Rep q (opposite (quiver_of Q))) (v w : ℕ) → Path → Mat q (X.dim w) (X.dim v)
left_path_matrix Q X v w p = left_path_matrix_by Q X v w p (cases_runs Q v w p)
