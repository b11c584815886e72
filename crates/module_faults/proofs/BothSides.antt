-- The first long path of a module of either side, by that of a right module.
use Rattle.std.proofs.Common.{ℕ, ◌≡◌, sym, ap, ◌∙◌}
use Rattle.linear_algebra.specs.Field.{Gf}
use Rattle.linear_algebra.specs.Matrix.{zeros, transpose}
use Rattle.linear_algebra.specs.MatrixLaws.{transpose_transpose, transpose_zeros}
use Rattle.quiver_paths.specs.declared.Path.{Path}
use Rattle.path_algebra.specs.declared.Header.{Header}
use Rattle.representations.specs.Quiver.{Quiver, opposite, reverse}
use Rattle.representations.specs.Rep.{Rep, along}
use Rattle.representations.specs.Dual.{dual}
use Rattle.representations.proofs.Duals.{along-reverse, path_length-reverse}
use Rattle.bound_algebra.specs.TypedPaths.{quiver_of}
use Rattle.bound_algebra.specs.PathMatrices.{path_matrix, left_path_matrix}
use Rattle.bound_algebra.proofs.PathMatrices.{dual_matrix}
use Rattle.module_checks.specs.PathImages.{LongPathsActAsZero}

-- Long paths act as zero on a module where they do on its dual.
pub long_of_dual : {q : Gf} {Q : Quiver} (X : Rep q Q) (t : ℕ) → LongPathsActAsZero (dual X) t → LongPathsActAsZero X t
long_of_dual {q} X t h = record {
  zero = λ {v} {w} p e.
      sym (transpose_transpose (along X p)) ∙ ap transpose (sym (along-reverse X p) ∙ h.zero (reverse p) (path_length-reverse p ∙ e)) ∙ transpose_zeros q (X.dim w) (X.dim v);
}

-- A path acts as zero on a left module exactly where it does on the dual.
module _ (h : Header) (X : Rep h.field (opposite (quiver_of h.quiver))) (p : Path) where
  pub left_of_dual : path_matrix h.quiver (dual X) p.start p.end p ≡ zeros h.field (X.dim p.start) (X.dim p.end) → left_path_matrix h.quiver X p.start p.end p ≡ zeros h.field (X.dim p.end) (X.dim p.start)
  left_of_dual e =
      sym (transpose_transpose (left_path_matrix h.quiver X p.start p.end p)) ∙ ap transpose (sym (dual_matrix h.quiver X p.start p.end p) ∙ e) ∙ transpose_zeros h.field (X.dim p.start) (X.dim p.end)

  pub dual_of_left : left_path_matrix h.quiver X p.start p.end p ≡ zeros h.field (X.dim p.end) (X.dim p.start) → path_matrix h.quiver (dual X) p.start p.end p ≡ zeros h.field (X.dim p.start) (X.dim p.end)
  dual_of_left e = dual_matrix h.quiver X p.start p.end p ∙ ap transpose e ∙ transpose_zeros h.field (X.dim p.end) (X.dim p.start)
