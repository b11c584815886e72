-- Paths of a header that act as zero on a module, as its side takes them: from the first arrow to the last on the right, from the last to the first on the
-- left. (Assem, Simson, Skowroński, volume 1, chapter III, 1.)
use Rattle.std.specs.Prelude.{◌≡◌}
use Rattle.linear_algebra.specs.Matrix.{zeros}
use Rattle.quiver_paths.specs.declared.Path.{Path}
use Rattle.quiver_paths.specs.Path.{IsPath, path_length}
use Rattle.quiver_paths.specs.PathOrder.{IsSmaller}
use Rattle.path_algebra.specs.declared.Header.{Header}
use Rattle.representations.specs.Rep.{Rep}
use Rattle.bound_algebra.specs.PathMatrices.{path_matrix, left_path_matrix}
use Rattle.module_types.specs.declared.Side.{Side}
use Rattle.module_types.specs.declared.Side.TheVariants.{Right, Left}
use Rattle.module_types.specs.declared.Module.{Module}
use Rattle.module_types.specs.Algebras.{algebra_at}
use Rattle.module_types.specs.Readings.{read}

-- the path acts as zero on a module of the side
abbrev pub IsZeroAlong : (side : Side) (h : Header) → Rep h.field (algebra_at side h).quiver → Path → Type 0
IsZeroAlong Right h X p = path_matrix h.quiver X p.start p.end p ≡ zeros h.field (X.dim p.start) (X.dim p.end)
IsZeroAlong Left h X p = left_path_matrix h.quiver X p.start p.end p ≡ zeros h.field (X.dim p.end) (X.dim p.start)

-- Of the paths of the bound's length this one is the first, in the order of paths, that does not act as zero.
pub record IsFirstAlong (side : Side) (h : Header) (X : Rep h.field (algebra_at side h).quiver) (p : Path) : Type 0 where
  pub path : IsPath h.quiver p
  pub long : path_length p ≡ h.bound
  pub not_zero : IsZeroAlong side h X p → ⊥
  pub first : (r : Path) → IsPath h.quiver r → path_length r ≡ h.bound → IsSmaller r p → IsZeroAlong side h X r

abbrev pub IsFirstLongPath : Header → Module → Path → Type 0
IsFirstLongPath h m p = IsFirstAlong m.side h (read h m) p
