-- The words of a table on both sides of its algebra. (Assem, Simson, Skowroński, volume 1, chapter II, 1 and 2, and III, 2.)
use Rattle.std.specs.Prelude.{List}
use Rattle.quiver_paths.specs.declared.Path.{Path}
use Rattle.path_algebra.specs.declared.Header.{Header}
use Rattle.alg_table.specs.TableView.{IsTable}
use Rattle.projectives.specs.TwoSided.{TwoSided}
use Rattle.bound_algebra.specs.BoundAlgebra.{bound_algebra}
use Rattle.bound_algebra.proofs.TwoSidedBasis.{two_sided}

abbrev pub table_sides : (h : Header) (words : List Path) → IsTable h words → TwoSided h.field (bound_algebra h)
table_sides h words t = two_sided h t.allowed words t.normal
