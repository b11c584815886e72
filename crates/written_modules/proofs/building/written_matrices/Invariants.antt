use Rattle.std.proofs.Common.{◌≡◌}
use Rattle.linear_algebra.specs.Rows.{list_of}
use Rattle.written_modules.proofs.WrittenShapes.{matrix_named}
use Rattle.written_modules.proofs.building.written_matrices.Given as goal

abbrev pub invariant-loop-i : goal.invariant-loop-i
invariant-loop-i l = l.matrices.items ≡ list_of l.i (matrix_named l.field l.names l.rows l.cols l.lines)
