use Rattle.std.proofs.Common.{◌≡◌, ◌<◌, ◌+◌, get_or}
use Rattle.linear_algebra.specs.Field.{order, mul}
use Rattle.linear_algebra.specs.Sums.{sum_to}
use Rattle.linear_algebra.specs.Rows.{entry}
use Rattle.module_checks.proofs.images.image_entry.Given as goal

abbrev pub invariant-loop-i : goal.invariant-loop-i
invariant-loop-i l = record { sum : l.sum ≡ sum_to l.field l.i (λ i. mul l.field (get_or l.row (l.from + i) 0) (entry l.matrix.rows i l.j)); small : l.sum < order l.field }
