use Rattle.std.proofs.Common.{◌≡◌, ◌<◌}
use Rattle.linear_algebra.specs.Field.{order}
use Rattle.translate_checks.specs.Dots.{row_dot}
use Rattle.translate_checks.proofs.dots.row_dot.Given as goal

abbrev pub invariant-loop-t : goal.invariant-loop-t
invariant-loop-t l = record { sum : l.sum ≡ row_dot l.field l.t l.a l.r l.s l.start; small : l.sum < order l.field }
