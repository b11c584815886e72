use Rattle.std.proofs.Common.{◌≡◌, ◌<◌}
use Rattle.linear_algebra.specs.Field.{order}
use Rattle.translate_checks.specs.Dots.{column_dot}
use Rattle.translate_checks.proofs.dots.column_dot.Given as goal

abbrev pub invariant-loop-t : goal.invariant-loop-t
invariant-loop-t l = record { sum : l.sum ≡ column_dot l.field l.t l.s l.start l.a l.j; small : l.sum < order l.field }
