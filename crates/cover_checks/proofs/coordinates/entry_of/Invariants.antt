use Rattle.std.proofs.Common.{◌≡◌, ◌<◌}
use Rattle.linear_algebra.specs.Field.{order}
use Rattle.cover_checks.specs.Bases.{combined_entry}
use Rattle.cover_checks.proofs.coordinates.entry_of.Given as goal

abbrev pub invariant-loop-i : goal.invariant-loop-i
invariant-loop-i l = record { sum : l.sum ≡ combined_entry l.field l.i l.width l.coordinates l.basis l.j; small : l.sum < order l.field }
