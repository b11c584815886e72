use Rattle.std.proofs.Common.{◌≡◌, ◌<◌}
use Rattle.linear_algebra.specs.Field.{order}
use Rattle.resolution_checks.specs.Products.{partial_entry}
use Rattle.resolution_checks.proofs.products.entry_of.Given as goal

abbrev pub invariant-loop-t : goal.invariant-loop-t
invariant-loop-t l = record { sum : l.sum ≡ partial_entry l.field l.width l.columns l.f l.g l.i l.j l.t; small : l.sum < order l.field }
