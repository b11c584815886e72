use Rattle.std.proofs.Common.{◌≡◌, ◌<◌}
use Rattle.linear_algebra.specs.Field.{order}
use Rattle.module_checks.specs.Products.{product_entry}
use Rattle.translate_checks.proofs.dots.product_at.Given as goal

abbrev pub invariant-loop-t : goal.invariant-loop-t
invariant-loop-t l = record { sum : l.sum ≡ product_entry l.field l.t l.left l.right l.i l.j; small : l.sum < order l.field }
