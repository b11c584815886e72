use Rattle.std.proofs.Common.{ℕ, ◌<◌}
use Rattle.resolution_checks.specs.Products.{IsZeroRow}
use Rattle.resolution_checks.proofs.products.product_is_zero.Given as goal

abbrev pub invariant-loop-i : goal.invariant-loop-i
invariant-loop-i l = (k : ℕ) → k < l.i → IsZeroRow l.field l.width l.columns l.f l.g k l.columns
