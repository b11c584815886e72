use Rattle.resolution_checks.specs.Products.{IsZeroRow}
use Rattle.resolution_checks.proofs.products.is_zero_row.Given as goal

abbrev pub invariant-loop-j : goal.invariant-loop-j
invariant-loop-j l = IsZeroRow l.field l.width l.columns l.f l.g l.i l.j
