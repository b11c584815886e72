use Rattle.std.proofs.Common.{◌≡◌}
use Rattle.linear_algebra.specs.Rows.{list_of}
use Rattle.term_rows.specs.SumDims.{count_to}
use Rattle.standard_modules.proofs.dimensions.dims_by_words.Given as goal

abbrev pub invariant-loop-w : goal.invariant-loop-w
invariant-loop-w l = l.dims.items ≡ list_of l.w (count_to l.table.words l.fn.side l.v)
