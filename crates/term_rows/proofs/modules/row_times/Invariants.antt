use Rattle.std.proofs.Common.{ℕ, ◌≡◌, ◌<◌, ◌≤◌, get_or}
use Rattle.fp_linear.specs.Slices.{AreElements}
use Rattle.module_checks.specs.RowWalks.{row_entry}
use Rattle.term_rows.proofs.modules.row_times.Given as goal

abbrev pub invariant-loop-j : goal.invariant-loop-j
invariant-loop-j l = record {
  done : (k : ℕ) → k < l.j → get_or l.next k 0 ≡ row_entry l.field l.matrix.row_count l.row l.matrix k;
  rest : (k : ℕ) → l.j ≤ k → get_or l.next k 0 ≡ 0;
  elements : AreElements l.field l.next;
}
