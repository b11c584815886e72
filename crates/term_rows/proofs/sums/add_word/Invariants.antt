use Rattle.fp_linear.specs.Slices.{AreElements}
use Rattle.term_rows.specs.RowSteps.{IsAddedFrom, multiple_at_place}
use Rattle.term_rows.proofs.sums.add_word.Given as goal

abbrev pub invariant-loop-t : goal.invariant-loop-t
invariant-loop-t l = record {
  added : IsAddedFrom l.fn.table.header.field l.to l.t (multiple_at_place l.fn.table.header.field l.factor l.targets l.spare) l.initial.next l.next;
  elements : AreElements l.fn.table.header.field l.next;
}
