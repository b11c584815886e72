use Rattle.std.proofs.Common.{ℕ, ◌<◌, length}
use Rattle.std.specs.Prelude.{slice_index}
use Rattle.fp_linear.specs.Slices.{AreElements}
use Rattle.term_rows.specs.RowSteps.{IsAddedFrom, HasProducts, combined}
use Rattle.term_rows.proofs.sums.add_words.Given as goal

abbrev pub invariant-loop-i : goal.invariant-loop-i
invariant-loop-i l = record {
  added : (entries : ℕ → ℕ → ℕ) → ((i : ℕ) → i < length l.sources → HasProducts l.table.header l.table.words l.side (slice_index l.sources i) l.arrow l.targets (entries i))
      → IsAddedFrom l.table.header.field l.to (length l.targets) (combined l.table.header.field l.row l.from entries l.i) l.initial.next l.next;
  elements : AreElements l.table.header.field l.next;
}
