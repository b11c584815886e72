use Rattle.std.proofs.Common.{◌+◌}
use Rattle.fp_linear.specs.Slices.{AreElements}
use Rattle.alg_table.specs.TableView.{IsTable}
use Rattle.term_rows.specs.TermCells.{FirstRows}
use Rattle.sequence_checks.specs.Pullbacks.{pulled_back}
use Rattle.sequence_checks.proofs.pullbacks.write_pulled_generator.Given as goal

abbrev pub invariant-loop-i : goal.invariant-loop-i
invariant-loop-i l = record {
  rows : (t : IsTable l.table.header l.table.words) → FirstRows (pulled_back l.table.header l.table.words t l.side l.m l.cover l.functional l.syzygy l.fn.w) (l.a + l.b) l.at l.initial.into
      → FirstRows (pulled_back l.table.header l.table.words t l.side l.m l.cover l.functional l.syzygy l.fn.w) (l.a + l.b) (l.at + l.i) l.into;
  elements : AreElements l.table.header.field l.into;
}
