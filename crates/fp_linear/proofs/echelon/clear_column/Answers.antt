use Rattle.std.proofs.Common.{◌-◌, sym, ap, ◌∙◌, arith}
use Rattle.linear_algebra.specs.Field.{neg}
use Rattle.linear_algebra.specs.FieldLaws.{neg_below}
use Rattle.fp_linear.proofs.Cells.{cell_small, cell-is, AreApart-rows}
use Rattle.fp_linear.proofs.RowLoops.{IsClearedBelow-none, IsClearedBelow-skip, IsClearedBelow-zero, IsClearedBelow-more}
use Rattle.fp_linear.proofs.echelon.clear_column.Goals.{then-i-row+then-factor-ne0, then-i-row+else-factor-ne0, else-i-row}
use Rattle.fp_linear.proofs.echelon.clear_column.Goals as goal

pub loop-i-init : goal.loop-i-init
loop-i-init c = record { cleared = IsClearedBelow-none _ _ _ _ _ _; elements = c.requires.elements }

pub loop-i-preserved : goal.loop-i-preserved
loop-i-preserved c =
    elim c.if-i-row.branch [
      | then-i-row+then-factor-ne0 w ↦
          rw w.entries-is
          record {
            cleared = IsClearedBelow-more c.args.field c.args.rows c.args.cols c.args.row c.args.column c.loop-i.i w.neg-factor.result c.args.entries.now c.loop-i.entries w.add_within.new.entries
                c.requires.elements c.requires.before c.requires.inside c.loop-i-test.true c.requires.column_inside w.if-i-row.true
                (w.neg-factor.ensures ∙ ap (neg c.args.field) (sym (cell-is c.args.cols c.loop-i.entries c.loop-i.i c.args.column))) w.add_within.ensures.written c.loop-i.invariant.cleared;
            elements = w.add_within.ensures.elements;
          }
      | then-i-row+else-factor-ne0 w ↦
          rw w.entries-is
          record {
            cleared = IsClearedBelow-zero c.args.field c.args.rows c.args.cols c.args.row c.args.column c.loop-i.i _ _ (λ i j. cell_small c.args.field c.args.cols c.args.entries.now i j c.requires.elements)
                (ap (neg c.args.field) (cell-is c.args.cols c.loop-i.entries c.loop-i.i c.args.column) ∙ sym w.neg-factor.ensures ∙ w.if-factor-ne0.false) c.requires.column_inside c.loop-i.invariant.cleared;
            elements = c.loop-i.invariant.elements;
          }
      | else-i-row w ↦
          rw w.entries-is
          record {
            cleared = IsClearedBelow-skip c.args.field c.args.rows c.args.cols c.args.row c.args.column c.loop-i.i _ _ w.if-i-row.false c.loop-i.invariant.cleared;
            elements = c.loop-i.invariant.elements;
          }
    ]

pub add_within-requires-clause-below : goal.add_within-requires-clause-below
add_within-requires-clause-below c = rw c.neg-factor.ensures (neg_below c.args.field _)

pub add_within-requires-clause-apart : goal.add_within-requires-clause-apart
add_within-requires-clause-apart c = AreApart-rows c.args.cols c.args.row c.loop-i.i c.args.column (c.args.cols - c.args.column) (λ e. c.if-i-row.true (sym e)) (omega arith)
