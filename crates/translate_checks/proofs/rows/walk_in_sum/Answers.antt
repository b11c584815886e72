use Rattle.std.proofs.Common.{sym, subst}
use Rattle.fp_linear.specs.Slices.{AreElements}
use Rattle.term_rows.specs.RowSteps.{IsStep}
use Rattle.term_rows.proofs.TargetSteps.{moved-next}
use Rattle.translate_checks.specs.Across.{sum_in}
use Rattle.translate_checks.proofs.rows.walk_in_sum.Goals as goal

pub loop-n-preserved : goal.loop-n-preserved
loop-n-preserved c =
    let h = c.args.table.now.header in
    record {
      moved = λ t.
          let X = sum_in h c.args.table.now.words t c.args.side c.args.vertices.now in
          moved-next X c.args.side c.loop-n.n c.args.arrows.now c.args.row.now c.loop-n.row c.copy_from_slice.new.self c.arrow_at-arrow.result c.arrow_at-arrow.ensures (c.loop-n.invariant.moved t)
          (subst (IsStep X c.arrow_at-arrow.result c.loop-n.row) (sym c.copy_from_slice.ensures.after) (c.step_in_sum.ensures.step t));
      elements = subst (AreElements h.field) (sym c.copy_from_slice.ensures.after) c.step_in_sum.ensures.elements;
    }
