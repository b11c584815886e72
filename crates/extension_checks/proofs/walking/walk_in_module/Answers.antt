use Rattle.std.proofs.Common.{sym, subst}
use Rattle.fp_linear.specs.Slices.{AreElements}
use Rattle.module_types.specs.Readings.{read}
use Rattle.term_rows.specs.RowSteps.{IsStep}
use Rattle.term_rows.proofs.TargetSteps.{moved-next}
use Rattle.extension_checks.proofs.walking.walk_in_module.Goals as goal

pub loop-n-preserved : goal.loop-n-preserved
loop-n-preserved c =
    let h = c.args.header.now in
    let m = c.args.m.now in
    record {
      moved = moved-next (read h m) m.side c.loop-n.n c.args.arrows.now c.args.row.now c.loop-n.row c.copy_from_slice.new.self c.arrow_at-arrow.result c.arrow_at-arrow.ensures c.loop-n.invariant.moved
          (subst (IsStep (read h m) c.arrow_at-arrow.result c.loop-n.row) (sym c.copy_from_slice.ensures.after) c.step_in_module.ensures.step);
      elements = subst (AreElements h.field) (sym c.copy_from_slice.ensures.after) c.step_in_module.ensures.elements;
    }
