use Rattle.std.proofs.Common.{sym, subst, arith}
use Rattle.fp_linear.specs.Slices.{AreElements}
use Rattle.bound_tables.specs.TableSides.{table_sides}
use Rattle.module_types.specs.Algebras.{sided_words}
use Rattle.module_types.specs.Readings.{read}
use Rattle.claim_conditions.specs.Terms.{goes_to}
use Rattle.term_rows.specs.RowSteps.{IsStep}
use Rattle.term_rows.proofs.TargetSteps.{moved-next}
use Rattle.term_rows.proofs.targets.walk_in_target.Goals as goal

pub loop-n-preserved : goal.loop-n-preserved
loop-n-preserved c =
    let h = c.args.table.now.header in
    let ws = c.args.table.now.words in
    let a = c.args.a.now in
    record {
      moved = λ t.
          let X = goes_to (sided_words a.side (table_sides h ws t)).words (read h a) c.args.terms.now c.args.k in
          moved-next X a.side c.loop-n.n c.args.arrows.now c.args.row.now c.loop-n.row c.copy_from_slice.new.self c.arrow_at-arrow.result c.arrow_at-arrow.ensures (c.loop-n.invariant.moved t)
          (subst (IsStep X c.arrow_at-arrow.result c.loop-n.row) (sym c.copy_from_slice.ensures.after) (c.step_in_target.ensures.step t));
      elements = subst (AreElements h.field) (sym c.copy_from_slice.ensures.after) c.step_in_target.ensures.elements;
    }
