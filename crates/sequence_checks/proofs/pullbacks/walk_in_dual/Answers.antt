use Rattle.std.proofs.Common.{◌<◌, sym, ap, ◌∙◌, subst, arith}
use Rattle.fp_linear.specs.Slices.{AreElements}
use Rattle.quiver_paths.specs.Quiver.{arrow_count}
use Rattle.representations.specs.Dual.{dual}
use Rattle.module_types.specs.declared.Side.{Side}
use Rattle.module_types.specs.Algebras.{algebra_at, other_side}
use Rattle.module_types.specs.Readings.{rep_of}
use Rattle.module_checks.specs.RowWalks.{arrow_in_turn}
use Rattle.module_checks.proofs.Walks.{turn_below}
use Rattle.term_rows.specs.RowSteps.{IsStep}
use Rattle.term_rows.proofs.TargetSteps.{moved-next}
use Rattle.sequence_checks.proofs.pullbacks.walk_in_dual.Goals as goal

pub step_in_dual-requires-clause-arrow : goal.step_in_dual-requires-clause-arrow
step_in_dual-requires-clause-arrow c =
    subst (λ a. a < arrow_count c.args.header.now.quiver) (sym c.arrow_at-arrow.ensures) (turn_below c.other.result c.args.arrows.now (arrow_count c.args.header.now.quiver) c.loop-n.n c.requires.arrows (omega (arith, c.loop-n-test.true, c.len-n-end.ensures)))

pub loop-n-preserved : goal.loop-n-preserved
loop-n-preserved c =
    let h = c.args.header.now in
    let X = dual (rep_of h.field (algebra_at c.args.side h).quiver c.args.m.now) in
    record {
      moved = moved-next X (other_side c.args.side) c.loop-n.n c.args.arrows.now c.args.row.now c.loop-n.row c.copy_from_slice.new.self c.arrow_at-arrow.result
          (c.arrow_at-arrow.ensures ∙ ap (λ (s : Side). arrow_in_turn s c.args.arrows.now c.loop-n.n) c.other.ensures) c.loop-n.invariant.moved
          (subst (IsStep X c.arrow_at-arrow.result c.loop-n.row) (sym c.copy_from_slice.ensures.after) c.step_in_dual.ensures.step);
      elements = subst (AreElements h.field) (sym c.copy_from_slice.ensures.after) c.step_in_dual.ensures.elements;
    }
