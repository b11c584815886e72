use Rattle.std.proofs.Common.{ap, ◌∙◌, length, length-append, arith, get_or}
use Rattle.std.proofs.lemmas.List.{get_or_default}
use Rattle.path_reduction.proofs.Deriving.{Lengthens-same, Lengthens-push, makes_behind_none, makes_behind_more}
use Rattle.path_reduction.proofs.making.derive_behind.Goals as goal

pub loop-arrow-init : goal.loop-arrow-init
loop-arrow-init c = record {
  count = omega arith;
  lengthens = Lengthens-same c.args.steps.now.items;
  makes = makes_behind_none c.args.steps.now.items c.args.number;
}

pub loop-arrow-preserved : goal.loop-arrow-preserved
loop-arrow-preserved c = record {
  count = ap length c.in_ok-last.ensures.pushed ∙ length-append c.loop-arrow.steps.items _ ∙ (let k = c.loop-arrow.invariant.count in omega arith);
  lengthens = Lengthens-push c.args.steps.now.items c.loop-arrow.steps.items c.push_step.new.steps.items _ c.loop-arrow.invariant.lengthens c.in_ok-last.ensures.pushed;
  makes = makes_behind_more c.args.arrows.now c.loop-arrow.arrow-index c.args.steps.now.items c.loop-arrow.steps.items c.push_step.new.steps.items c.args.number c.loop-arrow.last c.in_ok-last.last
      (get_or c.args.arrows.now c.loop-arrow.arrow-index 0) c.loop-arrow-test.true (get_or_default c.args.arrows.now c.loop-arrow.arrow-index 0 _ c.loop-arrow-test.true) c.in_ok-last.ensures.pushed c.in_ok-last.ensures.number c.loop-arrow.invariant.makes;
}
