use Rattle.std.proofs.Common.{arith}
use Rattle.path_reduction.proofs.Deriving.{still_derived, Lengthens-trans}
use Rattle.path_basis.proofs.ReducedTails.{tails_more, derived_more}
use Rattle.path_basis.proofs.tails.reduce_tails.Goals as goal

pub with_reduced_tail-requires-clause-derived : goal.with_reduced_tail-requires-clause-derived
with_reduced_tail-requires-clause-derived c = still_derived c.args.header.now c.args.steps.now.items c.loop-rule.steps.items c.args.rules.now c.loop-rule.invariant.lengthens c.loop-rule.invariant.lawful c.requires.derived

pub loop-rule-preserved : goal.loop-rule-preserved
loop-rule-preserved c = record {
  reduced = tails_more c.args.header.now c.args.rules.now c.loop-rule.rule-index _ _ c.rule-item.result c.in_ok-with_tail.with_tail c.loop-rule.invariant.reduced c.loop-rule-test.true c.rule-item.is c.in_ok-with_tail.ensures.reduced c.in_ok-push.ensures.items;
  lawful = c.in_ok-with_tail.ensures.derives.lawful;
  derived = derived_more c.args.header.now c.loop-rule.steps.items _ _ _ c.in_ok-with_tail.with_tail c.in_ok-with_tail.ensures.lengthens c.loop-rule.invariant.derived c.in_ok-with_tail.ensures.derives c.in_ok-push.ensures.items;
  lengthens = Lengthens-trans _ _ _ c.loop-rule.invariant.lengthens c.in_ok-with_tail.ensures.lengthens;
  count = (let a = c.loop-rule.invariant.count in let b = c.in_ok-with_tail.ensures.count in omega arith);
}
