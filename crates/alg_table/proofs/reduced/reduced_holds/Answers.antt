use Rattle.std.proofs.Common.{arith, inl, inr, subst}
use Rattle.std.proofs.lemmas.Bool.{cases_lt}
use Rattle.path_algebra.specs.Occurring.{IsReducedAmong}
use Rattle.path_algebra.proofs.DerivedRules.{item_at, tail_at}
use Rattle.path_algebra.proofs.TipFactors.{reduced_each, reduced_all}
use Rattle.alg_table.proofs.reduced.reduced_holds.Goals as goal

pub is_reduced_among-requires-clause-tail : goal.is_reduced_among-requires-clause-tail
is_reduced_among-requires-clause-tail c = tail_at c.args.header.now c.args.rules.now c.loop-rule.rule-index c.rule-item.result c.loop-rule-test.true c.rule-item.is c.requires.tails

pub returns-then-not-is_reduced_among : goal.returns-then-not-is_reduced_among
returns-then-not-is_reduced_among c r = c.if-not-is_reduced_among.ensures (reduced_each c.args.header.now c.args.rules.now r c.loop-rule.rule-index c.rule-item.result c.loop-rule-test.true c.rule-item.is)

pub loop-rule-preserved : goal.loop-rule-preserved
loop-rule-preserved c j r l = elim (cases_lt j c.loop-rule.rule-index) [
  | inl b ↦ c.loop-rule.invariant j r b
  | inr b ↦ subst (IsReducedAmong c.args.header.now c.args.rules.now) (item_at c.args.rules.now j c.loop-rule.rule-index r c.rule-item.result (omega arith) c.loop-rule-test.true c.rule-item.is)
      c.if-not-is_reduced_among.ensures
]

pub returns : goal.returns
returns c = reduced_all c.args.header.now c.args.rules.now c.if-not-tips_ascend.ensures (λ k d l. c.loop-rule.invariant k d (omega arith))
