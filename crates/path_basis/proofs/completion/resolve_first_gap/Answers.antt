use Rattle.std.proofs.Common.{arith, subst}
use Rattle.path_reduction.specs.Gaps.{HasNoGap}
use Rattle.path_reduction.specs.FirstGaps.{ForReductions, IsFirstGap}
use Rattle.path_basis.proofs.Measure.{few_rules}
use Rattle.path_basis.proofs.completion.resolve_first_gap.Goals as goal

pub first_gap-requires-clause-rules : goal.first_gap-requires-clause-rules
first_gap-requires-clause-rules c = (let f = few_rules c.args.header.now c.args.state.now.rules.items c.requires.allowed c.requires.completion.tidy in let n = c.requires.few in omega (arith, f, n))

pub resolve_gap-requires-clause-gap : goal.resolve_gap-requires-clause-gap
resolve_gap-requires-clause-gap c =
    subst (λ rules. ForReductions c.args.header.now rules (λ becomes. IsFirstGap c.args.header.now rules becomes c.in-Some.gap)) c.deref.ensures.value (rw c.in-Some.is at c.in_ok-first_gap.ensures)

pub prove-unreachable-requires : goal.prove-unreachable-requires
prove-unreachable-requires c = c.requires.gaps (record {
  relations = c.requires.relations;
  no_gap = subst (λ rules. ForReductions c.args.header.now rules (HasNoGap c.args.header.now rules)) c.deref.ensures.value (rw c.in-None.is at c.in_ok-first_gap.ensures);
})
