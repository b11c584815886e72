use Rattle.std.proofs.Common.{arith}
use Rattle.path_basis.proofs.Resolving.{gap_is, gap_grows}
use Rattle.path_basis.proofs.completion.resolve_gap.Goals as goal

pub overflow_sub-rule : goal.overflow_sub-rule
overflow_sub-rule c = (gap_is c.args.header.now c.args.state.now.rules.items c.args.gap.now c.requires.allowed c.requires.completion.tidy c.requires.gap).numbered.from

pub resolve_at-requires-clause-number : goal.resolve_at-requires-clause-number
resolve_at-requires-clause-number c =
    (let n = (gap_is c.args.header.now c.args.state.now.rules.items c.args.gap.now c.requires.allowed c.requires.completion.tidy c.requires.gap).numbered in let a = n.from in let b = n.to in omega (arith, a, b))

pub resolve_at-requires-clause-path : goal.resolve_at-requires-clause-path
resolve_at-requires-clause-path c = (gap_is c.args.header.now c.args.state.now.rules.items c.args.gap.now c.requires.allowed c.requires.completion.tidy c.requires.gap).path

pub resolve_at-requires-clause-short : goal.resolve_at-requires-clause-short
resolve_at-requires-clause-short c = (gap_is c.args.header.now c.args.state.now.rules.items c.args.gap.now c.requires.allowed c.requires.completion.tidy c.requires.gap).short

pub resolve_at-requires-clause-stands : goal.resolve_at-requires-clause-stands
resolve_at-requires-clause-stands c = (gap_is c.args.header.now c.args.state.now.rules.items c.args.gap.now c.requires.allowed c.requires.completion.tidy c.requires.gap).stands

pub returns-clause-always : goal.returns-clause-always
returns-clause-always c = (gap_grows c.args.header.now _ _ _ _ _ c.args.gap.now c.in_ok-grown.grown c.requires.allowed c.requires.completion.tidy c.requires.gap c.in_ok-grown.ensures.grown).0

pub returns-clause-fewer : goal.returns-clause-fewer
returns-clause-fewer c = (gap_grows c.args.header.now _ _ _ _ _ c.args.gap.now c.in_ok-grown.grown c.requires.allowed c.requires.completion.tidy c.requires.gap c.in_ok-grown.ensures.grown).1
