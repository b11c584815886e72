use Rattle.std.proofs.Common.{sym, subst}
use Rattle.path_reduction.specs.Occurrences.{StandsAt}
use Rattle.path_algebra.specs.declared.rules.Rule.{Rule}
use Rattle.path_basis.proofs.Resolving.{parallel_between, match_more, closes_at_place}
use Rattle.path_basis.proofs.completion.resolve_at.Goals as goal

pub add_reduced-requires-clause-parallel : goal.add_reduced-requires-clause-parallel
add_reduced-requires-clause-parallel c = parallel_between c.args.header.now c.index-rule.result.now c.args.path.now c.args.before _ c.in_ok-given.ensures.terms

pub returns-clause-grown : goal.returns-clause-grown
returns-clause-grown c = match_more _ _ _ _ c.in_ok-grown.grown
    (λ zero. closes_at_place c.args.header.now c.args.state.now.rules.items c.args.rule c.index-rule.result.now c.args.path.now c.args.before c.in_ok-given.given.terms.items c.requires.allowed c.requires.completion.tidy c.requires.number
    c.index-rule.ensures c.requires.path
    (subst (λ (x : Rule). StandsAt x c.args.path.now.arrows c.args.before) (sym c.index-rule.ensures) (c.requires.stands c.index-rule.result.now)) c.in_ok-given.ensures.terms zero)
    c.in_ok-grown.ensures.grown
