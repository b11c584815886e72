use Rattle.std.proofs.Common.{sym}
use Rattle.path_basis.proofs.Resolving.{parallel_relation, relation_derives, match_more, relation_at_place}
use Rattle.path_basis.proofs.completion.reduce_relation.Goals as goal

pub add_reduced-requires-clause-parallel : goal.add_reduced-requires-clause-parallel
add_reduced-requires-clause-parallel c = parallel_relation c.args.header.now c.index-relation.result.now c.in_ok-terms.terms.items c.requires.allowed (c.args.i, c.requires.number, sym c.index-relation.ensures) c.in_ok-terms.ensures

pub add_reduced-requires-clause-derives : goal.add_reduced-requires-clause-derives
add_reduced-requires-clause-derives c = relation_derives c.args.header.now _ _ c.args.i _ c.index-relation.result.now _ c.requires.number c.index-relation.ensures c.in_ok-step.ensures.pushed c.in_ok-step.ensures.number c.requires.completion.lawful c.in_ok-terms.ensures

pub returns-clause-grown : goal.returns-clause-grown
returns-clause-grown c = match_more _ _ _ _ c.in_ok-grown.grown
    (λ zero. relation_at_place c.args.header.now c.args.state.now.rules.items c.args.i c.index-relation.result.now c.in_ok-terms.terms.items c.requires.allowed c.requires.completion.tidy c.requires.number c.index-relation.ensures c.in_ok-terms.ensures zero)
    c.in_ok-grown.ensures.grown
