use Rattle.path_basis.proofs.Resolving.{parallel_between}
use Rattle.path_basis.proofs.completion.reduce_removed.Goals as goal

pub add_reduced-requires-clause-parallel : goal.add_reduced-requires-clause-parallel
add_reduced-requires-clause-parallel c = parallel_between c.args.header.now c.args.rule.now c.args.rule.now.tip 0 _ c.in_ok-given.ensures.terms
