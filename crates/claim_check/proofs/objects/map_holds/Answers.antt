use Rattle.claim_check.proofs.Named.{module_there, map_shapes}
use Rattle.claim_check.proofs.objects.map_holds.Goals as goal

pub is_homomorphism-requires-clause-a : goal.is_homomorphism-requires-clause-a
is_homomorphism-requires-clause-a c = module_there c.args.report.now c.requires.report c.args.f.now.source c.module_at-source.result.now c.requires.f.source c.module_at-source.ensures

pub is_homomorphism-requires-clause-b : goal.is_homomorphism-requires-clause-b
is_homomorphism-requires-clause-b c = module_there c.args.report.now c.requires.report c.args.f.now.target c.module_at-target.result.now c.requires.f.target c.module_at-target.ensures

pub is_homomorphism-requires-clause-matrices : goal.is_homomorphism-requires-clause-matrices
is_homomorphism-requires-clause-matrices c =
    map_shapes c.args.report.now.header c.args.report.now.records c.args.f.now c.module_at-source.result.now.side c.module_at-source.result.now c.module_at-target.result.now c.requires.f
    c.module_at-source.ensures c.module_at-target.ensures
