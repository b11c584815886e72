use Rattle.claim_check.proofs.Named.{module_there}
use Rattle.claim_check.proofs.ByNumbers.{unknowns_are, hom_answer}
use Rattle.claim_check.proofs.kinds.first_failing_hom_claim.Goals as goal

pub first_failing_hom-requires-clause-a : goal.first_failing_hom-requires-clause-a
first_failing_hom-requires-clause-a c = module_there c.args.report.now c.requires.report c.args.a c.module_at-source.result.now c.requires.block.first c.module_at-source.ensures

pub first_failing_hom-requires-clause-b : goal.first_failing_hom-requires-clause-b
first_failing_hom-requires-clause-b c = module_there c.args.report.now c.requires.report c.args.b c.module_at-target.result.now c.requires.block.second c.module_at-target.ensures

pub first_failing_hom-requires-clause-unknowns : goal.first_failing_hom-requires-clause-unknowns
first_failing_hom-requires-clause-unknowns c =
    unknowns_are c.args.report.now.header c.args.report.now.records c.args.a c.args.b c.args.rows.now.col_count c.module_at-source.result.now c.module_at-target.result.now
    c.requires.block.are_rows.shape.col_count c.module_at-source.ensures c.module_at-target.ensures

pub returns : goal.returns
returns c T =
    hom_answer c.args.report.now.header c.args.report.now.records c.args.a c.args.b c.args.rows.now c.module_at-source.result.now c.module_at-target.result.now c.first_failing_hom.result
    c.module_at-source.ensures c.module_at-target.ensures c.first_failing_hom.ensures
