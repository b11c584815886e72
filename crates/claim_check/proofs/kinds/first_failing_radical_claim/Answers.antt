use Rattle.claim_check.proofs.Named.{module_there, map_there}
use Rattle.claim_check.proofs.ByNumbers.{map_block, source_is, target_is, radical_answer}
use Rattle.claim_check.proofs.kinds.first_failing_radical_claim.Goals as goal

pub first_failing_radical-requires-clause-n : goal.first_failing_radical-requires-clause-n
first_failing_radical-requires-clause-n c = module_there c.args.report.now c.requires.report c.args.n c.module_at-radical.result.now c.requires.block.objects.is_module c.module_at-radical.ensures

pub first_failing_radical-requires-clause-a : goal.first_failing_radical-requires-clause-a
first_failing_radical-requires-clause-a c = module_there c.args.report.now c.requires.report c.args.a c.module_at-whole.result.now c.requires.block.is_module c.module_at-whole.ensures

pub first_failing_radical-requires-clause-i : goal.first_failing_radical-requires-clause-i
first_failing_radical-requires-clause-i c =
    map_there c.args.report.now.header c.args.report.now.records c.map_at-inclusion.result.now c.module_at-radical.result.now c.module_at-whole.result.now
    (map_block c.args.report.now c.requires.report c.args.i c.requires.block.objects.is_map c.map_at-inclusion.result.now c.map_at-inclusion.ensures)
    (source_is c.args.report.now.records c.args.i c.args.n c.args.a c.map_at-inclusion.result.now c.map_at-inclusion.ensures c.if-not-goes.ensures c.module_at-radical.result.now c.module_at-radical.ensures)
    (target_is c.args.report.now.records c.args.i c.args.n c.args.a c.map_at-inclusion.result.now c.map_at-inclusion.ensures c.if-not-goes.ensures c.module_at-whole.result.now c.module_at-whole.ensures)

pub returns : goal.returns
returns c T =
    radical_answer c.args.report.now.header c.args.report.now.records c.args.n c.args.a c.args.i c.module_at-radical.result.now c.module_at-whole.result.now c.map_at-inclusion.result.now
    c.first_failing_radical.result c.module_at-radical.ensures c.module_at-whole.ensures c.map_at-inclusion.ensures c.if-not-goes.ensures c.first_failing_radical.ensures
