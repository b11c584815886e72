use Rattle.claim_check.proofs.Named.{module_there, map_there}
use Rattle.claim_check.proofs.ByNumbers.{map_block, names_source, names_target, source_is, target_is, cokernel_answer}
use Rattle.claim_check.proofs.kinds.first_failing_cokernel_claim.Goals as goal

pub module_at-source-requires : goal.module_at-source-requires
module_at-source-requires c = names_source c.args.report.now c.requires.report c.args.f c.requires.block.objects.is_map c.map_at-map.result.now c.map_at-map.ensures

pub module_at-target-requires : goal.module_at-target-requires
module_at-target-requires c = names_target c.args.report.now c.requires.report c.args.f c.requires.block.objects.is_map c.map_at-map.result.now c.map_at-map.ensures

pub first_failing_cokernel-requires-clause-n : goal.first_failing_cokernel-requires-clause-n
first_failing_cokernel-requires-clause-n c = module_there c.args.report.now c.requires.report c.args.n c.module_at-cokernel.result.now c.requires.block.objects.is_module c.module_at-cokernel.ensures

pub first_failing_cokernel-requires-clause-a : goal.first_failing_cokernel-requires-clause-a
first_failing_cokernel-requires-clause-a c =
    module_there c.args.report.now c.requires.report c.map_at-map.result.now.source c.module_at-source.result.now
    (names_source c.args.report.now c.requires.report c.args.f c.requires.block.objects.is_map c.map_at-map.result.now c.map_at-map.ensures) c.module_at-source.ensures

pub first_failing_cokernel-requires-clause-b : goal.first_failing_cokernel-requires-clause-b
first_failing_cokernel-requires-clause-b c =
    module_there c.args.report.now c.requires.report c.map_at-map.result.now.target c.module_at-target.result.now
    (names_target c.args.report.now c.requires.report c.args.f c.requires.block.objects.is_map c.map_at-map.result.now c.map_at-map.ensures) c.module_at-target.ensures

pub first_failing_cokernel-requires-clause-f : goal.first_failing_cokernel-requires-clause-f
first_failing_cokernel-requires-clause-f c =
    map_there c.args.report.now.header c.args.report.now.records c.map_at-map.result.now c.module_at-source.result.now c.module_at-target.result.now
    (map_block c.args.report.now c.requires.report c.args.f c.requires.block.objects.is_map c.map_at-map.result.now c.map_at-map.ensures) c.module_at-source.ensures c.module_at-target.ensures

pub first_failing_cokernel-requires-clause-p : goal.first_failing_cokernel-requires-clause-p
first_failing_cokernel-requires-clause-p c =
    map_there c.args.report.now.header c.args.report.now.records c.map_at-projection.result.now c.module_at-target.result.now c.module_at-cokernel.result.now
    (map_block c.args.report.now c.requires.report c.args.p c.requires.block.is_map c.map_at-projection.result.now c.map_at-projection.ensures)
    (source_is c.args.report.now.records c.args.p c.map_at-map.result.now.target c.args.n c.map_at-projection.result.now c.map_at-projection.ensures c.if-not-goes.ensures c.module_at-target.result.now c.module_at-target.ensures)
    (target_is c.args.report.now.records c.args.p c.map_at-map.result.now.target c.args.n c.map_at-projection.result.now c.map_at-projection.ensures c.if-not-goes.ensures c.module_at-cokernel.result.now c.module_at-cokernel.ensures)

pub returns : goal.returns
returns c T =
    cokernel_answer c.args.report.now.header c.args.report.now.records c.args.n c.args.f c.args.p c.module_at-cokernel.result.now c.module_at-source.result.now c.module_at-target.result.now
    c.map_at-map.result.now c.map_at-projection.result.now c.first_failing_cokernel.result c.module_at-cokernel.ensures c.map_at-map.ensures c.map_at-projection.ensures c.module_at-source.ensures
    c.module_at-target.ensures c.if-not-goes.ensures c.first_failing_cokernel.ensures
