use Rattle.std.proofs.Common.{refl, sym, subst}
use Rattle.map_checks.specs.PartLists.{AreModules}
use Rattle.claim_check.proofs.Named.{module_there, map_there}
use Rattle.claim_check.proofs.ByNumbers.{map_block, source_is, target_is}
use Rattle.claim_check.proofs.DecompositionClaims.{parts_named, parts_claimed, parts_lawful, decomposition_answer}
use Rattle.claim_check.proofs.kinds.first_failing_decomposition_claim.Goals as goal

pub returns-then-not-goes : goal.returns-then-not-goes
returns-then-not-goes c T = (0, (refl, λ h. c.if-not-goes.ensures h.0.there))

pub returns-then-not-goes-2 : goal.returns-then-not-goes-2
returns-then-not-goes-2 c T = (0, (refl, λ h. c.if-not-goes-2.ensures h.0.again))

pub are_local-requires : goal.are_local-requires
are_local-requires c = parts_claimed c.args.report.now.header c.args.report.now.records c.args.parts.now c.requires.block.each

pub returns-then-not-are_local : goal.returns-then-not-are_local
returns-then-not-are_local c T = (0, (refl, λ h. c.if-not-are_local.ensures h.0.local))

pub of-modules-requires : goal.of-modules-requires
of-modules-requires c = parts_named c.args.report.now.header c.args.report.now.records c.args.parts.now c.requires.block.each

pub first_failing_decomposition-requires-clause-a : goal.first_failing_decomposition-requires-clause-a
first_failing_decomposition-requires-clause-a c = module_there c.args.report.now c.requires.report c.args.a c.module_at-whole.result.now c.requires.block.whole.is_module c.module_at-whole.ensures

pub first_failing_decomposition-requires-clause-s : goal.first_failing_decomposition-requires-clause-s
first_failing_decomposition-requires-clause-s c = module_there c.args.report.now c.requires.report c.args.s c.module_at-sum.result.now c.requires.block.sum.is_module c.module_at-sum.ensures

pub first_failing_decomposition-requires-clause-parts : goal.first_failing_decomposition-requires-clause-parts
first_failing_decomposition-requires-clause-parts c =
    subst (AreModules c.args.report.now.header) (sym c.of-modules.ensures)
    (parts_lawful c.args.report.now c.requires.report c.args.parts.now (parts_named c.args.report.now.header c.args.report.now.records c.args.parts.now c.requires.block.each))

pub first_failing_decomposition-requires-clause-to : goal.first_failing_decomposition-requires-clause-to
first_failing_decomposition-requires-clause-to c =
    map_there c.args.report.now.header c.args.report.now.records c.map_at-to.result.now c.module_at-sum.result.now c.module_at-whole.result.now
    (map_block c.args.report.now c.requires.report c.args.f c.requires.block.whole.is_map c.map_at-to.result.now c.map_at-to.ensures)
    (source_is c.args.report.now.records c.args.f c.args.s c.args.a c.map_at-to.result.now c.map_at-to.ensures c.if-not-goes.ensures c.module_at-sum.result.now c.module_at-sum.ensures)
    (target_is c.args.report.now.records c.args.f c.args.s c.args.a c.map_at-to.result.now c.map_at-to.ensures c.if-not-goes.ensures c.module_at-whole.result.now c.module_at-whole.ensures)

pub first_failing_decomposition-requires-clause-back : goal.first_failing_decomposition-requires-clause-back
first_failing_decomposition-requires-clause-back c =
    map_there c.args.report.now.header c.args.report.now.records c.map_at-back.result.now c.module_at-whole.result.now c.module_at-sum.result.now
    (map_block c.args.report.now c.requires.report c.args.g c.requires.block.sum.is_map c.map_at-back.result.now c.map_at-back.ensures)
    (source_is c.args.report.now.records c.args.g c.args.a c.args.s c.map_at-back.result.now c.map_at-back.ensures c.if-not-goes-2.ensures c.module_at-whole.result.now c.module_at-whole.ensures)
    (target_is c.args.report.now.records c.args.g c.args.a c.args.s c.map_at-back.result.now c.map_at-back.ensures c.if-not-goes-2.ensures c.module_at-sum.result.now c.module_at-sum.ensures)

pub returns : goal.returns
returns c T =
    decomposition_answer c.args.report.now.header c.args.report.now.records c.args.a c.args.s c.args.f c.args.g c.args.parts.now c.module_at-whole.result.now c.module_at-sum.result.now
    c.map_at-to.result.now c.map_at-back.result.now c.first_failing_decomposition.result c.module_at-whole.ensures c.module_at-sum.ensures c.map_at-to.ensures c.map_at-back.ensures
    c.if-not-goes.ensures c.if-not-goes-2.ensures c.if-not-are_local.ensures c.of-modules.result c.of-modules.ensures c.first_failing_decomposition.ensures
