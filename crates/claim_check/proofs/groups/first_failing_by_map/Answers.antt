use Rattle.std.proofs.Common.{sym, subst}
use Rattle.std.specs.Prelude.{take}
use Rattle.claim_conditions.specs.Conditions.{IsAnswer}
use Rattle.report_types.specs.ClaimBlocks.{IsClaimBlock}
use Rattle.report_types.specs.Conditions.{claim_conditions}
use Rattle.report_types.specs.Verdicts.{sides_by}
use Rattle.claim_check.proofs.Named.{record_lawful}
use Rattle.claim_check.proofs.ByNumbers.{kernel_in_whole, radical_in_whole}
use Rattle.claim_check.proofs.groups.first_failing_by_map.Goals as goal

pub first_failing_kernel_claim-requires-clause-block : goal.first_failing_kernel_claim-requires-clause-block
first_failing_kernel_claim-requires-clause-block c =
    kernel_in_whole c.args.report.now.header c.args.k c.args.report.now.records c.in-Kernel.kernel c.in-Kernel.f c.in-Kernel.inclusion
    (subst (IsClaimBlock c.args.report.now.header (take c.args.k c.args.report.now.records)) c.in-Kernel.is
    (record_lawful c.args.report.now c.requires.report c.args.k c.args.item.now c.requires.there).claim)

pub first_failing_cokernel_claim-requires-clause-block : goal.first_failing_cokernel_claim-requires-clause-block
first_failing_cokernel_claim-requires-clause-block c =
    kernel_in_whole c.args.report.now.header c.args.k c.args.report.now.records c.in-Cokernel.cokernel c.in-Cokernel.f c.in-Cokernel.projection
    (subst (IsClaimBlock c.args.report.now.header (take c.args.k c.args.report.now.records)) c.in-Cokernel.is
    (record_lawful c.args.report.now c.requires.report c.args.k c.args.item.now c.requires.there).claim)

pub first_failing_radical_claim-requires-clause-block : goal.first_failing_radical_claim-requires-clause-block
first_failing_radical_claim-requires-clause-block c =
    radical_in_whole c.args.report.now.header c.args.k c.args.report.now.records c.in-Radical.radical c.in-Radical.a c.in-Radical.inclusion
    (subst (IsClaimBlock c.args.report.now.header (take c.args.k c.args.report.now.records)) c.in-Radical.is
    (record_lawful c.args.report.now c.requires.report c.args.k c.args.item.now c.requires.there).claim)

pub returns-in-Kernel : goal.returns-in-Kernel
returns-in-Kernel c w =
    subst (λ x. IsAnswer (claim_conditions c.args.report.now.header (sides_by w) c.args.report.now.records x) c.first_failing_kernel_claim.result) (sym c.in-Kernel.is) (c.first_failing_kernel_claim.ensures (sides_by w))

pub returns-in-Cokernel : goal.returns-in-Cokernel
returns-in-Cokernel c w =
    subst (λ x. IsAnswer (claim_conditions c.args.report.now.header (sides_by w) c.args.report.now.records x) c.first_failing_cokernel_claim.result) (sym c.in-Cokernel.is) (c.first_failing_cokernel_claim.ensures (sides_by w))

pub returns-in-Radical : goal.returns-in-Radical
returns-in-Radical c w =
    subst (λ x. IsAnswer (claim_conditions c.args.report.now.header (sides_by w) c.args.report.now.records x) c.first_failing_radical_claim.result) (sym c.in-Radical.is) (c.first_failing_radical_claim.ensures (sides_by w))
