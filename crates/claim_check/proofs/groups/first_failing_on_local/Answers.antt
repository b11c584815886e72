use Rattle.std.proofs.Common.{sym, subst}
use Rattle.std.specs.Prelude.{take}
use Rattle.claim_conditions.specs.Conditions.{IsAnswer}
use Rattle.report_types.specs.ClaimBlocks.{IsClaimBlock}
use Rattle.report_types.specs.Conditions.{claim_conditions}
use Rattle.report_types.specs.Verdicts.{sides_by}
use Rattle.claim_check.proofs.Named.{record_lawful}
use Rattle.claim_check.proofs.DecompositionClaims.{decomposition_in_whole}
use Rattle.claim_check.proofs.LocalClaims.{local_in_whole}
use Rattle.report_types.specs.declared.claims.Claim.TheVariants as claim
use Rattle.claim_check.proofs.groups.first_failing_on_local.Goals as goal

pub first_failing_local_claim-requires-clause-block : goal.first_failing_local_claim-requires-clause-block
first_failing_local_claim-requires-clause-block c =
    local_in_whole c.args.report.now.header c.args.k c.args.report.now.records c.in-Local.«module» c.in-Local.hom c.in-Local.ideal c.in-Local.power
    (subst (IsClaimBlock c.args.report.now.header (take c.args.k c.args.report.now.records)) c.in-Local.is
    (record_lawful c.args.report.now c.requires.report c.args.k c.args.item.now c.requires.there).claim)

pub returns-in-Local : goal.returns-in-Local
returns-in-Local c w =
    subst (λ x. IsAnswer (claim_conditions c.args.report.now.header (sides_by w) c.args.report.now.records x) c.first_failing_local_claim.result) (sym c.in-Local.is) (c.first_failing_local_claim.ensures (sides_by w))

pub first_failing_decomposition_claim-requires-clause-block : goal.first_failing_decomposition_claim-requires-clause-block
first_failing_decomposition_claim-requires-clause-block c =
    decomposition_in_whole c.args.report.now.header c.args.k c.args.report.now.records c.in-Decomposition.a c.in-Decomposition.sum c.in-Decomposition.to c.in-Decomposition.back c.as_slice.result.now
    (subst (λ ps. IsClaimBlock c.args.report.now.header (take c.args.k c.args.report.now.records) (claim.Decomposition c.in-Decomposition.a c.in-Decomposition.sum c.in-Decomposition.to c.in-Decomposition.back ps))
    (sym c.as_slice.ensures)
    (subst (IsClaimBlock c.args.report.now.header (take c.args.k c.args.report.now.records)) c.in-Decomposition.is
    (record_lawful c.args.report.now c.requires.report c.args.k c.args.item.now c.requires.there).claim))

pub returns-in-Decomposition : goal.returns-in-Decomposition
returns-in-Decomposition c w =
    subst (λ x. IsAnswer (claim_conditions c.args.report.now.header (sides_by w) c.args.report.now.records x) c.first_failing_decomposition_claim.result) (sym c.in-Decomposition.is)
    (subst (λ ps. IsAnswer (claim_conditions c.args.report.now.header (sides_by w) c.args.report.now.records (claim.Decomposition c.in-Decomposition.a c.in-Decomposition.sum c.in-Decomposition.to c.in-Decomposition.back ps)) c.first_failing_decomposition_claim.result)
    c.as_slice.ensures (c.first_failing_decomposition_claim.ensures (sides_by w)))
