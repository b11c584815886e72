use Rattle.std.proofs.Common.{sym, subst}
use Rattle.std.specs.Prelude.{take}
use Rattle.claim_conditions.specs.Conditions.{IsAnswer}
use Rattle.report_types.specs.ClaimBlocks.{IsClaimBlock}
use Rattle.report_types.specs.Conditions.{claim_conditions}
use Rattle.report_types.specs.Verdicts.{sides_by}
use Rattle.report_types.specs.Lawful.{HasItsPlace}
use Rattle.claim_check.proofs.ResolutionClaims.{resolution_in_whole}
use Rattle.claim_check.proofs.Named.{record_lawful}
use Rattle.claim_check.proofs.ByNumbers.{hom_in_whole}
use Rattle.claim_check.proofs.claims.first_failing_of_kind.Goals as goal

pub first_failing_hom_claim-requires-clause-block : goal.first_failing_hom_claim-requires-clause-block
first_failing_hom_claim-requires-clause-block c =
    hom_in_whole c.args.report.now.header c.args.k c.args.report.now.records c.in-Hom.a c.in-Hom.b c.in-Hom.rows
    (subst (IsClaimBlock c.args.report.now.header (take c.args.k c.args.report.now.records)) c.in-Hom.is
    (record_lawful c.args.report.now c.requires.report c.args.k c.args.item.now c.requires.there).claim)

pub returns-in-Hom : goal.returns-in-Hom
returns-in-Hom c w =
    subst (λ x. IsAnswer (claim_conditions c.args.report.now.header (sides_by w) c.args.report.now.records x) c.first_failing_hom_claim.result) (sym c.in-Hom.is) (c.first_failing_hom_claim.ensures (sides_by w))

pub first_failing_resolution_claim-requires-clause-block : goal.first_failing_resolution_claim-requires-clause-block
first_failing_resolution_claim-requires-clause-block c =
    let lawful = record_lawful c.args.report.now c.requires.report c.args.k c.args.item.now c.requires.there in
    resolution_in_whole c.args.report.now.header c.args.k c.args.report.now.records c.in-Resolution.a c.in-Resolution.n c.in-Resolution.terms
    (subst (HasItsPlace (take c.args.k c.args.report.now.records) c.args.item.now) c.in-Resolution.is lawful.place)
    (subst (IsClaimBlock c.args.report.now.header (take c.args.k c.args.report.now.records)) c.in-Resolution.is lawful.claim)

pub returns-in-Resolution : goal.returns-in-Resolution
returns-in-Resolution c w =
    subst (λ x. IsAnswer (claim_conditions c.args.report.now.header (sides_by w) c.args.report.now.records x) c.first_failing_resolution_claim.result) (sym c.in-Resolution.is)
    (c.first_failing_resolution_claim.ensures w)
