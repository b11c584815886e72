use Rattle.std.proofs.Common.{sym, subst}
use Rattle.std.specs.Prelude.{take}
use Rattle.claim_conditions.specs.Conditions.{IsAnswer}
use Rattle.report_types.specs.ClaimBlocks.{IsClaimBlock}
use Rattle.report_types.specs.Conditions.{claim_conditions}
use Rattle.report_types.specs.Verdicts.{sides_by}
use Rattle.report_types.specs.Lawful.{HasItsPlace}
use Rattle.claim_check.proofs.SequenceClaims.{sequence_in_whole}
use Rattle.claim_check.proofs.Named.{record_lawful}
use Rattle.claim_check.proofs.groups.first_failing_of_sequence.Goals as goal

pub first_failing_sequence_claim-requires-clause-block : goal.first_failing_sequence_claim-requires-clause-block
first_failing_sequence_claim-requires-clause-block c =
    let lawful = record_lawful c.args.report.now c.requires.report c.args.k c.args.item.now c.requires.there in
    sequence_in_whole c.args.report.now c.requires.report c.args.k (subst (HasItsPlace (take c.args.k c.args.report.now.records) c.args.item.now) c.in-AlmostSplit.is lawful.place)
    c.in-AlmostSplit.left c.in-AlmostSplit.middle c.in-AlmostSplit.right c.in-AlmostSplit.f c.in-AlmostSplit.g c.in-AlmostSplit.resolution c.in-AlmostSplit.local c.in-AlmostSplit.phi
    c.in-AlmostSplit.left_rows c.in-AlmostSplit.middle_rows
    (subst (IsClaimBlock c.args.report.now.header (take c.args.k c.args.report.now.records)) c.in-AlmostSplit.is lawful.claim)

pub returns : goal.returns
returns c w =
    subst (λ x. IsAnswer (claim_conditions c.args.report.now.header (sides_by w) c.args.report.now.records x) c.first_failing_sequence_claim.result) (sym c.in-AlmostSplit.is)
    (c.first_failing_sequence_claim.ensures w)
