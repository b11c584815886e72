use Rattle.std.proofs.Common.{sym, subst}
use Rattle.std.specs.Prelude.{take}
use Rattle.claim_conditions.specs.Conditions.{IsAnswer}
use Rattle.report_types.specs.ClaimBlocks.{IsClaimBlock}
use Rattle.report_types.specs.Conditions.{claim_conditions}
use Rattle.report_types.specs.Verdicts.{sides_by}
use Rattle.report_types.specs.Lawful.{HasItsPlace}
use Rattle.claim_check.proofs.TranslateClaims.{extension_in_whole, translate_in_whole}
use Rattle.claim_check.proofs.Named.{record_lawful}
use Rattle.claim_check.proofs.groups.first_failing_over_resolution.Goals as goal

pub first_failing_extension_claim-requires-clause-block : goal.first_failing_extension_claim-requires-clause-block
first_failing_extension_claim-requires-clause-block c =
    extension_in_whole c.args.report.now.header c.args.k c.args.report.now.records c.in-Ext.n c.in-Ext.a c.in-Ext.b c.in-Ext.rows c.in-Ext.resolution
    (subst (IsClaimBlock c.args.report.now.header (take c.args.k c.args.report.now.records)) c.in-Ext.is
    (record_lawful c.args.report.now c.requires.report c.args.k c.args.item.now c.requires.there).claim)

pub returns-in-Ext : goal.returns-in-Ext
returns-in-Ext c w =
    subst (λ x. IsAnswer (claim_conditions c.args.report.now.header (sides_by w) c.args.report.now.records x) c.first_failing_extension_claim.result) (sym c.in-Ext.is)
    (c.first_failing_extension_claim.ensures w)

pub first_failing_translate_claim-requires-clause-block : goal.first_failing_translate_claim-requires-clause-block
first_failing_translate_claim-requires-clause-block c =
    let lawful = record_lawful c.args.report.now c.requires.report c.args.k c.args.item.now c.requires.there in
    translate_in_whole c.args.report.now c.requires.report c.args.k (subst (HasItsPlace (take c.args.k c.args.report.now.records) c.args.item.now) c.in-Translate.is lawful.place)
    c.in-Translate.which c.in-Translate.«module» c.in-Translate.a c.in-Translate.resolution c.in-Translate.rows
    (subst (IsClaimBlock c.args.report.now.header (take c.args.k c.args.report.now.records)) c.in-Translate.is lawful.claim)

pub returns-in-Translate : goal.returns-in-Translate
returns-in-Translate c w =
    subst (λ x. IsAnswer (claim_conditions c.args.report.now.header (sides_by w) c.args.report.now.records x) c.first_failing_translate_claim.result) (sym c.in-Translate.is)
    (c.first_failing_translate_claim.ensures w)
