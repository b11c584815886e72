use Rattle.std.proofs.Common.{sym, subst}
use Rattle.claim_conditions.specs.Conditions.{IsAnswer}
use Rattle.report_types.specs.declared.claims.Claim.TheVariants as claim
use Rattle.report_types.specs.Conditions.{claim_conditions}
use Rattle.report_types.specs.Verdicts.{sides_by}
use Rattle.claim_check.proofs.terms.first_failing_translate_claim.Goals as goal

pub returns-in-Tau : goal.returns-in-Tau
returns-in-Tau c w =
    subst (λ v. IsAnswer (claim_conditions c.args.report.now.header (sides_by w) c.args.report.now.records (claim.Translate v c.args.n c.args.a c.args.c c.args.rows.now)) c.first_failing_tau_claim.result)
    (sym c.in-Tau.is) (c.first_failing_tau_claim.ensures w)

pub returns-in-Transpose : goal.returns-in-Transpose
returns-in-Transpose c w =
    subst (λ v. IsAnswer (claim_conditions c.args.report.now.header (sides_by w) c.args.report.now.records (claim.Translate v c.args.n c.args.a c.args.c c.args.rows.now)) c.first_failing_transpose_claim.result)
    (sym c.in-Transpose.is) (c.first_failing_transpose_claim.ensures w)

pub returns-in-Taui : goal.returns-in-Taui
returns-in-Taui c w =
    subst (λ v. IsAnswer (claim_conditions c.args.report.now.header (sides_by w) c.args.report.now.records (claim.Translate v c.args.n c.args.a c.args.c c.args.rows.now)) c.first_failing_taui_claim.result)
    (sym c.in-Taui.is) (c.first_failing_taui_claim.ensures w)
