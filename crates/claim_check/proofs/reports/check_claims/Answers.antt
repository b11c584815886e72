use Rattle.std.proofs.Common.{◌≡◌, Err, ap, sym, ◌∙◌, subst}
use Rattle.report_types.specs.Verdicts.{IsFirstFailure}
use Rattle.claim_check.specs.ClaimVerdicts.{clause_of}
use Rattle.claim_check.proofs.FirstClaims.{basis_first, same_basis, first_block, first_fails, table_of_claim}
use Rattle.claim_check.proofs.reports.check_claims.Goals as goal

pub check_basis-requires-clause-claim : goal.check_basis-requires-clause-claim
check_basis-requires-clause-claim g c =
    first_block c.args.report.now c.first_record-first.result.now c.as_slice.result.now c.as_slice-2.result.now c.as_slice-3.result.now
    c.first_record-first.ensures
    (same_basis c.first_record-first.result.now.claim _ _ _ _ _ _ c.in-Basis.is c.as_slice.ensures c.as_slice-2.ensures c.as_slice-3.ensures) c.requires.report

pub returns-in-Err-Fault : goal.returns-in-Err-Fault
returns-in-Err-Fault g c =
    let same : c.clause_of.result ≡ clause_of c.in-Err-Fault.fault = c.clause_of.ensures ∙ ap clause_of c.in-Err-Fault.fault-is in
    subst (IsFirstFailure c.args.report.now 1) (sym same)
    (first_fails c.args.report.now c.first_record-first.result.now c.as_slice.result.now c.as_slice-2.result.now c.as_slice-3.result.now
    c.first_record-first.ensures
    (same_basis c.first_record-first.result.now.claim _ _ _ _ _ _ c.in-Basis.is c.as_slice.ensures c.as_slice-2.ensures c.as_slice-3.ensures)
    c.in-Err-Fault.fault (c.in-Err-Fault.ensures.fault c.in-Err-Fault.fault (ap Err c.in-Err-Fault.field-0-is)))

pub unreachable-requires : goal.unreachable-requires
unreachable-requires g c = basis_first c.args.report.now c.first_record-first.result.now c.requires.report c.first_record-first.ensures c.in_default.not-Basis

pub check_later-requires-clause-table : goal.check_later-requires-clause-table
check_later-requires-clause-table g c κs within =
    table_of_claim c.args.report.now c.first_record-first.result.now c.as_slice.result.now c.as_slice-2.result.now c.as_slice-3.result.now
    c.first_record-first.ensures
    (same_basis c.first_record-first.result.now.claim _ _ _ _ _ _ c.in-Basis.is c.as_slice.ensures c.as_slice-2.ensures c.as_slice-3.ensures)
    c.requires.report c.in-Ok.table c.in-Ok.ensures.header c.in-Ok.ensures.words c.in-Ok.ensures.holds
