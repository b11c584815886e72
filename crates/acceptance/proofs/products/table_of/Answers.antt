use Rattle.claim_check.proofs.FirstClaims.{first_block, same_basis}
use Rattle.acceptance.proofs.products.table_of.Goals as goal

pub check_basis-requires-clause-claim : goal.check_basis-requires-clause-claim
check_basis-requires-clause-claim c =
    first_block c.args.report.now c.in-Some.first.now c.as_slice.result.now c.as_slice-2.result.now c.as_slice-3.result.now c.in-Some.ensures.1
    (same_basis c.in-Some.first.now.claim _ _ _ _ _ _ c.in-Basis.is c.as_slice.ensures c.as_slice-2.ensures c.as_slice-3.ensures) c.requires
