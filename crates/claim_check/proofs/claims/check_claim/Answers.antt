use Rattle.std.proofs.Common.{sym, subst}
use Rattle.claim_check.specs.Room.{HasRoom}
use Rattle.claim_check.proofs.Reserved.{room_of_claim}
use Rattle.claim_check.proofs.claims.check_claim.Goals as goal

pub first_failing-requires-clause-room : goal.first_failing-requires-clause-room
first_failing-requires-clause-room c =
    room_of_claim c.args.report.now.records c.args.k c.in-Some.item.now c.deref_mut.result.now c.deref_mut-2.result.now c.in-Some.ensures.1
    (subst (λ b. HasRoom c.args.report.now.records b c.deref_mut-2.result.now) (sym c.deref_mut.ensures.value)
    (subst (HasRoom c.args.report.now.records c.args.scratch.now.bytes.items) (sym c.deref_mut-2.ensures.value) c.requires.room))
