use Rattle.std.proofs.Common.{◌≤◌}
use Rattle.report_types.specs.declared.claims.Record.{Record}
use Rattle.claim_check.specs.Room.{object_bytes, claim_bytes}
use Rattle.claim_check.proofs.Named.{AllBelow}
use Rattle.claim_check.proofs.rooms.most_bytes.Given as goal

abbrev pub invariant-loop-item : goal.invariant-loop-item
invariant-loop-item l = (object_bytes ≤ l.most) × AllBelow (λ (r : Record). claim_bytes r.claim ≤ l.most) l.records l.item-index
