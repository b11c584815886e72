use Rattle.std.proofs.Common.{◌≤◌}
use Rattle.report_types.specs.declared.claims.Record.{Record}
use Rattle.claim_check.specs.Room.{object_numbers, claim_numbers}
use Rattle.claim_check.proofs.Named.{AllBelow}
use Rattle.claim_check.proofs.rooms.most_numbers.Given as goal

abbrev pub invariant-loop-item : goal.invariant-loop-item
invariant-loop-item l = (object_numbers ≤ l.most) × AllBelow (λ (r : Record). claim_numbers r.claim ≤ l.most) l.records l.item-index
