use Rattle.std.proofs.Common.{◌≤◌, subst}
use Rattle.std.specs.Prelude.{All}
use Rattle.report_types.specs.declared.claims.Record.{Record}
use Rattle.claim_check.specs.Room.{claim_bytes, claim_numbers}
use Rattle.claim_check.proofs.Reserved.{reserved}
use Rattle.claim_check.proofs.rooms.scratch_for.Goals as goal

pub returns : goal.returns
returns c =
    reserved c.args.report.now.records c.most_bytes-bytes.result c.most_numbers-numbers.result c.in_ok-scratch.scratch.bytes.items c.in_ok-scratch.scratch.numbers.items
    c.most_bytes-bytes.ensures.objects
    (subst (λ rs. All (λ (r : Record). claim_bytes r.claim ≤ c.most_bytes-bytes.result) rs) c.as_slice.ensures c.most_bytes-bytes.ensures.claims)
    c.most_numbers-numbers.ensures.objects
    (subst (λ rs. All (λ (r : Record). claim_numbers r.claim ≤ c.most_numbers-numbers.result) rs) c.as_slice-2.ensures c.most_numbers-numbers.ensures.claims)
    c.in_ok-scratch.ensures.numbers c.in_ok-scratch.ensures.bytes
