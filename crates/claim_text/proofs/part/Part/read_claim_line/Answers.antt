use Rattle.std.proofs.Common.{true≢false, sym, ◌∙◌, rules}
use Rattle.claim_text.proofs.ItemReading.{no_other_claim}
use Rattle.claim_text.proofs.part.Part.read_claim_line.Goals as goal

pub returns-then-not-stands : goal.returns-then-not-stands
returns-then-not-stands c =
    let read = rw c.in-Some-2.is at c.in_ok-line.ensures in
    no_other_claim c.args.self.now c.args.tokens c.len-earlier.result c.in-Some.modules c.in-Some-map_count.maps c.in-Some-2.line c.in-Some-2.head c.in-Some.ensures c.in-Some-map_count.ensures (search rules) (search rules) (search rules)
    read.0 read.1 (λ kind. true≢false (sym (c.in_ok-stands.ensures.1 kind) ∙ c.if-not-stands.true))
