use Rattle.claim_text.specs.Part.{with_item}
use Rattle.claim_text.specs.Steps.{FitsItem, item_line}
use Rattle.claim_text.proofs.OtherLines.{one_item}
use Rattle.claim_text.proofs.TakenLines.{takes, takes_none, few_relations}
use Rattle.claim_text.proofs.part.Part.take_item.Goals as goal

pub returns-in_default : goal.returns-in_default
returns-in_default c =
    let p = c.args.self.now in
    takes_none (FitsItem p) (item_line p) (with_item p) c.args.tokens (rw c.in_default.is at c.in_ok-item.ensures)

pub returns : goal.returns
returns c =
    let p = c.args.self.now in
    let front = c.header-header.ensures.front in
    takes (FitsItem p) (item_line p) (with_item p) c.args.tokens c.in-Some.item c.set_item.new.self (rw c.in-Some.is at c.in_ok-item.ensures) (one_item p front.named (few_relations p.front front))
    c.in_ok-set_item.ensures
