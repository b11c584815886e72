use Rattle.std.proofs.Common.{refl}
use Rattle.claim_text.proofs.TakenLines.{takes_word, leads_word}
use Rattle.claim_text.proofs.part.Part.take_word.Goals as goal

pub returns : goal.returns
returns c =
    let p = c.args.self.now in
    let known = rw c.in-Some.is at c.in_ok-word.ensures in
    takes_word p c.args.n c.header-header.result.now p.words c.args.tokens c.in-Some.word _ c.header-header.ensures.front c.header-header.ensures.same refl known
    (leads_word p c.args.n c.len.result c.words_place-self.result c.push.new.self c.in-Some.word c.words_place-self.ensures c.len.ensures c.in_ok-push.ensures)
