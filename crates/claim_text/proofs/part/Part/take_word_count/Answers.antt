use Rattle.claim_text.specs.Part.{with_word_count}
use Rattle.claim_text.proofs.TakenLines.{takes_number, leads_words}
use Rattle.claim_text.proofs.part.Part.take_word_count.Goals as goal

pub returns : goal.returns
returns c =
    let p = c.args.self.now in
    takes_number (with_word_count p) c.args.tokens c.take_word.new.self c.in-Some.n _ (rw c.if-not-take_word.false at c.take_word.ensures) c.in-Some.ensures.0 c.in-Some.ensures.1
    (leads_words p c.in-Some.n c.len.result c.words_place-self.result c.words_place-self.ensures c.len.ensures)
