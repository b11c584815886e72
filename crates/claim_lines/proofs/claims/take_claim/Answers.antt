use Rattle.std.proofs.Common.{codes}
use Rattle.claim_lines.proofs.NumberReading.{other_number}
use Rattle.claim_lines.proofs.claims.take_claim.Goals as goal

pub returns-then-number-k : goal.returns-then-number-k
returns-then-number-k c = λ rest e.
    let first = rw c.if-not-take_word.false at c.take_word.ensures in
    other_number c.in-Some.number 0 c.args.k (codes "claim") c.args.tokens.now c.take_word.new.self _ rest c.in-Some.ensures.within c.ranges.k.fits c.if-number-k.true first c.in-Some.ensures.taken e
