use Rattle.std.proofs.Common.{◌+◌, codes}
use Rattle.claim_lines.proofs.NumberReading.{other_number}
use Rattle.claim_lines.proofs.steps.read_step.Goals as goal

pub returns-then-number-earlier : goal.returns-then-number-earlier
returns-then-number-earlier c = λ x fits e.
    let first = rw c.if-not-take_word.false at c.take_word.ensures in
    other_number c.in-Some.number 0 (c.args.earlier + 1) (codes "step") c.args.tokens c.take_word.new.self _ _ c.in-Some.ensures.within fits.room c.if-number-earlier.true first c.in-Some.ensures.taken e
