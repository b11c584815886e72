use Rattle.claim_text.proofs.part.Part.take_front.Goals as goal

pub returns-then-not-taken : goal.returns-then-not-taken
returns-then-not-taken c = λ next step. (rw c.if-not-taken.true at c.in_ok-taken.ensures) step.front step.step
