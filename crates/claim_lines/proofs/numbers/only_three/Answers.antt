use Rattle.std.proofs.Common.{sym, ◌∙◌}
use Rattle.claim_lines.proofs.NumberReading.{tail_is}
use Rattle.claim_lines.proofs.numbers.only_three.Goals as goal

pub returns-in_default-only_two : goal.returns-in_default-only_two
returns-in_default-only_two c = λ x is e. c.in_default-only_two.ensures (x.1, x.2) (is.1, is.2) (tail_is _ _ _ _ (sym c.in-Some.ensures.1 ∙ e))
