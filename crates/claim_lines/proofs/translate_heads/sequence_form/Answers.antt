use Rattle.std.proofs.Common.{sym, ◌∙◌}
use Rattle.claim_lines.proofs.NumberReading.{tail_is}
use Rattle.claim_lines.proofs.translate_heads.sequence_form.Goals as goal

pub returns-in_default-next_place : goal.returns-in_default-next_place
returns-in_default-next_place c = λ x is e. c.in_default-next_place.ensures x.1 _ is.1 (tail_is _ _ _ _ (tail_is _ _ _ _ (sym c.in-Some.ensures.1 ∙ e)))
