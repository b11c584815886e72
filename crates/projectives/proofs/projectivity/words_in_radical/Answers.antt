-- It comes along its last arrow.
use Rattle.projectives.proofs.RadicalWords.{word_in_radical}
use Rattle.projectives.proofs.projectivity.words_in_radical.Goals as goal

pub returns : goal.returns
returns c = λ q A W B v w i k h e. word_in_radical A W B v w i k h e
