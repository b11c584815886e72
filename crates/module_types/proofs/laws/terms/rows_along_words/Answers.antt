use Rattle.module_types.proofs.WordWalks.{along_right_word, along_left_word}
use Rattle.module_types.proofs.laws.terms.rows_along_words.Goals as goal

pub returns-clause-right : goal.returns-clause-right
returns-clause-right c = λ h ok words w X b c i l x. along_right_word h ok words w X b c i l x

pub returns-clause-left : goal.returns-clause-left
returns-clause-left c = λ h ok words w X b c i l x. along_left_word h ok words w X b c i l x
