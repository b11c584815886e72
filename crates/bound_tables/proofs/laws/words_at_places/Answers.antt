use Rattle.bound_tables.proofs.TableRows.{count_right, word_right, count_left, word_left}
use Rattle.bound_tables.proofs.laws.words_at_places.Goals as goal

pub returns-clause-count : goal.returns-clause-count
returns-clause-count c = λ h words t v w places a. count_right h words t v w places a

pub returns-clause-word : goal.returns-clause-word
returns-clause-word c = λ h words t v w places a i l. word_right h words t v w places a i l

pub returns-clause-left_count : goal.returns-clause-left_count
returns-clause-left_count c = λ h words t v w places a. count_left h words t v w places a

pub returns-clause-left_word : goal.returns-clause-left_word
returns-clause-left_word c = λ h words t v w places a i l. word_left h words t v w places a i l
