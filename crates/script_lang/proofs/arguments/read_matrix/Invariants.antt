use Rattle.std.proofs.Common.{◌≡◌, length, []}
use Rattle.script_lang.proofs.ListReading.{rest_in}
use Rattle.script_lang.proofs.arguments.read_matrix.Given as goal

abbrev pub invariant-loop-word : goal.invariant-loop-word
invariant-loop-word l = rest_in l.most l.rows l.row l.words ≡ rest_in l.most [] [] l.initial.words

abbrev pub decreases-loop-word : goal.decreases-loop-word
decreases-loop-word l = length l.words
