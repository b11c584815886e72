use Rattle.std.proofs.Common.{◌≡◌, length}
use Rattle.script_lang.specs.Arguments.{numbers_in}
use Rattle.script_lang.proofs.ListReading.{behind}
use Rattle.script_lang.proofs.arguments.read_numbers.Given as goal

-- what is read of the tokens that are left comes behind the numbers so far
abbrev pub invariant-loop-word : goal.invariant-loop-word
invariant-loop-word l = behind l.numbers (numbers_in l.most l.words) ≡ numbers_in l.most l.initial.words

abbrev pub decreases-loop-word : goal.decreases-loop-word
decreases-loop-word l = length l.words
