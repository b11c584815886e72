use Rattle.std.proofs.Common.{◌≡◌, take}
use Rattle.script_run.proofs.basis.words_of.Given as goal

abbrev pub invariant-loop-i : goal.invariant-loop-i
invariant-loop-i l = l.words ≡ take l.i l.table.words
