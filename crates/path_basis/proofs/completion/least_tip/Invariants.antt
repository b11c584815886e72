use Rattle.std.proofs.Common.{◌<◌, length}
use Rattle.path_basis.proofs.completion.least_tip.Given as goal

abbrev pub invariant-loop-i : goal.invariant-loop-i
invariant-loop-i l = l.least < length l.rules
