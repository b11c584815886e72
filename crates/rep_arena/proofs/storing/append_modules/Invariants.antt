use Rattle.std.proofs.Common.{◌≡◌, ◌++◌, take}
use Rattle.rep_arena.proofs.storing.append_modules.Given as goal

abbrev pub invariant-loop-i : goal.invariant-loop-i
invariant-loop-i l = l.into.items ≡ l.initial.into.items ++ take l.i l.modules.items
