use Rattle.std.proofs.Common.{◌≡◌, ◌++◌, ◌-◌, length, take, map}
use Rattle.rep_arena.specs.Entries.{numbered, no_module}
use Rattle.rep_arena.specs.Marks.{module_numbers}
use Rattle.rep_arena.proofs.keeping.kept_modules.Given as goal

abbrev pub invariant-loop-i : goal.invariant-loop-i
invariant-loop-i l = l.all.items ≡ take l.i l.modules.items

abbrev pub invariant-loop-k : goal.invariant-loop-k
invariant-loop-k l = l.all.items ≡ take (l.below - length l.old.items) l.modules.items ++ take l.k (map (numbered no_module (l.old.items ++ l.modules.items)) (module_numbers l.kept))
