use Rattle.std.proofs.Common.{◌≡◌, ◌++◌, ◌-◌, length, take, map}
use Rattle.rep_arena.specs.Entries.{numbered, no_map}
use Rattle.rep_arena.specs.Marks.{module_numbers, map_numbers, renumbered}
use Rattle.rep_arena.proofs.keeping.kept_maps.Given as goal

abbrev pub invariant-loop-i : goal.invariant-loop-i
invariant-loop-i l = l.all.items ≡ take l.i l.maps.items

abbrev pub invariant-loop-k : goal.invariant-loop-k
invariant-loop-k l = l.all.items ≡ take (l.below - length l.old.items) l.maps.items
    ++ take l.k (map (λ n. renumbered l.modules_below (module_numbers l.kept_modules) (numbered no_map (l.old.items ++ l.maps.items) n)) (map_numbers l.kept))
