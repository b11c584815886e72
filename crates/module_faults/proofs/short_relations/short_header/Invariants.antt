use Rattle.std.proofs.Common.{◌≡◌, map, take}
use Rattle.module_faults.specs.ShortRelations.{kept_relation}
use Rattle.module_faults.proofs.short_relations.short_header.Given as goal

abbrev pub invariant-loop-r : goal.invariant-loop-r
invariant-loop-r l = l.relations.items ≡ map (kept_relation l.header.bound) (take l.r l.header.relations)
