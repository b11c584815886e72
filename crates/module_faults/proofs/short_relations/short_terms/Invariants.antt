use Rattle.std.proofs.Common.{◌≡◌}
use Rattle.module_faults.specs.ShortRelations.{short_terms}
use Rattle.module_faults.proofs.short_relations.short_terms.Given as goal

abbrev pub invariant-loop-term : goal.invariant-loop-term
invariant-loop-term l = l.short.items ≡ short_terms l.bound l.yielded
