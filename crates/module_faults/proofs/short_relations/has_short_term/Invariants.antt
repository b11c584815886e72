use Rattle.std.proofs.Common.{◌≡◌, [], take}
use Rattle.module_faults.specs.ShortRelations.{short_terms}
use Rattle.module_faults.proofs.short_relations.has_short_term.Given as goal

abbrev pub invariant-loop-k : goal.invariant-loop-k
invariant-loop-k l = short_terms l.bound (take l.k l.relation.terms) ≡ []
