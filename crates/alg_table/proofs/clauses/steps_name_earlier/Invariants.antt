use Rattle.std.proofs.Common.{ℕ, ◌<◌, get_or}
use Rattle.path_algebra.specs.declared.rules.Step.{Step}
use Rattle.path_algebra.specs.Derivations.{NamesEarlier}
use Rattle.alg_table.proofs.clauses.steps_name_earlier.Given as goal

abbrev pub invariant-loop-k : goal.invariant-loop-k
invariant-loop-k l = (j : ℕ) (s : Step) → j < l.k → NamesEarlier l.header j (get_or l.steps j s)
