use Rattle.std.proofs.Common.{ℕ, ◌<◌, ◌≡◌, get_or}
use Rattle.rep_arena.specs.Marks.{module_numbers}
use Rattle.rep_arena.proofs.keeping.new_number.Given as goal

abbrev pub invariant-loop-k : goal.invariant-loop-k
invariant-loop-k l = (i : ℕ) → i < l.k → get_or (module_numbers l.kept) i 0 ≡ l.id.number → ⊥
