use Rattle.std.proofs.Common.{ℕ, ◌≡◌, ◌<◌, ◌≤◌, length, get_or}
use Rattle.path_algebra.specs.declared.rules.Rule.{Rule}
use Rattle.path_algebra.specs.declared.rules.Step.{Step}
use Rattle.alg_table.specs.LastUses.{KeepsNamed, last_use}
use Rattle.alg_table.proofs.last_uses.last_uses.Given as goal

abbrev pub invariant-loop-place : goal.invariant-loop-place
invariant-loop-place l = record {
  count : length l.lasts.items ≡ length l.steps;
  named : (k : ℕ) (s : Step) → k < l.place → KeepsNamed l.lasts.items k (get_or l.steps k s);
}

abbrev pub invariant-loop-rule : goal.invariant-loop-rule
invariant-loop-rule l = record {
  count : length l.lasts.items ≡ length l.steps;
  named : (k : ℕ) (s : Step) → k < length l.steps → KeepsNamed l.lasts.items k (get_or l.steps k s);
  derived : (j : ℕ) (r : Rule) → j < l.rule-index → length l.steps ≤ last_use l.lasts.items (get_or l.rules j r).step;
}
