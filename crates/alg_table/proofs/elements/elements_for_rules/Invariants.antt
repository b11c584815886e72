use Rattle.std.proofs.Common.{◌≡◌, length}
use Rattle.path_algebra.specs.Derivations.{step_elements}
use Rattle.alg_table.specs.LastUses.{AreInUse}
use Rattle.alg_table.proofs.elements.elements_for_rules.Given as goal

abbrev pub invariant-loop-step : goal.invariant-loop-step
invariant-loop-step l = record {
  count : length l.elements.items ≡ l.step-index;
  in_use : AreInUse l.header (step_elements l.header l.steps) l.lasts.items l.elements.items;
}
