-- From the rules of the pairing.
use Rattle.std.proofs.Common.{inl, inr}
use Rattle.auslander_reiten.proofs.Criterion.{through_or_seen}
use Rattle.auslander_reiten.proofs.Lifting.{lift_vanishes, lifts_or_detected}
use Rattle.auslander_reiten.proofs.right_end.lifting_criterion.Goals as goal

pub returns-clause-vanishes : goal.returns-clause-vanishes
returns-clause-vanishes c = λ q A T L E M X D F f g S N h l x. lift_vanishes T D F f g S N h l x

pub returns-clause-detects : goal.returns-clause-detects
returns-clause-detects c = λ q A T L E M X D F f g S N h. lifts_or_detected T D F f g S N h

pub returns-clause-through : goal.returns-clause-through
returns-clause-through c = λ q A T k v h u d X N s. elim (through_or_seen T k v h u d X N s) [
  | inl x ↦ inl (x.by, x.is)
  | inr y ↦ inr (y.by, y.killed, y.sees)
]
