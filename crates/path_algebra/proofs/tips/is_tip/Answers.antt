use Rattle.std.proofs.Common.{[]}
use Rattle.path_algebra.specs.declared.rules.Rule.{Rule}
use Rattle.path_algebra.proofs.TipPlaces.{tip_of_place}
use Rattle.path_algebra.proofs.tips.is_tip.Goals as goal

-- a rule to name
some_rule : Rule
some_rule = record { tip = record { start = 0; end = 0; arrows = [] }; tail = record { terms = [] }; step = 0 }

pub returns-in-Some : goal.returns-in-Some
returns-in-Some c = tip_of_place c.args.rules.now c.args.arrows.now c.in-Some._place some_rule c.in-Some.ensures.found (c.in-Some.ensures.same some_rule)
