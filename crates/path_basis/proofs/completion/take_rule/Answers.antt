use Rattle.path_algebra.specs.declared.rules.Rule.{Rule}
use Rattle.path_algebra.specs.Rules.{rule_element}
use Rattle.path_reduction.specs.Gaps.{IsTidy}
use Rattle.path_reduction.specs.Derived.{Derives}
use Rattle.path_basis.proofs.Taken.{taken_out}
use Rattle.path_basis.proofs.completion.take_rule.Goals as goal

pub returns-clause-tidy : goal.returns-clause-tidy
returns-clause-tidy c h all = taken_out (IsTidy h) _ _ c.args.i c.swap_remove.result c.requires c.swap_remove.ensures.value c.swap_remove.ensures.items all

pub returns-clause-derived : goal.returns-clause-derived
returns-clause-derived c h steps all = taken_out (λ (x : Rule). Derives h steps x.step (rule_element h x)) _ _ c.args.i c.swap_remove.result c.requires c.swap_remove.ensures.value c.swap_remove.ensures.items all
