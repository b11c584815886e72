-- Rules that are new to others, and the elements that they are made of.
use Rattle.std.specs.Prelude.{List, Contains}
use Rattle.path_algebra.specs.declared.Term.{Term}
use Rattle.path_algebra.specs.declared.Header.{Header}
use Rattle.path_algebra.specs.declared.rules.Rule.{Rule}
use Rattle.path_algebra.specs.Allowed.{IsAllowed, IsParallel}
use Rattle.path_algebra.specs.Reduction.{HasNoTip}
use Rattle.path_reduction.specs.Gaps.{IsTidy, AreTidy}

-- the paths of the terms start and end at the same vertices
pub record AreParallel (terms : List Term) : Type 0 where
  pub parallel : (a b : Term) → Contains terms a → Contains terms b → IsParallel a.path b.path

-- the rules are tidy, the new one is, and no tip of the rules is a factor of its tip
pub record IsNewTo (h : Header) (rules : List Rule) (rule : Rule) : Type 0 where
  pub allowed : IsAllowed h
  pub tidy : AreTidy h rules
  pub rule_tidy : IsTidy h rule
  pub no_tip : HasNoTip h rules rule.tip
