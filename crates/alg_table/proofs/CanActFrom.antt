-- What the first four conditions give.
use Rattle.std.proofs.Common.{List, sym, ◌∙◌, arith}
use Rattle.std.specs.Prelude.{All}
use Rattle.std.proofs.lemmas.List.Elements.{All-contains, All-weaker}
use Rattle.quiver_paths.specs.declared.Path.{Path}
use Rattle.quiver_paths.specs.PathOrder.{IsSmaller}
use Rattle.path_algebra.specs.declared.Term.{Term}
use Rattle.path_algebra.specs.declared.Header.{Header}
use Rattle.path_algebra.specs.declared.rules.Rule.{Rule}
use Rattle.path_algebra.specs.declared.rules.Step.{Step}
use Rattle.path_algebra.specs.Allowed.{IsAllowed}
use Rattle.path_algebra.specs.Rules.{rule_element}
use Rattle.path_algebra.specs.Derivations.{element_at, step_elements}
use Rattle.path_algebra.specs.BasisClauses.{StepsHold, RuleHolds, RulesHold, ReducedHolds, WordsHold, IsBasisClaim}
use Rattle.word_products.specs.WordProducts.{CanAct}
use Rattle.path_algebra.proofs.IdealLemmas.{IsInIdeal-same}
use Rattle.path_algebra.proofs.IdealActs.{IsInIdeal-long}
use Rattle.path_algebra.proofs.IdealSteps.{steps_are_members}
use Rattle.path_algebra.proofs.ClausesSuffice.{rule_at_tip}

-- arrows can act by rules and words of which the first four conditions hold
pub can_act : (h : Header) (words : List Path) (steps : List Step) (rules : List Rule) → IsAllowed h → IsBasisClaim h words steps rules
    → StepsHold h steps rules → RulesHold h steps rules → ReducedHolds h rules → WordsHold h words rules → CanAct h words rules
can_act h words steps rules ok claim s r d w = record {
  allowed = ok;
  few = claim.few;
  tips = claim.tips;
  tails = claim.tails;
  greater = All-weaker (RuleHolds h steps) (λ (x : Rule). All (λ (a : Term). IsSmaller a.path x.tip) x.tail.terms) (λ x y. y.greater) rules r;
  tips_long = λ rule m.
      let holds : RuleHolds h steps rule = All-contains (RuleHolds h steps) rules rule r m in
      let member = IsInIdeal-same h (element_at (step_elements h steps) rule.step) (rule_element h rule) holds.derived (steps_are_members h ok steps s.named rule.step) in
      IsInIdeal-long h ok (rule_element h rule) member rule.tip (λ e. omega (arith, sym (rule_at_tip h rule holds.short holds.greater) ∙ e));
  reduced = d;
  word = w;
}
