-- What the tests of the tips and of the words take for granted, from the conditions before them.
use Rattle.std.proofs.Common.{◌≤◌, List}
use Rattle.std.specs.Prelude.{Contains}
use Rattle.std.proofs.lemmas.List.Elements.{All-weaker, All-contains_itself}
use Rattle.quiver_paths.specs.declared.Path.{Path}
use Rattle.quiver_paths.specs.Path.{path_length}
use Rattle.path_algebra.specs.declared.Header.{Header}
use Rattle.path_algebra.specs.declared.rules.Rule.{Rule}
use Rattle.path_algebra.specs.declared.rules.Step.{Step}
use Rattle.path_algebra.specs.Allowed.{IsAllowed}
use Rattle.path_algebra.specs.BasisClauses.{StepsHold, RulesHold, IsBasisClaim}
use Rattle.path_algebra.specs.Occurring.{AreLongTips}
use Rattle.path_algebra.proofs.ClausesSuffice.{long_tip}

pub long_tips : (h : Header) (words : List Path) (steps : List Step) (rules : List Rule) → IsAllowed h → IsBasisClaim h words steps rules → StepsHold h steps rules → RulesHold h steps rules → AreLongTips h rules
long_tips h words steps rules ok claim steps_hold rules_hold = record {
  ends = ok.quiver.ends;
  paths = claim.tips;
  long = All-weaker (Contains rules) (λ (rule : Rule). 2 ≤ path_length rule.tip) (long_tip h steps rules ok steps_hold.named rules_hold) rules (All-contains_itself rules);
}
