-- The conditions on a basis that are tried before the action on the words.
use Rattle.std.specs.Prelude.{List}
use Rattle.quiver_paths.specs.declared.Path.{Path}
use Rattle.path_algebra.specs.declared.Header.{Header}
use Rattle.path_algebra.specs.declared.rules.Rule.{Rule}
use Rattle.path_algebra.specs.declared.rules.Step.{Step}
use Rattle.path_algebra.specs.BasisClauses.{StepsHold, RulesHold, ReducedHolds, WordsHold}

pub record MeetsFirstClauses (h : Header) (words : List Path) (steps : List Step) (rules : List Rule) : Type 0 where
  pub step : StepsHold h steps rules
  pub rule : RulesHold h steps rules
  pub reduced : ReducedHolds h rules
  pub word : WordsHold h words rules
