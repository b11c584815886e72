-- The basis of the algebra: what the claim says, and its conditions in the order in which they are tried. (Green's reduced Gröbner bases for path algebras.)
use Rattle.std.specs.Prelude.{List, [], ◌∷◌}
use Rattle.quiver_paths.specs.declared.Path.{Path}
use Rattle.path_algebra.specs.declared.Header.{Header}
use Rattle.path_algebra.specs.declared.rules.Rule.{Rule}
use Rattle.path_algebra.specs.declared.rules.Step.{Step}
use Rattle.path_algebra.specs.Words.{AreNormalWords, IsBasis}
use Rattle.path_algebra.specs.Rules.{AreReducedRules}
use Rattle.path_algebra.specs.BasisClauses.{StepsHold, RulesHold, ReducedHolds, WordsHold, ActionHolds}
use Rattle.claim_conditions.specs.declared.Clause.TheVariants as clause
use Rattle.claim_conditions.specs.Conditions.{Condition, ◌asks◌}

-- The words are exactly the normal words, ascending; they are a basis of the quotient; and the rules are exactly the reduced rules.
pub record BasisHolds (h : Header) (words : List Path) (rules : List Rule) : Type 0 where
  pub normal : AreNormalWords h words
  pub basis : IsBasis h words
  pub reduced : AreReducedRules h rules

abbrev pub basis_conditions : Header → List Path → List Step → List Rule → List Condition
basis_conditions h words steps rules =
    (clause.Step asks StepsHold h steps rules)
    ∷ (clause.Rule asks RulesHold h steps rules)
    ∷ (clause.Reduced asks ReducedHolds h rules)
    ∷ (clause.Words asks WordsHold h words rules)
    ∷ (clause.Action asks ActionHolds h words rules)
    ∷ []
