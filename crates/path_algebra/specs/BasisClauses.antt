-- The finite conditions on words, steps and rules from which it follows that the words are the normal words, and the rules the reduced rules.
-- They are tried in this order.
use Rattle.std.specs.Prelude.{ℕ, ⊤, ◌≤◌, ◌≡◌, ◌≢◌, ◌<◌, List, length, Contains, All, AllPairs}
use Rattle.linear_algebra.specs.Field.{order}
use Rattle.quiver_paths.specs.declared.Path.{Path}
use Rattle.quiver_paths.specs.Path.{IsPath, path_length, IsFactor}
use Rattle.quiver_paths.specs.PathOrder.{IsSmaller, IsAscending}
use Rattle.path_algebra.specs.declared.Term.{Term}
use Rattle.path_algebra.specs.declared.Relation.{Relation}
use Rattle.path_algebra.specs.declared.Header.{Header}
use Rattle.path_algebra.specs.declared.rules.Rule.{Rule}
use Rattle.path_algebra.specs.declared.rules.Step.{Step}
use Rattle.path_algebra.specs.declared.rules.BasisFault.{BasisFault}
use Rattle.path_algebra.specs.declared.rules.BasisFault.TheVariants as fault
use Rattle.path_algebra.specs.declared.rules.Step.TheVariants as step
use Rattle.path_algebra.specs.Elements.{path_element}
use Rattle.path_algebra.specs.Words.{IsShortPath}
use Rattle.path_algebra.specs.Rules.{AreElementTerms, rule_element}
use Rattle.path_algebra.specs.Derivations.{IsNumber, AreSteps, step_elements, element_at}
use Rattle.path_algebra.specs.Reduction.{HasNoTip, IsReduction, act_arrows, act_terms}

-- `step`: the steps name what stands before them, and each rule names a step
pub record StepsHold (h : Header) (steps : List Step) (rules : List Rule) : Type 0 where
  pub named : AreSteps h steps
  pub derived : All (λ (rule : Rule). IsNumber (length steps) rule.step) rules

-- the tip is shorter than the bound and greater than each path of the tail; tip less tail is the element of the rule's step
pub record RuleHolds (h : Header) (steps : List Step) (rule : Rule) : Type 0 where
  pub short : path_length rule.tip < h.bound
  pub greater : All (λ (a : Term). IsSmaller a.path rule.tip) rule.tail.terms
  pub derived : (p : Path) → rule_element h rule p ≡ element_at (step_elements h steps) rule.step p

-- `rule`: this holds of each rule
abbrev pub RulesHold : Header → List Step → List Rule → Type 0
RulesHold h steps rules = All (RuleHolds h steps) rules

-- `reduced`: tips ascend, no tip has another tip as a factor, and no path of a tail has a tip as a factor
pub record ReducedHolds (h : Header) (rules : List Rule) : Type 0 where
  pub ascending : AllPairs (λ (a b : Rule). IsSmaller a.tip b.tip) rules
  pub tips : (a b : Rule) → Contains rules a → Contains rules b → a.tip ≢ b.tip → IsFactor h.quiver a.tip b.tip → ⊥
  pub tails : All (λ (rule : Rule). All (λ (a : Term). HasNoTip h rules a.path) rule.tail.terms) rules

-- `words`: the words are, ascending, exactly the short paths that have no tip as a factor
pub record WordsHold (h : Header) (words : List Path) (rules : List Rule) : Type 0 where
  pub ascending : IsAscending words
  pub all : (p : Path) → IsShortPath h p → HasNoTip h rules p → Contains words p
  pub only : (p : Path) → Contains words p → IsShortPath h p × HasNoTip h rules p

-- `action`: on the span of the words, arrows acting by reduction, each relation and each path of the bound's length acts as zero
pub record ActionHolds (h : Header) (words : List Path) (rules : List Rule) : Type 0 where
  pub becomes : Path → Path → ℕ
  pub reduction : IsReduction h rules becomes
  pub relations : (relation : Relation) → Contains h.relations relation → (w : Path) → Contains words w → (r : Path)
      → act_terms h becomes words relation.terms (path_element h.bound w) r ≡ 0
  pub long : (p : Path) → IsPath h.quiver p → path_length p ≡ h.bound → (w : Path) → Contains words w → (r : Path)
      → act_arrows h becomes words p.arrows (path_element h.bound w) r ≡ 0

-- all five
pub record MeetsClauses (h : Header) (words : List Path) (steps : List Step) (rules : List Rule) : Type 0 where
  pub step : StepsHold h steps rules
  pub rule : RulesHold h steps rules
  pub reduced : ReducedHolds h rules
  pub word : WordsHold h words rules
  pub action : ActionHolds h words rules

-- the first that fails
abbrev pub IsFirstFault : Header → List Path → List Step → List Rule → BasisFault → Type 0
IsFirstFault h words steps rules fault.Step = StepsHold h steps rules → ⊥
IsFirstFault h words steps rules fault.Rule = StepsHold h steps rules × (RulesHold h steps rules → ⊥)
IsFirstFault h words steps rules fault.Reduced = StepsHold h steps rules × RulesHold h steps rules × (ReducedHolds h rules → ⊥)
IsFirstFault h words steps rules fault.Words = StepsHold h steps rules × RulesHold h steps rules × ReducedHolds h rules × (WordsHold h words rules → ⊥)
IsFirstFault h words steps rules fault.Action =
    StepsHold h steps rules × RulesHold h steps rules × ReducedHolds h rules × WordsHold h words rules × (ActionHolds h words rules → ⊥)

-- a factor from 1 to q − 1 in a step that adds
abbrev pub HasFactor : Header → Step → Type 0
HasFactor h (step.Relation r) = ⊤
HasFactor h (step.Left a j) = ⊤
HasFactor h (step.Right j a) = ⊤
HasFactor h (step.Add j c m) = (0 < c) × (c < order h.field)

-- What is asked of words, steps and rules before the clauses are tried: at most 4,096 words; words and tips are paths of the quiver; tails are
-- combinations of short paths.
pub record IsBasisClaim (h : Header) (words : List Path) (steps : List Step) (rules : List Rule) : Type 0 where
  pub few : length words ≤ 4096
  pub paths : All (IsPath h.quiver) words
  pub factors : All (HasFactor h) steps
  pub tips : All (λ (rule : Rule). IsPath h.quiver rule.tip) rules
  pub tails : All (λ (rule : Rule). AreElementTerms h rule.tail.terms) rules
