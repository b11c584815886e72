-- Steps that are used: by a rule, or by a later step.
use Rattle.std.specs.Prelude.{ℕ, ◌≡◌, ◌<◌, ◌≤◌, ◌⊎◌, List, [], ◌∷◌, length, slice_index_or, Contains}
use Rattle.path_algebra.specs.declared.rules.Rule.{Rule}
use Rattle.path_algebra.specs.declared.rules.Step.{Step}
use Rattle.path_algebra.specs.declared.rules.Step.TheVariants.{Relation, Left, Right, Add}
use Rattle.path_algebra.specs.Derivations.{IsNumber}

-- the numbers of the steps that a step names
abbrev pub named : Step → List ℕ
named (Relation r) = []
named (Left a j) = j ∷ []
named (Right j a) = j ∷ []
named (Add j c m) = j ∷ m ∷ []

-- the step with this number is that of a rule
pub record IsOfRule (rules : List Rule) (number : ℕ) : Type 0 where
  pub rule : Rule
  pub listed : Contains rules rule
  pub same : rule.step ≡ number

-- a later step names the step with this number; places count from 0, numbers from 1
pub record IsNamedLater (steps : List Step) (number : ℕ) : Type 0 where
  pub place : ℕ
  pub later : number ≤ place
  pub inside : place < length steps
  pub names : (d : Step) → Contains (named (slice_index_or steps place d)) number

-- each step is that of a rule, or a later step names it
pub record HasNoUnusedStep (steps : List Step) (rules : List Rule) : Type 0 where
  pub used : (number : ℕ) → IsNumber (length steps) number → IsOfRule rules number ⊎ IsNamedLater steps number
