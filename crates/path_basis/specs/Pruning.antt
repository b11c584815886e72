-- The steps of a derivation that are kept: those that are marked, with new numbers.
use Rattle.std.specs.Prelude.{ℕ, ◌≡◌, ◌<◌, ◌≤◌, ◌-◌, ◌⊎◌, Bool, true, false, List, [], ◌∷◌, length, map, slice_index_or, slice_set, Contains, All}
use Rattle.path_algebra.specs.declared.rules.Rule.{Rule}
use Rattle.path_algebra.specs.declared.rules.Step.{Step}
use Rattle.path_algebra.specs.declared.rules.Step.TheVariants.{Relation, Left, Right, Add}
use Rattle.path_algebra.specs.Derivations.{IsNumber}
use Rattle.path_basis.specs.Used.{named, IsOfRule}

-- each step names steps that stand before it
pub record AreOrdered (steps : List Step) : Type 0 where
  pub earlier : (k : ℕ) (d : Step) → k < length steps → All (IsNumber k) (named (slice_index_or steps k d))

-- ---- marks

-- the step with this number is marked
abbrev pub IsMarked : List Bool → ℕ → Type 0
IsMarked marks number = slice_index_or marks (number - 1) false ≡ true

-- the marks, and one for each of these numbers
abbrev pub mark_all : List ℕ → List Bool → List Bool
mark_all [] marks = marks
mark_all (n ∷ numbers) marks = mark_all numbers (slice_set marks (n - 1) true)

-- a later step that is marked names the step with this number
pub record IsNamedByMarked (steps : List Step) (marks : List Bool) (number : ℕ) : Type 0 where
  pub place : ℕ
  pub later : number ≤ place
  pub inside : place < length steps
  pub marked : slice_index_or marks place false ≡ true
  pub names : (d : Step) → Contains (named (slice_index_or steps place d)) number

-- The steps of the rules are marked, and what the marked steps from this place on name. Only the steps of rules are, and what marked steps name.
pub record AreMarked (steps : List Step) (rules : List Rule) (marks : List Bool) (from : ℕ) : Type 0 where
  pub count : length marks ≡ length steps
  pub of_rules : All (λ (rule : Rule). IsMarked marks rule.step) rules
  pub closed : (k : ℕ) (d : Step) → from ≤ k → k < length steps → slice_index_or marks k false ≡ true → All (IsMarked marks) (named (slice_index_or steps k d))
  pub only : (number : ℕ) → 1 ≤ number → IsMarked marks number → IsOfRule rules number ⊎ IsNamedByMarked steps marks number

-- ---- new numbers

-- the new number of the step with this number
abbrev pub new_number : List ℕ → ℕ → ℕ
new_number numbers number = slice_index_or numbers (number - 1) 0

-- the step that names the new numbers
abbrev pub renumbered : List ℕ → Step → Step
renumbered numbers (Relation r) = Relation r
renumbered numbers (Left a j) = Left a (new_number numbers j)
renumbered numbers (Right j a) = Right (new_number numbers j) a
renumbered numbers (Add j c m) = Add (new_number numbers j) c (new_number numbers m)

-- the rule with the new number of its step
abbrev pub with_new_number : List ℕ → Rule → Rule
with_new_number numbers rule = record { tip = rule.tip; tail = rule.tail; step = new_number numbers rule.step }

-- the new rules have the tips and the tails of the old ones, and other steps
pub record AreRenumbered (old new : List Rule) : Type 0 where
  pub numbers : List ℕ
  pub whole : new ≡ map (with_new_number numbers) old

-- the kept step with this number stood at this place
pub record HasOldPlace (marks : List Bool) (numbers : List ℕ) (number : ℕ) : Type 0 where
  pub place : ℕ
  pub inside : place < length numbers
  pub marked : slice_index_or marks place false ≡ true
  pub same : slice_index_or numbers place 0 ≡ number

-- Of the first steps, as many as there are numbers, the marked ones are kept in their order and with these new numbers.
pub record IsKept (steps : List Step) (marks : List Bool) (kept : List Step) (numbers : List ℕ) : Type 0 where
  pub few : length kept ≤ length numbers
  pub within : (k : ℕ) → slice_index_or numbers k 0 ≤ length kept
  pub from_one : (k : ℕ) → k < length numbers → slice_index_or marks k false ≡ true → 1 ≤ slice_index_or numbers k 0
  pub ascending : (i k : ℕ) → i < k → k < length numbers → slice_index_or marks k false ≡ true → slice_index_or numbers i 0 < slice_index_or numbers k 0
  pub same : (k : ℕ) (d : Step) → k < length numbers → slice_index_or marks k false ≡ true → slice_index_or kept (slice_index_or numbers k 0 - 1) d ≡ renumbered numbers (slice_index_or steps k d)
  pub all : (number : ℕ) → IsNumber (length kept) number → HasOldPlace marks numbers number
