-- Conditions that are tried in order, each under its name, and the first of them that fails. In the lists of conditions on claims, `named` is what the
-- numbers of the claim must say: that they name the modules, maps, lengths and claims that belong to it. It is put in where there is a report. Laws over one
-- claim put ⊤ for it, since the proofs hold for any.
use Rattle.std.specs.Prelude.{ℕ, zero, suc, ⊤, ◌≡◌, List, [], ◌∷◌, Option, None, Some}
use Rattle.claim_conditions.specs.declared.Clause.{Clause}

pub record Condition : Type 1 where
  pub name : Clause
  pub holds : Type 0

infixr 40 ◌asks◌
abbrev pub ◌asks◌ : Clause → Type 0 → Condition
name asks holds = record { name = name; holds = holds }

-- All of them hold.
abbrev pub AllHold : List Condition → Type 0
AllHold [] = ⊤
AllHold (c ∷ rest) = c.holds × AllHold rest

-- The one at this place fails, which has this name, and those before it hold.
abbrev pub FailsAt : List Condition → Clause → ℕ → Type 0
FailsAt [] which k = ⊥
FailsAt (c ∷ rest) which zero = (which ≡ c.name) × (c.holds → ⊥)
FailsAt (c ∷ rest) which (suc k) = c.holds × FailsAt rest which k

-- The first of them that fails has this name.
abbrev pub IsFirstFailing : List Condition → Clause → Type 0
IsFirstFailing conditions which = (k : ℕ) × FailsAt conditions which k

-- No condition fails, or this is the name of the first that does.
abbrev pub IsAnswer : List Condition → Option Clause → Type 0
IsAnswer conditions None = AllHold conditions
IsAnswer conditions (Some which) = IsFirstFailing conditions which

-- their names
abbrev pub names : List Condition → List Clause
names [] = []
names (c ∷ rest) = c.name ∷ names rest
