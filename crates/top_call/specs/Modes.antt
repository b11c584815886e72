-- What the words behind the program's name ask for.
use Rattle.std.specs.Prelude.{ℕ, ◌≡◌, ◌≤◌, ◌⊎◌, List, [], ◌∷◌, codes, decimal}
use Rattle.top_call.specs.declared.modes.Mode.{Mode}
use Rattle.top_call.specs.declared.modes.Mode.TheVariants.{Run, Check}

abbrev pub mode_name : Mode → List ℕ
mode_name Run = codes "run"
mode_name Check = codes "check"

-- two words that say how many workers there may be
pub record NameWorkers (option number : List ℕ) (k : ℕ) : Type 0 where
  pub named : option ≡ codes "--workers"
  pub written : number ≡ decimal k
  pub from : 1 ≤ k
  pub to : k ≤ 16

-- these words, around the name of the mode
pub record NameBoth (option number name : List ℕ) (mode : Mode) (k : ℕ) : Type 0 where
  pub workers : NameWorkers option number k
  pub mode_is : name ≡ mode_name mode

-- The name of the mode alone asks for one worker. The words for another number stand before or behind it.
abbrev pub AsksWith : List (List ℕ) → Mode → ℕ → Type 0
AsksWith [] mode k = ⊥
AsksWith (name ∷ []) mode k = (name ≡ mode_name mode) × (k ≡ 1)
AsksWith (a ∷ b ∷ []) mode k = ⊥
AsksWith (a ∷ b ∷ c ∷ []) mode k = NameBoth b c a mode k ⊎ NameBoth a b c mode k
AsksWith (a ∷ b ∷ c ∷ d ∷ more) mode k = ⊥

-- for the mode, with some number of workers
pub record AsksFor (words : List (List ℕ)) (mode : Mode) : Type 0 where
  pub workers : ℕ
  pub asks : AsksWith words mode workers

-- the most bytes that are read: of a script, and of a report
abbrev pub input_limit : Mode → ℕ
input_limit Run = 4194304
input_limit Check = 67108864
