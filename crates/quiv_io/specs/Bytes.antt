-- What a call does to the bytes that a source has left and to those that a sink has taken. Either may keep them
-- to itself, which is None.
use Rattle.std.specs.Prelude.{◌≡◌, ℕ, List, [], ◌++◌, ⊤, None, Some}
use Rattle.std.specs.declared.option.Option.{Option}

-- a source gave these bytes: those left before are these and then those left after; whether it tells them never changes
abbrev pub Gives : Option (List ℕ) → List ℕ → Option (List ℕ) → Type 0
Gives None given None = ⊤
Gives None given (Some after) = ⊥
Gives (Some before) given None = ⊥
Gives (Some before) given (Some after) = before ≡ given ++ after

-- no byte is left
abbrev pub IsAtEnd : Option (List ℕ) → Type 0
IsAtEnd None = ⊤
IsAtEnd (Some left) = left ≡ []

-- a sink took these bytes, behind those taken before; one that tells them after a call told them before it
abbrev pub Takes : Option (List ℕ) → List ℕ → Option (List ℕ) → Type 0
Takes before given None = ⊤
Takes None given (Some after) = ⊥
Takes (Some before) given (Some after) = after ≡ before ++ given

-- a sink took some front of the text
pub record TakesFront (before : Option (List ℕ)) (text : List ℕ) (after : Option (List ℕ)) : Type 0 where
  pub front : List ℕ
  pub rest : List ℕ
  pub split : text ≡ front ++ rest
  pub takes : Takes before front after
