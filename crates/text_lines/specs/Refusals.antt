-- Why a text was not read.
use Rattle.std.specs.Prelude.{ℕ, List, ⊤}
use Rattle.text_lines.specs.Reading.{IsFirstBad}
use Rattle.text_lines.specs.declared.reading.TextError.{TextError}
use Rattle.text_lines.specs.declared.reading.TextError.TheVariants.{BadLine, NoMemory}

-- the line that is named is the first bad one; nothing is said of want of memory
abbrev pub IsRefused : {Part : Type 0} → (Part → List ℕ → Part → Type 0) → (Part → Type 0) → Part → List (List ℕ) → TextError → Type 0
IsRefused Step MayEnd first text (BadLine line) = IsFirstBad Step MayEnd first text line
IsRefused Step MayEnd first text NoMemory = ⊤
