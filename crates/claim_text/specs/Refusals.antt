-- Why a text was not read.
use Rattle.std.specs.Prelude.{ℕ, List, ⊤}
use Rattle.claim_text.specs.declared.reader.ReadTextError.{ReadTextError}
use Rattle.claim_text.specs.declared.reader.ReadTextError.TheVariants.{BadText, NoMemory}
use Rattle.claim_text.specs.Texts.{IsBadLine}

-- the line that is named is the first bad one; nothing is said of want of memory
abbrev pub IsRefused : List ℕ → ReadTextError → Type 0
IsRefused text (BadText line) = IsBadLine text line
IsRefused text NoMemory = ⊤
