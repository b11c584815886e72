-- Why a text is no script.
use Rattle.std.specs.Prelude.{ℕ, List, ⊤}
use Rattle.script_lang.specs.declared.reader.ParseError.{ParseError}
use Rattle.script_lang.specs.declared.reader.ParseError.TheVariants.{BadText, NoMemory}
use Rattle.script_lang.specs.Scripts.{IsBadLine}

-- the line that is named is the first bad one; nothing is said of want of memory
abbrev pub IsRefused : List ℕ → ParseError → Type 0
IsRefused text (BadText line) = IsBadLine text line
IsRefused text NoMemory = ⊤
