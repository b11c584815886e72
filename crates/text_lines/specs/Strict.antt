-- Lines in the strict form: tokens separated by single spaces, nothing at the line's ends, one line feed behind them.
use Rattle.std.specs.Prelude.{ℕ, ◌-◌, List, length, take, slice_index, ◌==◌, if◌then◌else◌, Some, None}
use Rattle.std.specs.declared.option.Option.{Option}
use Rattle.text_lines.specs.Parts.{tokens, spaced}
use Rattle.text_lines.specs.Lines.{ended}

-- the line of these tokens in the strict form
abbrev pub strict_line : List (List ℕ) → List ℕ
strict_line pieces = ended (spaced pieces)

-- the tokens of a line in the strict form, which has to end with its line feed
abbrev pub strict_tokens : List ℕ → Option (List (List ℕ))
strict_tokens line = if slice_index line (length line - 1) == 10 then Some (tokens (take (length line - 1) line)) else None
