-- Scripts as texts, line by line.
use Rattle.std.specs.Prelude.{ℕ, ◌≡◌, ◌+◌, ◌-◌, ◌^◌, min, List, [], ◌∷◌, Some}
use Rattle.linear_algebra.specs.Field.{f2}
use Rattle.text_lines.specs.Lines.{lines}
use Rattle.text_lines.specs.Script.{script_tokens}
use Rattle.text_lines.specs.Reading.{ReadsWhole, IsFirstBad}
use Rattle.script_types.specs.declared.Script.{Script}
use Rattle.script_lang.specs.declared.line.Line.{Line}
use Rattle.script_lang.specs.declared.part.Part.{Part}
use Rattle.script_lang.specs.declared.part.Place.TheVariants.{Start, Body}
use Rattle.script_lang.specs.Lines.{line_in}
use Rattle.script_lang.specs.Parts.{MayFollow, after}

-- one line more has been read; no script has more than 2^32 − 1 lines
abbrev pub counted : Part → Part
counted p = record p { lines = min (p.lines + 1) (2 ^ 32 - 1) }

-- the line of this first token and these arguments may follow the part, and leads to the next
pub record LineStep (p : Part) (word : List ℕ) (args : List (List ℕ)) (next : Part) : Type 0 where
  pub line : Line
  pub reads : line_in p.header word args ≡ Some line
  pub follows : MayFollow (counted p) line
  pub leads : next ≡ after (counted p) line

-- a line without tokens is skipped and counted
abbrev pub TokenStep : Part → List (List ℕ) → Part → Type 0
TokenStep p [] next = next ≡ counted p
TokenStep p (word ∷ args) next = LineStep p word args next

-- the line leads from a part to the next
pub record Step (p : Part) (line : List ℕ) (next : Part) : Type 0 where
  pub tokens : List (List ℕ)
  pub lexed : script_tokens line ≡ Some tokens
  pub step : TokenStep p tokens next

-- a script may end among its statements
abbrev pub MayEnd : Part → Type 0
MayEnd p = p.place ≡ Body

-- before the first line
abbrev pub start : Part
start = record {
  place = Start;
  header = record { field = f2; quiver = record { vertices = []; arrows = [] }; bound = 0; relations = [] };
  bound_line = 0;
  basis_line = 0;
  statements = [];
  lines = 0;
}

abbrev pub script_of : Part → Script
script_of p = record { header = p.header; bound_line = p.bound_line; basis_line = p.basis_line; statements = p.statements }

-- the text reads as this script
pub record IsScript (text : List ℕ) (script : Script) : Type 0 where
  pub last : Part
  pub reads : ReadsWhole Step MayEnd start (lines text) last
  pub says : script ≡ script_of last

-- line k, counted from 1, is the first bad line of the text
abbrev pub IsBadLine : List ℕ → ℕ → Type 0
IsBadLine text k = IsFirstBad Step MayEnd start (lines text) k
