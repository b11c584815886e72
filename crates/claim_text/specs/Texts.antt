-- Reports as texts.
use Rattle.std.specs.Prelude.{ℕ, ◌≡◌, List}
use Rattle.text_lines.specs.Lines.{lines}
use Rattle.text_lines.specs.Reading.{IsFirstBad}
use Rattle.report_types.specs.declared.reports.Report.{Report}
use Rattle.report_types.specs.Lawful.{IsReport}
use Rattle.claim_text.specs.Spelling.{report_text}
use Rattle.claim_text.specs.Part.{start}
use Rattle.claim_text.specs.Steps.{Step, MayEnd}

-- the text is the spelling of this report
pub record IsTextOf (text : List ℕ) (report : Report) : Type 0 where
  pub report_is : IsReport report
  pub spelled : text ≡ report_text report

-- Line k, counted from 1, is the first bad line of the text: it may not follow the lines before it. Where the text ends too
-- early, k is the number of its lines plus one.
abbrev pub IsBadLine : List ℕ → ℕ → Type 0
IsBadLine text k = IsFirstBad Step MayEnd start (lines text) k
