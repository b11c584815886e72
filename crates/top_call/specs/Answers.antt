-- What each mode answers to an input that was read to its end: an outcome and a text.
use Rattle.std.specs.Prelude.{ℕ, ◌≡◌, List, length}
use Rattle.script_types.specs.declared.Script.{Script}
use Rattle.script_lang.specs.Scripts.{IsScript, IsBadLine as IsBadScriptLine}
use Rattle.report_types.specs.declared.reports.End.{End}
use Rattle.report_types.specs.declared.reports.End.TheVariants as end
use Rattle.report_types.specs.declared.reports.Report.{Report}
use Rattle.claim_conditions.specs.declared.Clause.{Clause}
use Rattle.report_types.specs.declared.verdicts.Verdict.TheVariants as verdict
use Rattle.report_types.specs.Verdicts.{Holds, IsVerdict}
use Rattle.claim_text.specs.Spelling.{report_text}
use Rattle.claim_text.specs.Texts.{IsTextOf, IsBadLine as IsBadReportLine}
use Rattle.script_run.specs.Runs.{IsRightReport, IsBegunText}
use Rattle.top_call.specs.declared.outcome.Outcome.{Outcome}
use Rattle.top_call.specs.declared.outcome.Outcome.TheVariants.{Done, Refused, Rejected, BadText, TooLong, Usage, ReadFault, WriteFault, NoMemory}
use Rattle.top_call.specs.declared.modes.Mode.{Mode}
use Rattle.top_call.specs.declared.modes.Mode.TheVariants.{Run, Check}
use Rattle.top_call.specs.Texts.{holds_text, rejected_text, bad_text}

-- The input is a script, and the text the report on it, with this end. The report answers the script, and each of its claims holds; so do the
-- conditions by which it is checked.
pub record Reports (last : End) (input text : List ℕ) : Type 0 where
  pub script : Script
  pub reads : IsScript input script
  pub report : Report
  pub right : IsRightReport script report
  pub ends : report.end ≡ last
  pub spelled : text ≡ report_text report

-- the input is no script; this is the first line that the language refuses
pub record RefusesScript (line : ℕ) (input text : List ℕ) : Type 0 where
  pub bad : IsBadScriptLine input line
  pub written : text ≡ bad_text line

-- the input is a report of which all conditions hold, and all its claims hold
pub record Accepts (input text : List ℕ) : Type 0 where
  pub report : Report
  pub reads : IsTextOf input report
  pub verdict_is : IsVerdict report verdict.Holds
  pub hold : (k : ℕ) → Holds report k
  pub written : text ≡ holds_text (length report.records)

-- the input is a report of which this claim is the first that fails, and this the first of its conditions that does
pub record Rejects (claim : ℕ) (which : Clause) (input text : List ℕ) : Type 0 where
  pub report : Report
  pub reads : IsTextOf input report
  pub verdict_is : IsVerdict report (verdict.Fails claim which)
  pub written : text ≡ rejected_text claim which

-- the input is no report; this is the first line that the format refuses
pub record RefusesReport (line : ℕ) (input text : List ℕ) : Type 0 where
  pub bad : IsBadReportLine input line
  pub written : text ≡ bad_text line

abbrev pub RunAnswers : Outcome → List ℕ → List ℕ → Type 0
RunAnswers Done input text = Reports end.Done input text
RunAnswers (Refused line why) input text = Reports (end.Refused line why) input text
RunAnswers (Rejected claim which) input text = ⊥
RunAnswers (BadText line) input text = RefusesScript line input text
RunAnswers TooLong input text = ⊥
RunAnswers Usage input text = ⊥
RunAnswers ReadFault input text = ⊥
RunAnswers WriteFault input text = ⊥
RunAnswers NoMemory input text = ⊥

abbrev pub CheckAnswers : Outcome → List ℕ → List ℕ → Type 0
CheckAnswers Done input text = Accepts input text
CheckAnswers (Refused line why) input text = ⊥
CheckAnswers (Rejected claim which) input text = Rejects claim which input text
CheckAnswers (BadText line) input text = RefusesReport line input text
CheckAnswers TooLong input text = ⊥
CheckAnswers Usage input text = ⊥
CheckAnswers ReadFault input text = ⊥
CheckAnswers WriteFault input text = ⊥
CheckAnswers NoMemory input text = ⊥

abbrev pub Answers : Mode → Outcome → List ℕ → List ℕ → Type 0
Answers Run outcome input text = RunAnswers outcome input text
Answers Check outcome input text = CheckAnswers outcome input text

-- the text is what the report on the script begins with, up to the end of a record or of the header
pub record BeginsReport (input text : List ℕ) : Type 0 where
  pub script : Script
  pub reads : IsScript input script
  pub begun : IsBegunText script text

-- what may stand where the work stops between two pieces; `check` writes one piece
abbrev pub Begins : Mode → List ℕ → List ℕ → Type 0
Begins Run input text = BeginsReport input text
Begins Check input text = ⊥
