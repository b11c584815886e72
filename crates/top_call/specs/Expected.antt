-- Inputs with which a run of the program ends well where no fault is counted and memory is there.
use Rattle.std.specs.Prelude.{ℕ, ⊤, ◌≡◌, ◌⊎◌, List, []}
use Rattle.std.specs.declared.option.Option.{Option}
use Rattle.quiv_io.specs.Bytes.{Takes}
use Rattle.script_types.specs.declared.Script.{Script}
use Rattle.script_lang.specs.Scripts.{IsScript}
use Rattle.report_types.specs.declared.reports.Report.{Report}
use Rattle.report_types.specs.declared.reports.Why.{Why}
use Rattle.report_types.specs.declared.reports.End.TheVariants as end
use Rattle.report_types.specs.Verdicts.{ConditionsHold}
use Rattle.claim_text.specs.Texts.{IsTextOf}
use Rattle.script_answers.specs.Answers.{IsUnrefused}
use Rattle.claim_text.specs.Spelling.{report_text}
use Rattle.script_run.specs.Runs.{IsRightReport, IsRightBeginning, begun_text}
use Rattle.top_call.specs.declared.outcome.Outcome.{Outcome}
use Rattle.top_call.specs.declared.outcome.Outcome.TheVariants.{Done, Refused, Rejected, BadText, TooLong, Usage, ReadFault, WriteFault, NoMemory}
use Rattle.top_call.specs.declared.modes.Mode.{Mode}
use Rattle.top_call.specs.declared.modes.Mode.TheVariants.{Run, Check}

-- the input is a script of which nothing is refused: no right report on it ends in a refusal
pub record IsScriptWithoutRefusal (input : List ℕ) : Type 0 where
  pub script : Script
  pub reads : IsScript input script
  pub never : (report : Report) (line : ℕ) (why : Why) → IsRightReport script report → report.end ≡ end.Refused line why → ⊥

-- the input is a report, and the conditions hold of each of its claims
pub record IsReportThatHolds (input : List ℕ) : Type 0 where
  pub report : Report
  pub reads : IsTextOf input report
  pub conditions : (k : ℕ) → ConditionsHold report k

abbrev pub IsGood : Mode → List ℕ → Type 0
IsGood Run input = IsScriptWithoutRefusal input
IsGood Check input = IsReportThatHolds input

abbrev pub IsDoneOrNoMemory : Outcome → Type 0
IsDoneOrNoMemory Done = ⊤
IsDoneOrNoMemory (Refused line why) = ⊥
IsDoneOrNoMemory (Rejected claim which) = ⊥
IsDoneOrNoMemory (BadText line) = ⊥
IsDoneOrNoMemory TooLong = ⊥
IsDoneOrNoMemory Usage = ⊥
IsDoneOrNoMemory ReadFault = ⊥
IsDoneOrNoMemory WriteFault = ⊥
IsDoneOrNoMemory NoMemory = ⊤

-- ---- the records that were made in a call

-- What the sink took of these records: with the last line where the run came to its end; at the front of them where there was no memory, nothing or the
-- header and all of them.
abbrev pub TakesMade : Report → Outcome → Option (List ℕ) → Option (List ℕ) → Type 0
TakesMade report Done before after = (report.end ≡ end.Done) × Takes before (report_text report) after
TakesMade report (Refused line why) before after = (report.end ≡ end.Refused line why) × Takes before (report_text report) after
TakesMade report (Rejected claim which) before after = ⊥
TakesMade report (BadText line) before after = ⊥
TakesMade report TooLong before after = ⊥
TakesMade report Usage before after = ⊥
TakesMade report ReadFault before after = ⊥
TakesMade report WriteFault before after = ⊥
TakesMade report NoMemory before after = ((after ≡ before) × (report.records ≡ [])) ⊎ Takes before (begun_text report) after

-- The records that were made in a run of the script: they have begun to answer it, their conditions hold, and the sink took their text. Where over them no
-- statement meets a refusal, the outcome is Done or NoMemory.
pub record RunsWhole (script : Script) (outcome : Outcome) (before after : Option (List ℕ)) : Type 0 where
  pub report : Report
  pub right : IsRightBeginning script report
  pub takes : TakesMade report outcome before after
  pub complete : IsUnrefused script report.records → IsDoneOrNoMemory outcome
