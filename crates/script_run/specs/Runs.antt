-- What a run of a script writes, and how it ends.
use Rattle.std.specs.Prelude.{ℕ, ◌≡◌, ◌<◌, ◌^◌, ◌⊎◌, List, ◌++◌, length, take}
use Rattle.std.specs.declared.option.Option.{Option}
use Rattle.quiv_io.specs.Bytes.{Takes, TakesFront}
use Rattle.quiv_io.specs.Counts.{Rose}
use Rattle.path_algebra.specs.declared.Header.{Header}
use Rattle.path_algebra.specs.Allowed.{IsAllowed}
use Rattle.script_types.specs.declared.Script.{Script}
use Rattle.report_types.specs.declared.claims.Record.{Record}
use Rattle.report_types.specs.declared.reports.End.{End}
use Rattle.report_types.specs.declared.reports.End.TheVariants as end
use Rattle.report_types.specs.declared.reports.Report.{Report}
use Rattle.report_types.specs.Numbers.{modules_of, maps_of, record_of}
use Rattle.report_types.specs.Lawful.{IsReport, MayBeRecord}
use Rattle.report_types.specs.Verdicts.{Holds, ConditionsHold}
use Rattle.script_answers.specs.Answers.{AnswersScript, BeginsToAnswer}
use Rattle.claim_text.specs.Spelling.{front_text, records_text, report_text}
use Rattle.script_run.specs.declared.ends.RunEnd.{RunEnd}
use Rattle.script_run.specs.declared.ends.RunEnd.TheVariants.{Done, Refused, WriteFault, NoMemory}

-- a report that answers the script; the conditions hold of each of its claims, and each claim holds
pub record IsRightReport (script : Script) (report : Report) : Type 0 where
  pub lawful : IsReport report
  pub answers : AnswersScript script report
  pub conditions : (k : ℕ) → ConditionsHold report k
  pub hold : (k : ℕ) → Holds report k

-- the records have the numbers and shapes of those of a report
pub record AreRecords (h : Header) (records : List Record) : Type 0 where
  pub few : length records < 2 ^ 32
  pub few_modules : length (modules_of records) < 2 ^ 32
  pub few_maps : length (maps_of records) < 2 ^ 32
  pub each : (k : ℕ) → MayBeRecord h (take k records) (record_of records k)

-- the same of a report that has begun to answer the script and may stop anywhere: nothing is said of its end
pub record IsRightBeginning (script : Script) (report : Report) : Type 0 where
  pub header : report.header ≡ script.header
  pub allowed : IsAllowed report.header
  pub lawful : AreRecords report.header report.records
  pub begins : BeginsToAnswer script report.records
  pub conditions : (k : ℕ) → ConditionsHold report k
  pub hold : (k : ℕ) → Holds report k

-- a report without its last line
abbrev pub begun_text : Report → List ℕ
begun_text report = front_text report ++ records_text report.header 0 0 0 report.records

-- the text is a right report, whole
pub record IsWholeText (script : Script) (text : List ℕ) : Type 0 where
  pub report : Report
  pub right : IsRightReport script report
  pub spelled : text ≡ report_text report

-- the text is what a right report begins with, up to the end of a record or of the header
pub record IsBegunText (script : Script) (text : List ℕ) : Type 0 where
  pub report : Report
  pub right : IsRightBeginning script report
  pub spelled : text ≡ begun_text report

-- a right report with so many claims and this end was taken whole
pub record TakesReport (script : Script) (last : End) (before after : Option (List ℕ)) : Type 0 where
  pub report : Report
  pub right : IsRightReport script report
  pub ends : report.end ≡ last
  pub takes : Takes before (report_text report) after

-- all statements were done; the report has so many claims
pub record TakesDone (script : Script) (claims : ℕ) (before after : Option (List ℕ)) : Type 0 where
  pub whole : TakesReport script end.Done before after
  pub count : length whole.report.records ≡ claims

-- a fault was counted, and a front of a report, or of the beginning of one, was taken
pub record TakesFaulty (script : Script) (before after : Option (List ℕ)) (old new : ℕ) : Type 0 where
  pub rose : Rose old new
  pub text : List ℕ
  pub written : IsWholeText script text ⊎ IsBegunText script text
  pub front : TakesFront before text after

-- the beginning of a report was taken, whole records
pub record TakesBegun (script : Script) (before after : Option (List ℕ)) : Type 0 where
  pub text : List ℕ
  pub begun : IsBegunText script text
  pub takes : Takes before text after

-- What a sink took in a run that ended so. `before` and `after` are what it had taken, `old` and `new` its counts of faults. Want of memory comes
-- before the first piece or behind one.
abbrev pub RunsTo : Script → RunEnd → Option (List ℕ) → Option (List ℕ) → ℕ → ℕ → Type 0
RunsTo script (Done claims) before after old new = TakesDone script claims before after
RunsTo script (Refused line why) before after old new = TakesReport script (end.Refused line why) before after
RunsTo script WriteFault before after old new = TakesFaulty script before after old new
RunsTo script NoMemory before after old new = (after ≡ before) ⊎ TakesBegun script before after
