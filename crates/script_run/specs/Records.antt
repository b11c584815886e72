-- What is answered to the line `basis`.
use Rattle.std.specs.Prelude.{[], ◌∷◌}
use Rattle.script_types.specs.declared.Script.{Script}
use Rattle.report_types.specs.declared.claims.Record.{Record}
use Rattle.report_types.specs.declared.reports.Report.{Report}
use Rattle.report_types.specs.declared.reports.End.TheVariants.{Done}
use Rattle.report_types.specs.Lawful.{IsRecord}
use Rattle.report_types.specs.Verdicts.{ConditionsHold}
use Rattle.script_answers.specs.Answers.{IsBasisRecord, IsTooMany}
use Rattle.script_run.specs.declared.basis.BasisAnswer.{BasisAnswer}
use Rattle.script_run.specs.declared.basis.BasisAnswer.TheVariants.{Answered, TooMany}

-- the record alone
abbrev pub alone : Script → Record → Report
alone script r = record { header = script.header; records = r ∷ []; end = Done }

-- the record of the basis that the script asks for, of whose claim the conditions hold
pub record IsRightRecord (script : Script) (r : Record) : Type 0 where
  pub answers : IsBasisRecord script r
  pub lawful : IsRecord script.header (r ∷ []) r
  pub conditions : ConditionsHold (alone script r) 1

abbrev pub IsBasisAnswer : Script → BasisAnswer → Type 0
IsBasisAnswer script (Answered r) = IsRightRecord script r
IsBasisAnswer script (TooMany count) = IsTooMany script script.bound_line count
