-- How far a run has come.
use Rattle.std.specs.Prelude.{ℕ, ◌≡◌, ◌⊎◌, List}
use Rattle.std.specs.declared.option.Option.{Option}
use Rattle.quiv_io.specs.Bytes.{Takes}
use Rattle.script_types.specs.declared.Script.{Script}
use Rattle.report_types.specs.declared.reports.Report.{Report}
use Rattle.script_run.specs.declared.ends.Halt.{Halt}
use Rattle.script_run.specs.declared.ends.Halt.TheVariants.{WriteFault, NoMemory}
use Rattle.report_types.specs.declared.reports.End.{End}
use Rattle.report_types.specs.declared.reports.End.TheVariants as end
use Rattle.script_run.specs.declared.ends.RunEnd.{RunEnd}
use Rattle.script_run.specs.declared.ends.RunEnd.TheVariants as run
use Rattle.script_run.specs.Runs.{IsRightBeginning, begun_text, TakesFaulty, TakesBegun}

-- since the start of the run the sink took what there is of the report, which is right so far
pub record IsReached (script : Script) (report : Report) (start now : Option (List ℕ)) : Type 0 where
  pub right : IsRightBeginning script report
  pub takes : Takes start (begun_text report) now

-- how a run halts; `old` and `new` are the sink's counts of faults in the last call
abbrev pub IsHalted : Script → Option (List ℕ) → Option (List ℕ) → ℕ → ℕ → Halt → Type 0
IsHalted script start now old new WriteFault = TakesFaulty script start now old new
IsHalted script start now old new NoMemory = (now ≡ start) ⊎ TakesBegun script start now

-- how a run ends with a report that ends so and has so many claims
abbrev pub run_end : End → ℕ → RunEnd
run_end end.Done claims = run.Done claims
run_end (end.Refused line why) claims = run.Refused line why
