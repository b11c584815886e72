-- Runs of claims that follow each other, and the verdicts on them.
use Rattle.std.specs.Prelude.{ℕ, ◌≡◌, ◌<◌, ◌≤◌, List, [], ◌∷◌, length}
use Rattle.claim_conditions.specs.declared.Clause.{Clause}
use Rattle.report_types.specs.declared.reports.Report.{Report}
use Rattle.report_types.specs.declared.verdicts.Verdict.{Verdict}
use Rattle.report_types.specs.declared.verdicts.Verdict.TheVariants as verdict
use Rattle.report_types.specs.Verdicts.{ConditionsHold, FailsFirst}
use Rattle.claim_check.specs.declared.runs.Run.{Run}
use Rattle.claim_check.specs.Room.{HasRoom}

-- the claims behind i up to k stand behind the first one, and are there
pub record AreClaims (report : Report) (i k : ℕ) : Type 0 where
  pub from : 1 ≤ i
  pub ordered : i ≤ k
  pub there : k ≤ length report.records

-- a run that has room for its claims
pub record IsRun (report : Report) (run : Run) : Type 0 where
  pub claims : AreClaims report run.behind run.last
  pub room : HasRoom report.records run.scratch.bytes.items run.scratch.numbers.items

-- the runs have the claims behind i up to k, each those that follow the run before
abbrev pub AreRuns : Report → (i k : ℕ) → List Run → Type 0
AreRuns report i k [] = i ≡ k
AreRuns report i k (run ∷ rest) = (run.behind ≡ i) × IsRun report run × AreRuns report run.last k rest

-- of the claims behind i this is the first of which not all conditions hold, and this is the first of them that fails
pub record IsFirstBehind (report : Report) (i k : ℕ) (which : Clause) : Type 0 where
  pub behind : i < k
  pub before : (j : ℕ) → i < j → j < k → ConditionsHold report j
  pub fails : FailsFirst report k which

-- the verdict on the claims behind i up to k
abbrev pub IsRunVerdict : Report → (i k : ℕ) → Verdict → Type 0
IsRunVerdict report i k verdict.Holds = (j : ℕ) → i < j → j ≤ k → ConditionsHold report j
IsRunVerdict report i k (verdict.Fails claim which) = IsFirstBehind report i claim which

-- the first verdict of a failure
abbrev pub first_failure : List Verdict → Verdict
first_failure [] = verdict.Holds
first_failure (verdict.Holds ∷ rest) = first_failure rest
first_failure (verdict.Fails claim which ∷ rest) = verdict.Fails claim which
