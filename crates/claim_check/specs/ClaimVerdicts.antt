-- The verdict on one claim of a report, and the table that the claims behind the first are judged over.
use Rattle.std.specs.Prelude.{ℕ, ◌≡◌, ◌≤◌, length}
use Rattle.alg_table.specs.TableView.{TableView, IsTable}
use Rattle.claim_conditions.specs.declared.Clause.{Clause}
use Rattle.claim_conditions.specs.declared.Clause.TheVariants as clause
use Rattle.path_algebra.specs.declared.rules.BasisFault.{BasisFault}
use Rattle.path_algebra.specs.declared.rules.BasisFault.TheVariants as fault
use Rattle.report_types.specs.declared.reports.Report.{Report}
use Rattle.report_types.specs.declared.verdicts.Verdict.{Verdict}
use Rattle.report_types.specs.declared.verdicts.Verdict.TheVariants as verdict
use Rattle.report_types.specs.WordDimensions.{printed_words}
use Rattle.report_types.specs.Verdicts.{ConditionsHold, FailsFirst}

-- the number of a claim of the report
pub record IsClaimNumber (report : Report) (k : ℕ) : Type 0 where
  pub from : 1 ≤ k
  pub to : k ≤ length report.records

-- that of one behind the first
pub record IsLaterClaim (report : Report) (k : ℕ) : Type 0 where
  pub from : 2 ≤ k
  pub to : k ≤ length report.records

-- all conditions on claim k hold; or it is claim k that fails, and this is the first of its conditions that does
abbrev pub IsClaimVerdict : Report → ℕ → Verdict → Type 0
IsClaimVerdict report k verdict.Holds = ConditionsHold report k
IsClaimVerdict report k (verdict.Fails claim which) = (claim ≡ k) × FailsFirst report k which

-- the table of the report's algebra: its first claim meets the conditions, and the words are those of this claim
pub record IsTableOf (report : Report) (table : TableView) : Type 0 where
  pub is : IsTable table.header table.words
  pub header : table.header ≡ report.header
  pub holds : ConditionsHold report 1
  pub words : table.words ≡ printed_words report.records

-- the condition that a fault of a basis names
abbrev pub clause_of : BasisFault → Clause
clause_of fault.Step = clause.Step
clause_of fault.Rule = clause.Rule
clause_of fault.Reduced = clause.Reduced
clause_of fault.Words = clause.Words
clause_of fault.Action = clause.Action
