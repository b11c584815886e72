-- Reports judged: over the normal words of the header, which are what claim 1 prints wherever it holds. An allowed header has one list of them. So each notion
-- here is on all ways to show that words are they, and for an allowed header there is such a way.
use Rattle.std.specs.Prelude.{ℕ, ◌<◌, List, ◌++◌}
use Rattle.quiver_paths.specs.declared.Path.{Path}
use Rattle.path_algebra.specs.declared.Header.{Header}
use Rattle.path_algebra.specs.Allowed.{IsAllowed}
use Rattle.path_algebra.specs.Words.{AreNormalWords}
use Rattle.bound_algebra.proofs.TwoSidedBasis.{two_sided}
use Rattle.claim_conditions.specs.declared.Clause.{Clause}
use Rattle.claim_conditions.specs.Conditions.{AllHold, IsFirstFailing}
use Rattle.claim_conditions.specs.Modules.{Sides}
use Rattle.report_types.specs.declared.claims.Record.{Record}
use Rattle.report_types.specs.declared.reports.Report.{Report}
use Rattle.report_types.specs.declared.verdicts.Verdict.{Verdict}
use Rattle.report_types.specs.declared.verdicts.Verdict.TheVariants as verdict
use Rattle.report_types.specs.Conditions.{conditions_of}
use Rattle.report_types.specs.Holding.{HoldsOver}

-- the normal words of an allowed header, and the basis of its algebra on both sides that they are
pub record NormalWords (h : Header) : Type 0 where
  pub allowed : IsAllowed h
  pub words : List Path
  pub normal : AreNormalWords h words

abbrev pub sides_by : {h : Header} → NormalWords h → Sides h
sides_by {h} n = two_sided h n.allowed n.words n.normal

-- all conditions on claim k hold; this is the first of them that fails; claim k holds
abbrev pub ConditionsHold : Report → ℕ → Type 0
ConditionsHold report k = (n : NormalWords report.header) → AllHold (conditions_of report (sides_by n) k)

abbrev pub FailsFirst : Report → ℕ → Clause → Type 0
FailsFirst report k which = (n : NormalWords report.header) → IsFirstFailing (conditions_of report (sides_by n) k) which

abbrev pub Holds : Report → ℕ → Type 0
Holds report k = (n : NormalWords report.header) → HoldsOver report (sides_by n) k

-- claim k is the first of which not all conditions hold, and this is the first of them that fails
pub record IsFirstFailure (report : Report) (k : ℕ) (which : Clause) : Type 0 where
  pub before : (j : ℕ) → j < k → ConditionsHold report j
  pub fails : FailsFirst report k which

-- The conditions hold of every claim; else the least claim of which they do not, with the first that fails. A report without claims holds.
abbrev pub IsVerdict : Report → Verdict → Type 0
IsVerdict report verdict.Holds = (k : ℕ) → ConditionsHold report k
IsVerdict report (verdict.Fails k which) = IsFirstFailure report k which

-- the report with more records behind its own
abbrev pub followed_by : Report → List Record → Report
followed_by report more = record { header = report.header; records = report.records ++ more; end = report.end }
