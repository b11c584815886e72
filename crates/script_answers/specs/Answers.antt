-- Reports that answer a script: its statements are taken in order, each with all its records, up to the first that is refused.
use Rattle.std.specs.Prelude.{ℕ, ⊤, ◌≡◌, ◌<◌, ◌≤◌, ◌⊎◌, List, [], ◌∷◌, ◌++◌, Contains}
use Rattle.quiver_paths.specs.PathList.{path_count, saturated}
use Rattle.script_types.specs.declared.Script.{Script}
use Rattle.script_types.specs.declared.Statement.{Statement}
use Rattle.report_types.specs.declared.claims.Claim.{Claim}
use Rattle.report_types.specs.declared.claims.Claim.TheVariants as claim
use Rattle.report_types.specs.declared.claims.Record.{Record}
use Rattle.report_types.specs.declared.reports.Why.{Why}
use Rattle.report_types.specs.declared.reports.Why.TheVariants as why
use Rattle.report_types.specs.declared.reports.End.{End}
use Rattle.report_types.specs.declared.reports.End.TheVariants.{Done, Refused}
use Rattle.report_types.specs.declared.reports.Report.{Report}
use Rattle.report_types.specs.Limits.{path_limit}
use Rattle.script_answers.specs.Names.{Names}
use Rattle.script_answers.specs.Settings.{Setting, setting}
use Rattle.script_answers.specs.Records.{PrintsNothing}
use Rattle.script_answers.specs.Statements.{binds}
use Rattle.script_answers.specs.Taken.{IsTaken, IsRefused}

-- ---- the basis

-- at most the limit of paths are shorter than the bound
abbrev pub HasFewPaths : Script → Type 0
HasFewPaths script = path_count script.header.quiver script.header.bound ≤ path_limit

abbrev pub ClaimsBasis : Claim → Type 0
ClaimsBasis (claim.Basis words steps rules) = ⊤
ClaimsBasis c = ⊥

-- the record that `basis` asks for
pub record IsBasisRecord (script : Script) (r : Record) : Type 0 where
  pub few : HasFewPaths script
  pub line : r.line ≡ script.basis_line
  pub prints : PrintsNothing r
  pub claims : ClaimsBasis r.claim

-- too many paths are shorter than the bound: refused at its line, with their number as far as 64 bits count
pub record IsTooMany (script : Script) (line count : ℕ) : Type 0 where
  pub many : path_limit < path_count script.header.quiver script.header.bound
  pub place : line ≡ script.bound_line
  pub number : count ≡ saturated (path_count script.header.quiver script.header.bound)

-- ---- the statements

-- between two statements: the names bound, the records printed, and the statements left
pub record Stage : Type 0 where
  pub names : Names
  pub records : List Record
  pub left : List Statement

abbrev pub setting_at : Script → Stage → Setting
setting_at script stage = setting script stage.names stage.records

-- behind a statement with these records
abbrev pub behind : Script → Stage → Statement → List Statement → List Record → Stage
behind script stage s left taken = record {
  names = stage.names ++ binds (setting_at script stage) s.kind taken;
  records = stage.records ++ taken;
  left = left;
}

-- Work on the script can lead to this stage: `basis` was taken, and then some statements, one after another.
pub data Makes (script : Script) : Stage → Type 0 where
  begun : (r : Record) → IsBasisRecord script r → Makes script record { names = []; records = r ∷ []; left = script.statements }
  next : (stage : Stage) (s : Statement) (left : List Statement) (taken : List Record) → Makes script stage → stage.left ≡ s ∷ left
      → IsTaken (setting_at script stage) s taken → Makes script (behind script stage s left taken)

-- The first statement that is left is refused, at its line, for this, behind these records.
pub record RefusesNext (script : Script) (stage : Stage) (shown : List Record) (line : ℕ) (w : Why) : Type 0 where
  pub statement : Statement
  pub rest : List Statement
  pub first : stage.left ≡ statement ∷ rest
  pub place : line ≡ statement.line
  pub refused : IsRefused (setting_at script stage) statement shown w

-- ---- reports

-- Done where no statement is left; else the first that is left is refused behind these last records.
abbrev pub Ends : Script → Stage → List Record → End → Type 0
Ends script stage last Done = (stage.left ≡ []) × (last ≡ [])
Ends script stage last (Refused line w) = RefusesNext script stage last line w

-- before the basis: refused for too many paths
abbrev pub EndsAtBasis : Script → End → Type 0
EndsAtBasis script (Refused line (why.PathLimit count)) = IsTooMany script line count
EndsAtBasis script e = ⊥

-- these records, and this end: the records of a stage and the last ones, or none
pub record IsWhole (script : Script) (records : List Record) (e : End) : Type 0 where
  pub stage : Stage
  pub makes : Makes script stage
  pub last : List Record
  pub all : records ≡ stage.records ++ last
  pub ends : Ends script stage last e

abbrev pub AreAnswers : Script → List Record → End → Type 0
AreAnswers script records e = ((records ≡ []) × EndsAtBasis script e) ⊎ IsWhole script records e

-- the report answers the script
pub record AnswersScript (script : Script) (report : Report) : Type 0 where
  pub header : report.header ≡ script.header
  pub answers : AreAnswers script report.records report.end

-- ---- where the work stops

-- records of the statement that comes next: all of them, or those that show its refusal
pub data IsNext (script : Script) (stage : Stage) (records : List Record) : Type 0 where
  taken : (s : Statement) (left : List Statement) → stage.left ≡ s ∷ left → IsTaken (setting_at script stage) s records → IsNext script stage records
  refused : (line : ℕ) (w : Why) → RefusesNext script stage records line w → IsNext script stage records

-- none, or a front of such records
abbrev pub IsPartOfNext : Script → Stage → (part rest : List Record) → Type 0
IsPartOfNext script stage part rest = ((part ≡ []) × (rest ≡ [])) ⊎ IsNext script stage (part ++ rest)

-- the records of a stage, and some of those behind it
pub record HasBegun (script : Script) (records : List Record) : Type 0 where
  pub stage : Stage
  pub makes : Makes script stage
  pub part : List Record
  pub rest : List Record
  pub next : IsPartOfNext script stage part rest
  pub all : records ≡ stage.records ++ part

-- The records may stand where the work on the script stops anywhere.
abbrev pub BeginsToAnswer : Script → List Record → Type 0
BeginsToAnswer script records = (records ≡ []) ⊎ HasBegun script records

-- ---- refusals

-- Over these records no statement of the script meets a refusal.
abbrev pub IsUnrefused : Script → List Record → Type 0
IsUnrefused script records = (stage : Stage) (shown rest : List Record) (line : ℕ) (w : Why) → Makes script stage → records ≡ stage.records ++ (shown ++ rest)
    → RefusesNext script stage shown line w → ⊥

-- A statement of the script, that of this line, is refused for this, where work on the script has come to it.
pub record RefusesStatement (script : Script) (line : ℕ) (w : Why) : Type 0 where
  pub stage : Stage
  pub makes : Makes script stage
  pub shown : List Record
  pub refuses : RefusesNext script stage shown line w
  pub listed : Contains script.statements refuses.statement
