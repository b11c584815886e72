-- A statement that is taken with its records, and one that is refused behind those that show it.
use Rattle.std.specs.Prelude.{ℕ, ◌≡◌, List, [], ◌++◌, All, Some, None}
use Rattle.script_types.specs.declared.Statement.{Statement}
use Rattle.report_types.specs.declared.claims.Record.{Record}
use Rattle.report_types.specs.declared.reports.Why.{Why}
use Rattle.script_answers.specs.Settings.{Setting}
use Rattle.script_answers.specs.Refusals.{refusal}
use Rattle.script_answers.specs.Statements.{Takes}
use Rattle.script_answers.specs.LateRefusals.{Shows}

-- the records have the line of the statement
abbrev pub AtLine : ℕ → Record → Type 0
AtLine line r = r.line ≡ line

-- The statement meets no refusal, neither before its records nor behind some of them, and these are its records.
pub record IsTaken (at : Setting) (s : Statement) (records : List Record) : Type 0 where
  pub free : refusal at s.kind ≡ None
  pub lines : All (AtLine s.line) records
  pub takes : Takes at s.kind records
  pub unshown : (shown rest : List Record) (w : Why) → records ≡ shown ++ rest → Shows at s.kind shown w → ⊥

-- The statement is refused for this: at once, or behind records that show it.
pub data IsRefused (at : Setting) (s : Statement) (records : List Record) (w : Why) : Type 0 where
  at_once : records ≡ [] → refusal at s.kind ≡ Some w → IsRefused at s records w
  shown : refusal at s.kind ≡ None → All (AtLine s.line) records → Shows at s.kind records w → IsRefused at s records w
