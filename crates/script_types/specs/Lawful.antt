-- What holds of each script that a text of at most 4,194,304 bytes reads as.
use Rattle.std.specs.Prelude.{◌<◌, ◌≤◌, length, All, AllPairs}
use Rattle.path_algebra.specs.Allowed.{IsAllowed}
use Rattle.script_types.specs.declared.Script.{Script}
use Rattle.script_types.specs.declared.Statement.{Statement}
use Rattle.script_types.specs.Ranges.{IsStatement}

-- the lines of `bound`, of `basis` and of the statements stand in this order
pub record IsInOrder (s : Script) : Type 0 where
  pub bound : 0 < s.bound_line
  pub basis : s.bound_line < s.basis_line
  pub basis_limit : s.basis_line ≤ 4194304
  pub behind : All (λ (t : Statement). s.basis_line < t.line) s.statements
  pub limit : All (λ (t : Statement). t.line ≤ 4194304) s.statements
  pub ascending : AllPairs (λ (t u : Statement). t.line < u.line) s.statements

-- its header is allowed, its lines are in order, and its statements are such as the grammar allows, at most 524,288 of them
pub record IsLawful (s : Script) : Type 0 where
  pub header : IsAllowed s.header
  pub order : IsInOrder s
  pub statements : All (λ (t : Statement). IsStatement s.header.field t.kind) s.statements
  pub few : length s.statements ≤ 524288
