use Rattle.std.proofs.Common.{◌≡◌, ◌++◌, take}
use Rattle.object_lines.specs.Spelling.{matrix_form}
use Rattle.object_lines.specs.Written.{behind_spaces}
use Rattle.object_lines.proofs.writing.push_matrix.Given as goal

abbrev pub invariant-loop-i : goal.invariant-loop-i
invariant-loop-i l = l.out.items ≡ l.fn.out.items ++ behind_spaces (matrix_form (take l.i l.m.rows))
