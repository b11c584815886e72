use Rattle.std.proofs.Common.{◌≡◌, ◌++◌, map, take}
use Rattle.header_text.specs.Spelling.{text_of}
use Rattle.object_lines.specs.Spelling.{row_line}
use Rattle.object_lines.proofs.writing.push_row_lines.Given as goal

abbrev pub invariant-loop-i : goal.invariant-loop-i
invariant-loop-i l = l.out.items ≡ l.fn.out.items ++ text_of (map row_line (take l.i l.m.rows))
