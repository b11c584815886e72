use Rattle.std.proofs.Common.{◌≡◌, ◌++◌, take}
use Rattle.header_text.specs.Spelling.{arrow_name, text_of}
use Rattle.object_lines.specs.Spelling.{at_lines}
use Rattle.object_lines.proofs.writing.push_at_arrows.Given as goal

abbrev pub invariant-loop-a : goal.invariant-loop-a
invariant-loop-a l = l.out.items ≡ l.fn.out.items ++ text_of (at_lines (arrow_name l.quiver) 0 (take l.a l.matrices))
