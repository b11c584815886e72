use Rattle.std.proofs.Common.{◌≡◌, ◌++◌, take}
use Rattle.header_text.specs.Spelling.{vertex_name, text_of}
use Rattle.object_lines.specs.Spelling.{at_lines}
use Rattle.object_lines.proofs.writing.push_at_vertices.Given as goal

abbrev pub invariant-loop-v : goal.invariant-loop-v
invariant-loop-v l = l.out.items ≡ l.fn.out.items ++ text_of (at_lines (vertex_name l.quiver) 0 (take l.v l.matrices))
