use Rattle.std.proofs.Common.{◌≡◌, ◌++◌, map, take}
use Rattle.header_text.specs.Spelling.{vertex_line, text_of}
use Rattle.header_text.proofs.writing.push_vertices.Given as goal

abbrev pub invariant-loop-name : goal.invariant-loop-name
invariant-loop-name l = l.out.items ≡ l.fn.out.items ++ text_of (map vertex_line (take l.name-index l.names))
