use Rattle.header_text.specs.Spelling.{vertex_name}
use Rattle.object_lines.specs.Reading.{Takes, IsVertex}
use Rattle.object_lines.proofs.numbers.take_vertices.Given as goal

abbrev pub invariant-loop-taken : goal.invariant-loop-taken
invariant-loop-taken l = Takes (vertex_name l.quiver) (IsVertex l.quiver) l._taken l.fn.vertices l.vertices l.fn.tokens l.tokens
