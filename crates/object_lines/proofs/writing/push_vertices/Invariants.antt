use Rattle.std.proofs.Common.{◌≡◌, ◌++◌, take, map}
use Rattle.header_text.specs.Spelling.{vertex_name}
use Rattle.object_lines.specs.Written.{behind_spaces}
use Rattle.object_lines.proofs.writing.push_vertices.Given as goal

abbrev pub invariant-loop-vertex : goal.invariant-loop-vertex
invariant-loop-vertex l = l.out.items ≡ l.fn.out.items ++ behind_spaces (map (vertex_name l.quiver) (take l.vertex-index l.vertices))
