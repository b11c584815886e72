use Rattle.std.proofs.Common.{◌≡◌, ◌++◌, map, take}
use Rattle.header_text.specs.Spelling.{relation_line, text_of}
use Rattle.header_text.proofs.writing.push_relations.Given as goal

abbrev pub invariant-loop-relation : goal.invariant-loop-relation
invariant-loop-relation l = l.out.items ≡ l.fn.out.items ++ text_of (map (relation_line l.quiver) (take l.relation-index l.relations))
