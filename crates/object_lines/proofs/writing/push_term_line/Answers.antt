use Rattle.std.proofs.Common.{[], ◌∷◌, codes, decimal, map, length}
use Rattle.header_text.specs.Spelling.{vertex_name}
use Rattle.object_lines.proofs.WrittenLines.{line_is, then_tokens, then_token, one_token}
use Rattle.object_lines.proofs.writing.push_term_line.Goals as goal

pub returns : goal.returns
returns c =
    let k = decimal c.args.k in
    let count = decimal (length c.args.vertices.now) in
    let names = map (vertex_name c.args.quiver.now) c.args.vertices.now in
    line_is _ _ _ _ (codes "term") (k ∷ count ∷ names) c.in_ok-extend_from_slice.ensures.items
    (then_tokens _ _ _ (k ∷ count ∷ []) names (then_token _ _ _ (k ∷ []) count (one_token _ _ k c.in_ok-push_number.ensures) c.in_ok-push_number-2.ensures) c.in_ok-push_vertices.ensures)
    c.in_ok-push.ensures.items
