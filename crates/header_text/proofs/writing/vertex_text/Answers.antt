use Rattle.std.proofs.Common.{◌≡◌, ◌<◌, length, get_or, sym, ap, ◌∙◌, arith}
use Rattle.header_text.proofs.Names.{vertex_name-within, vertex_name-past}
use Rattle.header_text.proofs.writing.vertex_text.Goals as goal

pub returns-in-Some : goal.returns-in-Some
returns-in-Some c =
    let inside : c.args.vertex < length c.args.quiver.now.vertices = omega (arith, c.in-Some.ensures.lookup.3.0, ap length c.as_slice.ensures) in
    let e : c.in-Some.name.now ≡ get_or c.args.quiver.now.vertices c.args.vertex c.in-Some.name.now = c.in-Some.ensures.lookup.1 ∙ ap (λ r. get_or r c.args.vertex c.in-Some.name.now) c.as_slice.ensures in
    c.text.ensures.bytes ∙ (e ∙ sym (vertex_name-within c.args.quiver.now c.args.vertex c.in-Some.name.now inside))

pub returns-in-None : goal.returns-in-None
returns-in-None c = sym (vertex_name-past c.args.quiver.now c.args.vertex (omega (arith, c.in-None.ensures.lookup.3, ap length c.as_slice.ensures)))
