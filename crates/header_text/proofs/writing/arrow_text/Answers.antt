use Rattle.std.proofs.Common.{◌≡◌, ◌<◌, length, get_or, sym, ap, ◌∙◌, arith}
use Rattle.header_text.proofs.Names.{arrow_name-within, arrow_name-past}
use Rattle.quiver_paths.specs.declared.Arrow.{Arrow}
use Rattle.header_text.proofs.writing.arrow_text.Goals as goal

pub returns-in-Some : goal.returns-in-Some
returns-in-Some c =
    let inside : c.args.arrow < length c.args.quiver.now.arrows = omega (arith, c.in-Some.ensures.lookup.3.0, ap length c.as_slice.ensures) in
    let e : c.in-Some.arrow.now ≡ get_or c.args.quiver.now.arrows c.args.arrow c.in-Some.arrow.now = c.in-Some.ensures.lookup.1 ∙ ap (λ r. get_or r c.args.arrow c.in-Some.arrow.now) c.as_slice.ensures in
    c.text.ensures.bytes ∙ (ap (λ (r : Arrow). r.name) e ∙ sym (arrow_name-within c.args.quiver.now c.args.arrow c.in-Some.arrow.now inside))

pub returns-in-None : goal.returns-in-None
returns-in-None c = sym (arrow_name-past c.args.quiver.now c.args.arrow (omega (arith, c.in-None.ensures.lookup.3, ap length c.as_slice.ensures)))
