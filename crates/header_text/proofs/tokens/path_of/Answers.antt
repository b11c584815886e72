use Rattle.std.proofs.Common.{◌≡◌, ◌<◌, length, get_or, sym, ap, subst, ◌∙◌}
use Rattle.header_text.proofs.Readers.{no_path, not_empty, not_empty}
use Rattle.quiver_paths.specs.Path.{Leads}
use Rattle.quiver_paths.proofs.QuiverLemmas.{source_is}
use Rattle.quiver_paths.specs.Quiver.{arrow_count, source}
use Rattle.quiver_paths.specs.declared.Arrow.{Arrow}
use Rattle.header_text.proofs.tokens.path_of.Goals as goal

pub returns-in_default : goal.returns-in_default
returns-in_default c =
    let a = c.index.result.now in
    let inside : 0 < length c.args.arrows = not_empty c.args.arrows c.requires.arrows.some in
    let e : a ≡ get_or c.args.arrows 0 a = c.index.ensures in
    let place : a < arrow_count c.args.quiver.now = subst (λ k. k < arrow_count c.args.quiver.now) (sym e) (c.requires.arrows.places 0 a inside) in
    let starts : c.index-2.result.now.from ≡ source c.args.quiver.now (get_or c.args.arrows 0 a) =
    ap (λ (r : Arrow). r.from) c.index-2.ensures ∙ (sym (source_is c.args.quiver.now a c.index-2.result.now place) ∙ ap (source c.args.quiver.now) e) in
    no_path c.args.quiver.now c.args.arrows a c.index-2.result.now.from c.requires.arrows starts
    (λ w leads. c.in_default.ensures w (subst (λ xs. Leads c.args.quiver.now c.index-2.result.now.from xs w) (sym c.as_slice.ensures) leads))
