use Rattle.std.proofs.Common.{ℕ, ◌≡◌, ◌<◌, ◌+◌, ◌*◌, [], length, get_or, ap, sym, subst, ◌∙◌, arith}
use Rattle.std.proofs.lemmas.List.{get_or_read}
use Rattle.std.proofs.lemmas.Nat.{mul-add-lt}
use Rattle.quiver_paths.specs.Quiver.{vertex_count}
use Rattle.alg_table.specs.TableView.{TableView}
use Rattle.alg_table.specs.WordPlaces.{ArePlacesBetween}
use Rattle.alg_table.proofs.table.Table.places_between.Goals as goal

pub returns : goal.returns
returns c =
    let n = vertex_count c.self.inside.header.quiver in
    let starts : c.args.start < n = subst (λ (v : TableView). c.args.start < vertex_count v.header.quiver) (sym c.self.view_is) c.requires.start in
    let ends : c.args.end < n = subst (λ (v : TableView). c.args.end < vertex_count v.header.quiver) (sym c.self.view_is) c.requires.end in
    let inside : c.args.start * n + c.args.end < length c.self.inside.places = omega (arith, c.self.invariant.places_count, mul-add-lt c.args.start n c.args.end n starts ends) in
    let read : c.as_slice.result.now ≡ get_or c.self.inside.places (c.args.start * n + c.args.end) [] =
    c.as_slice.ensures ∙ get_or_read c.self.inside.places (c.args.start * n + c.args.end) c.index.result.now inside
    (c.index.ensures ∙ ap (λ k. get_or c.self.inside.places (c.args.start * k + c.args.end) c.index.result.now) c.len-vertices.ensures) [] in
    rw (← c.self.view_is) (subst (ArePlacesBetween c.self.inside.words c.args.start c.args.end) (sym read)
    (c.self.invariant.places_are.between c.args.start c.args.end ends inside))
