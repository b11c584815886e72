use Rattle.std.proofs.Common.{◌<◌, sym, arith, subst}
use Rattle.module_types.specs.Algebras.{algebra_at}
use Rattle.module_types.specs.Readings.{read}
use Rattle.module_checks.proofs.Sides.{arrows_at, source_inside, target_inside, plain_at, dim_small}
use Rattle.module_checks.proofs.Places.{place_is, place_inside}
use Rattle.module_faults.proofs.StoppedRows.{asks_image}
use Rattle.module_faults.proofs.next_arrows.images_along.Goals as goal

pub first_place-source-requires-clause-vertex : goal.first_place-source-requires-clause-vertex
first_place-source-requires-clause-vertex c = let k = source_inside c.args.m.now.side c.args.header.now c.requires.allowed.quiver.ends c.args.arrow c.requires.arrow in omega (arith, c.requires.m.counted, c.source_at.ensures)

pub first_place-source-requires-clause-small : goal.first_place-source-requires-clause-small
first_place-source-requires-clause-small c = dim_small c.args.m.now.dims c.requires.m.small

pub first_place-target-requires-clause-vertex : goal.first_place-target-requires-clause-vertex
first_place-target-requires-clause-vertex c = let k = target_inside c.args.m.now.side c.args.header.now c.requires.allowed.quiver.ends c.args.arrow c.requires.arrow in omega (arith, c.requires.m.counted, c.target_at.ensures)

pub first_place-target-requires-clause-small : goal.first_place-target-requires-clause-small
first_place-target-requires-clause-small c = dim_small c.args.m.now.dims c.requires.m.small

pub fold_images-requires-clause-source : goal.fold_images-requires-clause-source
fold_images-requires-clause-source c =
    let h = c.args.header.now in
    let Q = (algebra_at c.args.m.now.side h).quiver in
    let a = c.args.arrow in
    let l' : a < Q.arrows = subst (λ n. a < n) (sym (arrows_at c.args.m.now.side h)) c.requires.arrow in
    let f = plain_at h.field Q c.args.m.now c.requires.m a c.index.result.now l' c.index.ensures in
    place_inside Q c.args.m.now.dims c.args.unknowns (Q.source a) c.source_at.result c.first_place-source.result c.index.result.now.row_count c.requires.m.counted c.requires.unknowns c.source_at.ensures
    (source_inside c.args.m.now.side h c.requires.allowed.quiver.ends a c.requires.arrow) c.first_place-source.ensures f.row_count

pub fold_images-requires-clause-places : goal.fold_images-requires-clause-places
fold_images-requires-clause-places c =
    let h = c.args.header.now in
    let Q = (algebra_at c.args.m.now.side h).quiver in
    let a = c.args.arrow in
    let l' : a < Q.arrows = subst (λ n. a < n) (sym (arrows_at c.args.m.now.side h)) c.requires.arrow in
    let f = plain_at h.field Q c.args.m.now c.requires.m a c.index.result.now l' c.index.ensures in
    place_inside Q c.args.m.now.dims c.args.unknowns (Q.target a) c.target_at.result c.first_place-target.result c.index.result.now.col_count c.requires.m.counted c.requires.unknowns c.target_at.ensures
    (target_inside c.args.m.now.side h c.requires.allowed.quiver.ends a c.requires.arrow) c.first_place-target.ensures f.col_count

pub returns-clause-asked : goal.returns-clause-asked
returns-clause-asked c =
    let h = c.args.header.now in
    let Q = (algebra_at c.args.m.now.side h).quiver in
    let a = c.args.arrow in
    let l' : a < Q.arrows = subst (λ n. a < n) (sym (arrows_at c.args.m.now.side h)) c.requires.arrow in
    let f = plain_at h.field Q c.args.m.now c.requires.m a c.index.result.now l' c.index.ensures in
    asks_image (read h c.args.m.now) c.args.unknowns c.args.rows c.args.count a c.index.result.now c.first_place-source.result c.first_place-target.result c.args.images.now c.clear.new.entries c.fold_images.new.entries f
    (place_is Q c.args.m.now.dims (Q.source a) c.source_at.result c.first_place-source.result c.source_at.ensures (source_inside c.args.m.now.side h c.requires.allowed.quiver.ends a c.requires.arrow) c.first_place-source.ensures)
    (place_is Q c.args.m.now.dims (Q.target a) c.target_at.result c.first_place-target.result c.target_at.ensures (target_inside c.args.m.now.side h c.requires.allowed.quiver.ends a c.requires.arrow) c.first_place-target.ensures)
    c.clear.ensures.clear c.fold_images.ensures.more
