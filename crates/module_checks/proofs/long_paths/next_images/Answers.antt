use Rattle.std.proofs.Common.{◌≡◌, ◌<◌, sym, ◌∙◌, arith, subst}
use Rattle.quiver_paths.specs.Quiver.{arrow_count}
use Rattle.fp_linear.proofs.Meeting.{rank_fits, reduced_clear}
use Rattle.module_types.specs.Algebras.{algebra_at}
use Rattle.module_types.specs.Readings.{read}
use Rattle.module_checks.specs.PathImages.{AskImages}
use Rattle.module_checks.proofs.Steps.{AsksMore-reduced}
use Rattle.module_checks.proofs.Sides.{arrows_at, source_inside, target_inside, plain_at, dim_small}
use Rattle.module_checks.proofs.Places.{place_is, place_inside}
use Rattle.module_checks.proofs.PathImages.{AskImages-none, AskImages-more, AskImages-kept}
use Rattle.module_checks.proofs.long_paths.next_images.Goals as goal

pub loop-a-init : goal.loop-a-init
loop-a-init c = record {
  used = omega arith;
  elements = c.requires.elements;
  clear = record { clear = λ k h. c.requires.zeros.clear k (omega arith) };
  asked = AskImages-none (read c.args.header.now c.args.m.now) c.args.unknowns c.args.rows c.args.count c.args.images.now c.args.entries.now c.requires.zeros;
}

pub first_place-source-requires-clause-vertex : goal.first_place-source-requires-clause-vertex
first_place-source-requires-clause-vertex c =
    let k = source_inside c.args.m.now.side c.args.header.now c.requires.allowed.quiver.ends c.loop-a.a (omega (arith, c.len-a-end.ensures)) in omega (arith, c.requires.m.counted, c.source_at.ensures)

pub first_place-source-requires-clause-small : goal.first_place-source-requires-clause-small
first_place-source-requires-clause-small c = dim_small c.args.m.now.dims c.requires.m.small

pub first_place-target-requires-clause-vertex : goal.first_place-target-requires-clause-vertex
first_place-target-requires-clause-vertex c =
    let k = target_inside c.args.m.now.side c.args.header.now c.requires.allowed.quiver.ends c.loop-a.a (omega (arith, c.len-a-end.ensures)) in omega (arith, c.requires.m.counted, c.target_at.ensures)

pub first_place-target-requires-clause-small : goal.first_place-target-requires-clause-small
first_place-target-requires-clause-small c = dim_small c.args.m.now.dims c.requires.m.small

pub fold_images-used-requires-clause-source : goal.fold_images-used-requires-clause-source
fold_images-used-requires-clause-source c =
    let h = c.args.header.now in
    let Q = (algebra_at c.args.m.now.side h).quiver in
    let a = c.loop-a.a in
    let l : a < arrow_count h.quiver = omega (arith, c.len-a-end.ensures) in
    let l' : a < Q.arrows = subst (λ n. a < n) (sym (arrows_at c.args.m.now.side h)) l in
    let f = plain_at h.field Q c.args.m.now c.requires.m a c.index.result.now l' c.index.ensures in
    place_inside Q c.args.m.now.dims c.args.unknowns (Q.source a) c.source_at.result c.first_place-source.result c.index.result.now.row_count c.requires.m.counted c.requires.unknowns c.source_at.ensures
    (source_inside c.args.m.now.side h c.requires.allowed.quiver.ends a l) c.first_place-source.ensures f.row_count

pub fold_images-used-requires-clause-places : goal.fold_images-used-requires-clause-places
fold_images-used-requires-clause-places c =
    let h = c.args.header.now in
    let Q = (algebra_at c.args.m.now.side h).quiver in
    let a = c.loop-a.a in
    let l : a < arrow_count h.quiver = omega (arith, c.len-a-end.ensures) in
    let l' : a < Q.arrows = subst (λ n. a < n) (sym (arrows_at c.args.m.now.side h)) l in
    let f = plain_at h.field Q c.args.m.now c.requires.m a c.index.result.now l' c.index.ensures in
    place_inside Q c.args.m.now.dims c.args.unknowns (Q.target a) c.target_at.result c.first_place-target.result c.index.result.now.col_count c.requires.m.counted c.requires.unknowns c.target_at.ensures
    (target_inside c.args.m.now.side h c.requires.allowed.quiver.ends a l) c.first_place-target.ensures f.col_count

pub loop-a-preserved : goal.loop-a-preserved
loop-a-preserved c =
    let h = c.args.header.now in
    let Q = (algebra_at c.args.m.now.side h).quiver in
    let a = c.loop-a.a in
    let l : a < arrow_count h.quiver = omega (arith, c.len-a-end.ensures) in
    let l' : a < Q.arrows = subst (λ n. a < n) (sym (arrows_at c.args.m.now.side h)) l in
    let f = plain_at h.field Q c.args.m.now c.requires.m a c.index.result.now l' c.index.ensures in
    record {
      used = c.fold_images-used.ensures.used;
      elements = c.fold_images-used.ensures.elements;
      clear = c.fold_images-used.ensures.clear;
      asked = AskImages-more (read h c.args.m.now) c.args.unknowns c.args.rows c.args.count a c.index.result.now c.first_place-source.result c.first_place-target.result c.args.images.now c.loop-a.entries c.fold_images-used.new.entries f
          (place_is Q c.args.m.now.dims (Q.source a) c.source_at.result c.first_place-source.result c.source_at.ensures (source_inside c.args.m.now.side h c.requires.allowed.quiver.ends a l) c.first_place-source.ensures)
          (place_is Q c.args.m.now.dims (Q.target a) c.target_at.result c.first_place-target.result c.target_at.ensures (target_inside c.args.m.now.side h c.requires.allowed.quiver.ends a l) c.first_place-target.ensures)
          c.loop-a.invariant.asked c.fold_images-used.ensures.more;
    }

pub returns-clause-count : goal.returns-clause-count
returns-clause-count c =
    let fits = rank_fits c.args.header.now.field c.args.rows c.args.unknowns c.loop-a.entries c.echelon_rows.new.entries c.echelon_rows.new.pivots c.echelon_rows.result c.loop-a.invariant.elements c.echelon_rows.ensures.elements c.echelon_rows.ensures.form in
    omega (arith, fits, c.requires.room.many)

pub returns-clause-clear : goal.returns-clause-clear
returns-clause-clear c = reduced_clear c.args.header.now.field c.args.rows c.args.unknowns c.loop-a.entries c.echelon_rows.new.entries c.echelon_rows.new.pivots c.echelon_rows.result
    (c.echelon_rows.auto.entries ∙ c.loop-a.auto.entries ∙ c.requires.room.shape) c.echelon_rows.ensures.elements c.echelon_rows.ensures.form

pub returns-clause-asked : goal.returns-clause-asked
returns-clause-asked c =
    let h = c.args.header.now in
    let Q = (algebra_at c.args.m.now.side h).quiver in
    let e : c.loop-a.a ≡ Q.arrows = (let d : c.loop-a.a ≡ arrow_count h.quiver = omega (arith, c.len-a-end.ensures) in d ∙ sym (arrows_at c.args.m.now.side h)) in
    subst (λ a. AskImages (read h c.args.m.now) c.args.unknowns c.args.rows c.args.count a c.args.images.now c.echelon_rows.new.entries) e
    (AskImages-kept (read h c.args.m.now) c.args.unknowns c.args.rows c.args.count c.loop-a.a c.args.images.now c.loop-a.entries c.echelon_rows.new.entries c.loop-a.invariant.asked
    (AsksMore-reduced h.field c.args.rows c.args.unknowns c.loop-a.entries c.echelon_rows.new.entries c.echelon_rows.new.pivots c.echelon_rows.result c.loop-a.invariant.elements c.echelon_rows.ensures.elements c.echelon_rows.ensures.form))
