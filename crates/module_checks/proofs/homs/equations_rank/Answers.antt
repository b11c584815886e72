use Rattle.std.proofs.Common.{◌≡◌, ◌<◌, sym, ap, ◌∙◌, arith, subst}
use Rattle.quiver_paths.specs.Quiver.{arrow_count}
use Rattle.module_types.specs.Algebras.{algebra_at}
use Rattle.module_types.specs.Readings.{rep_of}
use Rattle.module_checks.proofs.HomRank.{begins, blocks_before, AskUpTo-none, AskUpTo-kept, AskUpTo-more, equations_rank_at}
use Rattle.module_checks.specs.Commuting.{AskUpTo}
use Rattle.module_checks.proofs.Steps.{AsksMore-reduced}
use Rattle.module_checks.proofs.Sides.{arrows_at, source_inside, target_inside, plain_at, block_inside, dim_small}
use Rattle.module_checks.proofs.homs.equations_rank.Goals as goal

pub loop-a-init : goal.loop-a-init
loop-a-init c =
    let Q = (algebra_at c.args.side c.args.header.now).quiver in
    record {
      used = omega arith;
      elements = c.requires.elements;
      clear = record { clear = λ k h. c.requires.zeros.clear k (omega arith) };
      asked = AskUpTo-none (rep_of c.args.header.now.field Q c.args.x.now) (rep_of c.args.header.now.field Q c.args.y.now) c.args.unknowns c.args.rows c.args.entries.now c.requires.zeros;
    }

pub first_unknown-target-requires-clause-x_vertices : goal.first_unknown-target-requires-clause-x_vertices
first_unknown-target-requires-clause-x_vertices c =
    let k = target_inside c.args.side c.args.header.now c.requires.allowed.quiver.ends c.loop-a.a (omega (arith, c.len-a-end.ensures)) in omega (arith, c.requires.x.counted, c.target_at.ensures)

pub first_unknown-target-requires-clause-y_vertices : goal.first_unknown-target-requires-clause-y_vertices
first_unknown-target-requires-clause-y_vertices c =
    let k = target_inside c.args.side c.args.header.now c.requires.allowed.quiver.ends c.loop-a.a (omega (arith, c.len-a-end.ensures)) in omega (arith, c.requires.y.counted, c.target_at.ensures)

pub first_unknown-source-requires-clause-x_vertices : goal.first_unknown-source-requires-clause-x_vertices
first_unknown-source-requires-clause-x_vertices c =
    let k = source_inside c.args.side c.args.header.now c.requires.allowed.quiver.ends c.loop-a.a (omega (arith, c.len-a-end.ensures)) in omega (arith, c.requires.x.counted, c.source_at.ensures)

pub first_unknown-source-requires-clause-y_vertices : goal.first_unknown-source-requires-clause-y_vertices
first_unknown-source-requires-clause-y_vertices c =
    let k = source_inside c.args.side c.args.header.now c.requires.allowed.quiver.ends c.loop-a.a (omega (arith, c.len-a-end.ensures)) in omega (arith, c.requires.y.counted, c.source_at.ensures)

pub first_unknown-target-requires-clause-x_small : goal.first_unknown-target-requires-clause-x_small
first_unknown-target-requires-clause-x_small c = dim_small c.args.x.now.dims c.requires.x.small

pub first_unknown-target-requires-clause-y_small : goal.first_unknown-target-requires-clause-y_small
first_unknown-target-requires-clause-y_small c = dim_small c.args.y.now.dims c.requires.y.small

pub first_unknown-source-requires-clause-x_small : goal.first_unknown-source-requires-clause-x_small
first_unknown-source-requires-clause-x_small c = dim_small c.args.x.now.dims c.requires.x.small

pub first_unknown-source-requires-clause-y_small : goal.first_unknown-source-requires-clause-y_small
first_unknown-source-requires-clause-y_small c = dim_small c.args.y.now.dims c.requires.y.small

pub fold_arrow-used-requires-clause-target_inside : goal.fold_arrow-used-requires-clause-target_inside
unfolding begins
fold_arrow-used-requires-clause-target_inside c =
    let h = c.args.header.now in
    let Q = (algebra_at c.args.side h).quiver in
    let X = rep_of h.field Q c.args.x.now in
    let Y = rep_of h.field Q c.args.y.now in
    let a = c.loop-a.a in
    let l : a < arrow_count h.quiver = omega (arith, c.len-a-end.ensures) in
    let l' : a < Q.arrows = subst (λ n. a < n) (sym (arrows_at c.args.side h)) l in
    let v = target_inside c.args.side h c.requires.allowed.quiver.ends a l in
    let f = plain_at h.field Q c.args.x.now c.requires.x a c.index.result.now l' c.index.ensures in
    let g = plain_at h.field Q c.args.y.now c.requires.y a c.index-in-loop-a.result.now l' c.index-in-loop-a.ensures in
    block_inside X Y (Q.target a) c.args.unknowns c.first_unknown-target.result _ _ v c.requires.unknowns
    (c.first_unknown-target.ensures ∙ blocks_before Q c.args.x.now.dims c.args.y.now.dims _ (rw c.target_at.ensures v) ∙ ap (begins X Y) c.target_at.ensures) f.col_count g.col_count

pub fold_arrow-used-requires-clause-source_inside : goal.fold_arrow-used-requires-clause-source_inside
unfolding begins
fold_arrow-used-requires-clause-source_inside c =
    let h = c.args.header.now in
    let Q = (algebra_at c.args.side h).quiver in
    let X = rep_of h.field Q c.args.x.now in
    let Y = rep_of h.field Q c.args.y.now in
    let a = c.loop-a.a in
    let l : a < arrow_count h.quiver = omega (arith, c.len-a-end.ensures) in
    let l' : a < Q.arrows = subst (λ n. a < n) (sym (arrows_at c.args.side h)) l in
    let v = source_inside c.args.side h c.requires.allowed.quiver.ends a l in
    let f = plain_at h.field Q c.args.x.now c.requires.x a c.index.result.now l' c.index.ensures in
    let g = plain_at h.field Q c.args.y.now c.requires.y a c.index-in-loop-a.result.now l' c.index-in-loop-a.ensures in
    block_inside X Y (Q.source a) c.args.unknowns c.first_unknown-source.result _ _ v c.requires.unknowns
    (c.first_unknown-source.ensures ∙ blocks_before Q c.args.x.now.dims c.args.y.now.dims _ (rw c.source_at.ensures v) ∙ ap (begins X Y) c.source_at.ensures) f.row_count g.row_count

pub loop-a-preserved : goal.loop-a-preserved
unfolding begins
loop-a-preserved c =
    let h = c.args.header.now in
    let Q = (algebra_at c.args.side h).quiver in
    let X = rep_of h.field Q c.args.x.now in
    let Y = rep_of h.field Q c.args.y.now in
    let a = c.loop-a.a in
    let l : a < arrow_count h.quiver = omega (arith, c.len-a-end.ensures) in
    let l' : a < Q.arrows = subst (λ n. a < n) (sym (arrows_at c.args.side h)) l in
    let v = target_inside c.args.side h c.requires.allowed.quiver.ends a l in
    let w = source_inside c.args.side h c.requires.allowed.quiver.ends a l in
    let f = plain_at h.field Q c.args.x.now c.requires.x a c.index.result.now l' c.index.ensures in
    let g = plain_at h.field Q c.args.y.now c.requires.y a c.index-in-loop-a.result.now l' c.index-in-loop-a.ensures in
    record {
      used = c.fold_arrow-used.ensures.used;
      elements = c.fold_arrow-used.ensures.elements;
      clear = c.fold_arrow-used.ensures.clear;
      asked = AskUpTo-more X Y c.args.unknowns c.args.rows a c.index.result.now c.index-in-loop-a.result.now c.first_unknown-target.result c.first_unknown-source.result _ _ f g
          (c.first_unknown-target.ensures ∙ blocks_before Q c.args.x.now.dims c.args.y.now.dims _ (rw c.target_at.ensures v) ∙ ap (begins X Y) c.target_at.ensures)
          (c.first_unknown-source.ensures ∙ blocks_before Q c.args.x.now.dims c.args.y.now.dims _ (rw c.source_at.ensures w) ∙ ap (begins X Y) c.source_at.ensures)
          c.loop-a.invariant.asked c.fold_arrow-used.ensures.more;
    }

pub returns-clause-rank : goal.returns-clause-rank
returns-clause-rank c =
    let h = c.args.header.now in
    let Q = (algebra_at c.args.side h).quiver in
    equations_rank_at (rep_of h.field Q c.args.x.now) (rep_of h.field Q c.args.y.now) c.args.unknowns c.args.rows c.loop-a.a _ _ c.echelon_rows.new.pivots c.echelon_rows.result
    c.requires.unknowns (let e : c.loop-a.a ≡ arrow_count h.quiver = omega (arith, c.len-a-end.ensures) in e ∙ sym (arrows_at c.args.side h))
    c.loop-a.invariant.elements c.echelon_rows.ensures.elements c.echelon_rows.ensures.form c.loop-a.invariant.asked

pub returns-clause-asked : goal.returns-clause-asked
returns-clause-asked c =
    let h = c.args.header.now in
    let Q = (algebra_at c.args.side h).quiver in
    let X = rep_of h.field Q c.args.x.now in
    let Y = rep_of h.field Q c.args.y.now in
    let e : c.loop-a.a ≡ Q.arrows = (let d : c.loop-a.a ≡ arrow_count h.quiver = omega (arith, c.len-a-end.ensures) in d ∙ sym (arrows_at c.args.side h)) in
    subst (λ a. AskUpTo X Y c.args.unknowns c.args.rows a c.echelon_rows.new.entries) e
    (AskUpTo-kept X Y c.args.unknowns c.args.rows c.loop-a.a _ _ c.loop-a.invariant.asked
    (AsksMore-reduced h.field c.args.rows c.args.unknowns _ _ c.echelon_rows.new.pivots c.echelon_rows.result c.loop-a.invariant.elements c.echelon_rows.ensures.elements c.echelon_rows.ensures.form))
