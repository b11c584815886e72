use Rattle.std.proofs.Common.{◌≡◌, ◌<◌, ◌≤◌, ◌+◌, length, get_or, refl, sym, ap, ◌∙◌, subst, arith}
use Rattle.std.proofs.lemmas.Grind.{get_or_default_zero}
use Rattle.linear_algebra.specs.BlockFamilies.{total}
use Rattle.quiver_paths.specs.Quiver.{vertex_count}
use Rattle.path_algebra.specs.declared.Header.{Header}
use Rattle.projectives.specs.CanonicalCover.{vertex_in}
use Rattle.bound_tables.specs.TableSides.{table_sides}
use Rattle.module_types.specs.Algebras.{algebra_at, sided_words}
use Rattle.term_rows.specs.RowSteps.{HasProducts, IsSumStepUpTo, part_dim}
use Rattle.term_rows.proofs.AddedWords.{source_below, target_below, words_for, act_placed, count_places, places_below, sum_step-none, sum_step-more, sum_step-all, part_dims, part_inside, part_next}
use Rattle.term_rows.proofs.sums.step_in_sum.Goals as goal

pub words_at-sources-requires-clause-second : goal.words_at-sources-requires-clause-second
words_at-sources-requires-clause-second c =
    let h = c.args.table.now.header in
    let ws = c.args.table.now.words in
    let side = c.args.side in
    let vs = c.args.vertices.now in
    let T = c.header.ensures.table in
    let se : c.source_at-source.result ≡ (algebra_at side h).quiver.source c.args.arrow = c.source_at-source.ensures ∙ ap (λ (h : Header). (algebra_at side h).quiver.source c.args.arrow) c.header.ensures.header in
    let sb : c.source_at-source.result < vertex_count h.quiver = subst (λ v. v < vertex_count h.quiver) (sym se) (source_below side h c.args.arrow T.allowed.quiver.ends c.requires.arrow) in
    sb

pub words_at-targets-requires-clause-second : goal.words_at-targets-requires-clause-second
words_at-targets-requires-clause-second c =
    let h = c.args.table.now.header in
    let ws = c.args.table.now.words in
    let side = c.args.side in
    let vs = c.args.vertices.now in
    let T = c.header.ensures.table in
    let se : c.source_at-source.result ≡ (algebra_at side h).quiver.source c.args.arrow = c.source_at-source.ensures ∙ ap (λ (h : Header). (algebra_at side h).quiver.source c.args.arrow) c.header.ensures.header in
    let te : c.target_at-target.result ≡ (algebra_at side h).quiver.target c.args.arrow = c.target_at-target.ensures ∙ ap (λ (h : Header). (algebra_at side h).quiver.target c.args.arrow) c.header-2.ensures.header in
    let sb : c.source_at-source.result < vertex_count h.quiver = subst (λ v. v < vertex_count h.quiver) (sym se) (source_below side h c.args.arrow T.allowed.quiver.ends c.requires.arrow) in
    let tb : c.target_at-target.result < vertex_count h.quiver = subst (λ v. v < vertex_count h.quiver) (sym te) (target_below side h c.args.arrow T.allowed.quiver.ends c.requires.arrow) in
    tb

pub add_words-requires-clause-sources : goal.add_words-requires-clause-sources
add_words-requires-clause-sources c = places_below c.args.table.now.words c.side_in_table-hand.result _ c.source_at-source.result c.words_at-sources.result.now c.words_at-sources.ensures

pub add_words-requires-clause-targets : goal.add_words-requires-clause-targets
add_words-requires-clause-targets c = places_below c.args.table.now.words c.side_in_table-hand.result _ c.target_at-target.result c.words_at-targets.result.now c.words_at-targets.ensures

pub add_words-requires-clause-row_inside : goal.add_words-requires-clause-row_inside
add_words-requires-clause-row_inside c =
    let h = c.args.table.now.header in
    let ws = c.args.table.now.words in
    let side = c.args.side in
    let vs = c.args.vertices.now in
    let T = c.header.ensures.table in
    let se : c.source_at-source.result ≡ (algebra_at side h).quiver.source c.args.arrow = c.source_at-source.ensures ∙ ap (λ (h : Header). (algebra_at side h).quiver.source c.args.arrow) c.header.ensures.header in
    let te : c.target_at-target.result ≡ (algebra_at side h).quiver.target c.args.arrow = c.target_at-target.ensures ∙ ap (λ (h : Header). (algebra_at side h).quiver.target c.args.arrow) c.header-2.ensures.header in
    let sb : c.source_at-source.result < vertex_count h.quiver = subst (λ v. v < vertex_count h.quiver) (sym se) (source_below side h c.args.arrow T.allowed.quiver.ends c.requires.arrow) in
    let tb : c.target_at-target.result < vertex_count h.quiver = subst (λ v. v < vertex_count h.quiver) (sym te) (target_below side h c.args.arrow T.allowed.quiver.ends c.requires.arrow) in
    let j = c.loop-j.j in
    let l : j < length vs = omega (arith, c.loop-j-test.true, c.len-j-end.ensures) in
    let v1 : c.index.result.now ≡ get_or vs j 0 = c.index.ensures ∙ get_or_default_zero vs j c.index.result.now l in
    let v2 : c.index-in-loop-j.result.now ≡ get_or vs j 0 = c.index-in-loop-j.ensures ∙ get_or_default_zero vs j c.index-in-loop-j.result.now l in
    let A = words_for ws side c.side_in_table-hand.result _ (get_or vs j 0) _ c.source_at-source.result c.words_at-sources.result.now c.side_in_table-hand.ensures v1 refl c.words_at-sources.ensures in
    let B = words_for ws side c.side_in_table-hand.result _ (get_or vs j 0) _ c.target_at-target.result c.words_at-targets.result.now c.side_in_table-hand.ensures v2 refl c.words_at-targets.ensures in
    let inv = c.loop-j.invariant in
    part_inside h ws T side vs c.source_at-source.result j c.loop-j.from (length c.words_at-sources.result.now) (length c.args.row.now) c.words_at-sources.result.now l inv.from A refl (c.requires.row_room.fits c.source_at-source.result sb)

pub add_words-requires-clause-inside : goal.add_words-requires-clause-inside
add_words-requires-clause-inside c =
    let h = c.args.table.now.header in
    let ws = c.args.table.now.words in
    let side = c.args.side in
    let vs = c.args.vertices.now in
    let T = c.header.ensures.table in
    let se : c.source_at-source.result ≡ (algebra_at side h).quiver.source c.args.arrow = c.source_at-source.ensures ∙ ap (λ (h : Header). (algebra_at side h).quiver.source c.args.arrow) c.header.ensures.header in
    let te : c.target_at-target.result ≡ (algebra_at side h).quiver.target c.args.arrow = c.target_at-target.ensures ∙ ap (λ (h : Header). (algebra_at side h).quiver.target c.args.arrow) c.header-2.ensures.header in
    let sb : c.source_at-source.result < vertex_count h.quiver = subst (λ v. v < vertex_count h.quiver) (sym se) (source_below side h c.args.arrow T.allowed.quiver.ends c.requires.arrow) in
    let tb : c.target_at-target.result < vertex_count h.quiver = subst (λ v. v < vertex_count h.quiver) (sym te) (target_below side h c.args.arrow T.allowed.quiver.ends c.requires.arrow) in
    let j = c.loop-j.j in
    let l : j < length vs = omega (arith, c.loop-j-test.true, c.len-j-end.ensures) in
    let v1 : c.index.result.now ≡ get_or vs j 0 = c.index.ensures ∙ get_or_default_zero vs j c.index.result.now l in
    let v2 : c.index-in-loop-j.result.now ≡ get_or vs j 0 = c.index-in-loop-j.ensures ∙ get_or_default_zero vs j c.index-in-loop-j.result.now l in
    let A = words_for ws side c.side_in_table-hand.result _ (get_or vs j 0) _ c.source_at-source.result c.words_at-sources.result.now c.side_in_table-hand.ensures v1 refl c.words_at-sources.ensures in
    let B = words_for ws side c.side_in_table-hand.result _ (get_or vs j 0) _ c.target_at-target.result c.words_at-targets.result.now c.side_in_table-hand.ensures v2 refl c.words_at-targets.ensures in
    let inv = c.loop-j.invariant in
    let n = part_inside h ws T side vs c.target_at-target.result j c.loop-j.to (length c.words_at-targets.result.now) (length c.args.next.now) c.words_at-targets.result.now l inv.to B refl (c.requires.room.fits c.target_at-target.result tb) in
    omega (arith, n, c.loop-j.auto.next, c.clear.auto.entries)

pub overflow_add-from : goal.overflow_add-from
overflow_add-from c =
    let h = c.args.table.now.header in
    let ws = c.args.table.now.words in
    let side = c.args.side in
    let vs = c.args.vertices.now in
    let T = c.header.ensures.table in
    let se : c.source_at-source.result ≡ (algebra_at side h).quiver.source c.args.arrow = c.source_at-source.ensures ∙ ap (λ (h : Header). (algebra_at side h).quiver.source c.args.arrow) c.header.ensures.header in
    let te : c.target_at-target.result ≡ (algebra_at side h).quiver.target c.args.arrow = c.target_at-target.ensures ∙ ap (λ (h : Header). (algebra_at side h).quiver.target c.args.arrow) c.header-2.ensures.header in
    let sb : c.source_at-source.result < vertex_count h.quiver = subst (λ v. v < vertex_count h.quiver) (sym se) (source_below side h c.args.arrow T.allowed.quiver.ends c.requires.arrow) in
    let tb : c.target_at-target.result < vertex_count h.quiver = subst (λ v. v < vertex_count h.quiver) (sym te) (target_below side h c.args.arrow T.allowed.quiver.ends c.requires.arrow) in
    let j = c.loop-j.j in
    let l : j < length vs = omega (arith, c.loop-j-test.true, c.len-j-end.ensures) in
    let v1 : c.index.result.now ≡ get_or vs j 0 = c.index.ensures ∙ get_or_default_zero vs j c.index.result.now l in
    let v2 : c.index-in-loop-j.result.now ≡ get_or vs j 0 = c.index-in-loop-j.ensures ∙ get_or_default_zero vs j c.index-in-loop-j.result.now l in
    let A = words_for ws side c.side_in_table-hand.result _ (get_or vs j 0) _ c.source_at-source.result c.words_at-sources.result.now c.side_in_table-hand.ensures v1 refl c.words_at-sources.ensures in
    let B = words_for ws side c.side_in_table-hand.result _ (get_or vs j 0) _ c.target_at-target.result c.words_at-targets.result.now c.side_in_table-hand.ensures v2 refl c.words_at-targets.ensures in
    let inv = c.loop-j.invariant in
    let n = part_inside h ws T side vs c.source_at-source.result j c.loop-j.from (length c.words_at-sources.result.now) (length c.args.row.now) c.words_at-sources.result.now l inv.from A refl (c.requires.row_room.fits c.source_at-source.result sb) in
    omega (arith, n)

pub overflow_add-to : goal.overflow_add-to
overflow_add-to c =
    let h = c.args.table.now.header in
    let ws = c.args.table.now.words in
    let side = c.args.side in
    let vs = c.args.vertices.now in
    let T = c.header.ensures.table in
    let se : c.source_at-source.result ≡ (algebra_at side h).quiver.source c.args.arrow = c.source_at-source.ensures ∙ ap (λ (h : Header). (algebra_at side h).quiver.source c.args.arrow) c.header.ensures.header in
    let te : c.target_at-target.result ≡ (algebra_at side h).quiver.target c.args.arrow = c.target_at-target.ensures ∙ ap (λ (h : Header). (algebra_at side h).quiver.target c.args.arrow) c.header-2.ensures.header in
    let sb : c.source_at-source.result < vertex_count h.quiver = subst (λ v. v < vertex_count h.quiver) (sym se) (source_below side h c.args.arrow T.allowed.quiver.ends c.requires.arrow) in
    let tb : c.target_at-target.result < vertex_count h.quiver = subst (λ v. v < vertex_count h.quiver) (sym te) (target_below side h c.args.arrow T.allowed.quiver.ends c.requires.arrow) in
    let j = c.loop-j.j in
    let l : j < length vs = omega (arith, c.loop-j-test.true, c.len-j-end.ensures) in
    let v1 : c.index.result.now ≡ get_or vs j 0 = c.index.ensures ∙ get_or_default_zero vs j c.index.result.now l in
    let v2 : c.index-in-loop-j.result.now ≡ get_or vs j 0 = c.index-in-loop-j.ensures ∙ get_or_default_zero vs j c.index-in-loop-j.result.now l in
    let A = words_for ws side c.side_in_table-hand.result _ (get_or vs j 0) _ c.source_at-source.result c.words_at-sources.result.now c.side_in_table-hand.ensures v1 refl c.words_at-sources.ensures in
    let B = words_for ws side c.side_in_table-hand.result _ (get_or vs j 0) _ c.target_at-target.result c.words_at-targets.result.now c.side_in_table-hand.ensures v2 refl c.words_at-targets.ensures in
    let inv = c.loop-j.invariant in
    let n = part_inside h ws T side vs c.target_at-target.result j c.loop-j.to (length c.words_at-targets.result.now) (length c.args.next.now) c.words_at-targets.result.now l inv.to B refl (c.requires.room.fits c.target_at-target.result tb) in
    omega (arith, n)

pub loop-j-preserved : goal.loop-j-preserved
loop-j-preserved c =
    let h = c.args.table.now.header in
    let ws = c.args.table.now.words in
    let side = c.args.side in
    let vs = c.args.vertices.now in
    let T = c.header.ensures.table in
    let se : c.source_at-source.result ≡ (algebra_at side h).quiver.source c.args.arrow = c.source_at-source.ensures ∙ ap (λ (h : Header). (algebra_at side h).quiver.source c.args.arrow) c.header.ensures.header in
    let te : c.target_at-target.result ≡ (algebra_at side h).quiver.target c.args.arrow = c.target_at-target.ensures ∙ ap (λ (h : Header). (algebra_at side h).quiver.target c.args.arrow) c.header-2.ensures.header in
    let sb : c.source_at-source.result < vertex_count h.quiver = subst (λ v. v < vertex_count h.quiver) (sym se) (source_below side h c.args.arrow T.allowed.quiver.ends c.requires.arrow) in
    let tb : c.target_at-target.result < vertex_count h.quiver = subst (λ v. v < vertex_count h.quiver) (sym te) (target_below side h c.args.arrow T.allowed.quiver.ends c.requires.arrow) in
    let j = c.loop-j.j in
    let l : j < length vs = omega (arith, c.loop-j-test.true, c.len-j-end.ensures) in
    let v1 : c.index.result.now ≡ get_or vs j 0 = c.index.ensures ∙ get_or_default_zero vs j c.index.result.now l in
    let v2 : c.index-in-loop-j.result.now ≡ get_or vs j 0 = c.index-in-loop-j.ensures ∙ get_or_default_zero vs j c.index-in-loop-j.result.now l in
    let A = words_for ws side c.side_in_table-hand.result _ (get_or vs j 0) _ c.source_at-source.result c.words_at-sources.result.now c.side_in_table-hand.ensures v1 refl c.words_at-sources.ensures in
    let B = words_for ws side c.side_in_table-hand.result _ (get_or vs j 0) _ c.target_at-target.result c.words_at-targets.result.now c.side_in_table-hand.ensures v2 refl c.words_at-targets.ensures in
    let inv = c.loop-j.invariant in
    record {
      from = part_next h ws T side vs c.source_at-source.result j c.loop-j.from c.words_at-sources.result.now inv.from A;
      to = part_next h ws T side vs c.target_at-target.result j c.loop-j.to c.words_at-targets.result.now inv.to B;
      done = λ t.
          let W = (sided_words side (table_sides h ws t)).words in
          let A' = words_for ws side c.side_in_table-hand.result _ (get_or vs j 0) _ ((algebra_at side h).quiver.source c.args.arrow) c.words_at-sources.result.now c.side_in_table-hand.ensures v1 se c.words_at-sources.ensures in
          let B' = words_for ws side c.side_in_table-hand.result _ (get_or vs j 0) _ ((algebra_at side h).quiver.target c.args.arrow) c.words_at-targets.result.now c.side_in_table-hand.ensures v2 te c.words_at-targets.ensures in
          sum_step-more W (vertex_in vs) c.args.arrow j (length c.words_at-targets.result.now) (length c.words_at-sources.result.now) c.loop-j.from c.loop-j.to c.args.row.now c.loop-j.next c.add_words.new.next
          (inv.from ∙ part_dims h ws t side vs c.source_at-source.result j ∙ ap (λ w. total j (λ d. W.count (vertex_in vs d) w)) se)
          (inv.to ∙ part_dims h ws t side vs c.target_at-target.result j ∙ ap (λ w. total j (λ d. W.count (vertex_in vs d) w)) te)
          (sym (count_places h ws t side (get_or vs j 0) _ c.words_at-targets.result.now B')) (sym (count_places h ws t side (get_or vs j 0) _ c.words_at-sources.result.now A'))
          (inv.done t)
          (c.add_words.ensures.added (λ i. (W.act (get_or vs j 0) c.args.arrow).at i)
          (λ i m. subst (λ s. HasProducts h ws s (get_or c.words_at-sources.result.now i 0) c.args.arrow c.words_at-targets.result.now ((W.act (get_or vs j 0) c.args.arrow).at i)) (sym c.side_in_table-hand.ensures) (act_placed h ws t side (get_or vs j 0) c.args.arrow i c.words_at-sources.result.now c.words_at-targets.result.now c.requires.arrow A' B' m)));
      elements = c.add_words.ensures.elements;
    }

pub returns-clause-step : goal.returns-clause-step
returns-clause-step c = λ t.
    let h = c.args.table.now.header in
    let W = (sided_words c.args.side (table_sides h c.args.table.now.words t)).words in
    let vs = c.args.vertices.now in
    let e : c.loop-j.j ≡ length vs = omega (arith, c.loop-j-test.false, c.loop-j.auto.j-end, c.len-j-end.ensures) in
    sum_step-all W (vertex_in vs) c.args.arrow (length vs) c.args.row.now c.loop-j.next c.requires.row_elements.small
    (subst (λ j. IsSumStepUpTo W (vertex_in vs) c.args.arrow j c.args.row.now c.loop-j.next) e (c.loop-j.invariant.done t))
