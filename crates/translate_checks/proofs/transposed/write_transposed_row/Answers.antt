use Rattle.std.proofs.Common.{◌≡◌, ◌<◌, ◌+◌, ℕ, List, [], length, get_or, refl, sym, ap, ◌∙◌, subst, arith}
use Rattle.std.specs.Prelude.{slice_index}
use Rattle.std.proofs.lemmas.List.{get_or_default}
use Rattle.std.proofs.lemmas.Grind.{get_or_default_zero}
use Rattle.linear_algebra.specs.Field.{order}
use Rattle.linear_algebra.specs.BlockFamilies.{total}
use Rattle.fp_linear.proofs.Slices.{AreElements-written}
use Rattle.module_types.specs.Algebras.{other_side}
use Rattle.quiver_paths.specs.Quiver.{vertex_count}
use Rattle.term_rows.specs.SumDims.{side_in_table, sum_dim}
use Rattle.term_rows.specs.RowSteps.{part_dim}
use Rattle.term_rows.proofs.SumSteps.{count_is}
use Rattle.term_rows.proofs.AddedWords.{words_for, part_inside, part_next, count_places}
use Rattle.translate_checks.proofs.AcrossRows.{HasParts, parts-more, whole_row, places_across}
use Rattle.translate_checks.proofs.transposed.write_transposed_row.Goals as goal

pub component_start-from-requires-clause-small : goal.component_start-from-requires-clause-small
component_start-from-requires-clause-small c =
    let h = c.args.table.now.header in
    let ws = c.args.table.now.words in
    let side = c.args.side in
    let other = other_side side in
    let cover = c.args.cover.now in
    let syzygy = c.args.syzygy.now in
    let vs = syzygy.vertices in
    let p = c.requires.presentation in
    let j = c.args.j in
    let l = c.requires.generator in
    let i = c.loop-i.i in
    let b : i < length vs = omega (arith, c.loop-i-test.true, c.len-i-end.ensures) in
    let v : c.index-vertex.result.now ≡ get_or vs i 0 = c.index-vertex.ensures ∙ get_or_default_zero vs i c.index-vertex.result.now b in
    let u : c.index.result.now ≡ get_or cover j 0 = c.index.ensures ∙ get_or_default_zero cover j c.index.result.now l in
    let A = words_for ws other c.side_in_table-hand.result _ (get_or vs i 0) _ (get_or cover j 0) c.words_at-places.result.now (c.side_in_table-hand.ensures ∙ ap side_in_table c.other.ensures) v u c.words_at-places.ensures in
    let n = part_inside h ws c.requires.table other vs (get_or cover j 0) i c.loop-i.to (length c.words_at-places.result.now) 512 c.words_at-places.result.now b c.loop-i.invariant.to A refl (p.syzygy_small.fits (get_or cover j 0) (p.vertices.declared j l)) in
    let d : c.index-vertex.result.now < vertex_count h.quiver = subst (λ v. v < vertex_count h.quiver) (sym v) (p.term.declared i b) in
    let s = p.small.fits c.index-vertex.result.now d in
    omega (arith, s)

pub copy_part-requires-clause-within : goal.copy_part-requires-clause-within
copy_part-requires-clause-within c =
    let h = c.args.table.now.header in
    let ws = c.args.table.now.words in
    let side = c.args.side in
    let other = other_side side in
    let cover = c.args.cover.now in
    let syzygy = c.args.syzygy.now in
    let vs = syzygy.vertices in
    let p = c.requires.presentation in
    let j = c.args.j in
    let l = c.requires.generator in
    let i = c.loop-i.i in
    let b : i < length vs = omega (arith, c.loop-i-test.true, c.len-i-end.ensures) in
    let v : c.index-vertex.result.now ≡ get_or vs i 0 = c.index-vertex.ensures ∙ get_or_default_zero vs i c.index-vertex.result.now b in
    let u : c.index.result.now ≡ get_or cover j 0 = c.index.ensures ∙ get_or_default_zero cover j c.index.result.now l in
    let A = words_for ws other c.side_in_table-hand.result _ (get_or vs i 0) _ (get_or cover j 0) c.words_at-places.result.now (c.side_in_table-hand.ensures ∙ ap side_in_table c.other.ensures) v u c.words_at-places.ensures in
    let n = part_inside h ws c.requires.table other vs (get_or cover j 0) i c.loop-i.to (length c.words_at-places.result.now) 512 c.words_at-places.result.now b c.loop-i.invariant.to A refl (p.syzygy_small.fits (get_or cover j 0) (p.vertices.declared j l)) in
    let e = p.term.each i b in
    let B = places_across ws side (get_or vs i 0) (get_or cover j 0) c.words_at-places.result.now A in
    let f = c.component_start-from.ensures ∙ ap (λ w. total j (part_dim ws side cover w)) v in
    let same : c.deref.result.now ≡ get_or syzygy.images i [] = c.deref.ensures ∙ c.index-in-loop-i.ensures ∙ get_or_default syzygy.images i c.index-in-loop-i.result.now [] (let k = p.term.counted in omega (arith, k, b)) in
    let r : sum_dim ws side cover (get_or vs i 0) ≡ length c.deref.result.now = sym e.count ∙ ap length (sym same) in
    part_inside h ws c.requires.table side cover (get_or vs i 0) j c.component_start-from.result (length c.words_at-places.result.now) (length c.deref.result.now) c.words_at-places.result.now l f B refl (omega (arith, r))

pub copy_part-requires-clause-inside : goal.copy_part-requires-clause-inside
copy_part-requires-clause-inside c =
    let h = c.args.table.now.header in
    let ws = c.args.table.now.words in
    let side = c.args.side in
    let other = other_side side in
    let cover = c.args.cover.now in
    let syzygy = c.args.syzygy.now in
    let vs = syzygy.vertices in
    let p = c.requires.presentation in
    let j = c.args.j in
    let l = c.requires.generator in
    let i = c.loop-i.i in
    let b : i < length vs = omega (arith, c.loop-i-test.true, c.len-i-end.ensures) in
    let v : c.index-vertex.result.now ≡ get_or vs i 0 = c.index-vertex.ensures ∙ get_or_default_zero vs i c.index-vertex.result.now b in
    let u : c.index.result.now ≡ get_or cover j 0 = c.index.ensures ∙ get_or_default_zero cover j c.index.result.now l in
    let A = words_for ws other c.side_in_table-hand.result _ (get_or vs i 0) _ (get_or cover j 0) c.words_at-places.result.now (c.side_in_table-hand.ensures ∙ ap side_in_table c.other.ensures) v u c.words_at-places.ensures in
    let n = part_inside h ws c.requires.table other vs (get_or cover j 0) i c.loop-i.to (length c.words_at-places.result.now) 512 c.words_at-places.result.now b c.loop-i.invariant.to A refl (p.syzygy_small.fits (get_or cover j 0) (p.vertices.declared j l)) in
    omega (arith, n, c.loop-i.auto.row, c.requires.row, c.clear.auto.entries)

pub overflow_add-to : goal.overflow_add-to
overflow_add-to c =
    let h = c.args.table.now.header in
    let ws = c.args.table.now.words in
    let side = c.args.side in
    let other = other_side side in
    let cover = c.args.cover.now in
    let syzygy = c.args.syzygy.now in
    let vs = syzygy.vertices in
    let p = c.requires.presentation in
    let j = c.args.j in
    let l = c.requires.generator in
    let i = c.loop-i.i in
    let b : i < length vs = omega (arith, c.loop-i-test.true, c.len-i-end.ensures) in
    let v : c.index-vertex.result.now ≡ get_or vs i 0 = c.index-vertex.ensures ∙ get_or_default_zero vs i c.index-vertex.result.now b in
    let u : c.index.result.now ≡ get_or cover j 0 = c.index.ensures ∙ get_or_default_zero cover j c.index.result.now l in
    let A = words_for ws other c.side_in_table-hand.result _ (get_or vs i 0) _ (get_or cover j 0) c.words_at-places.result.now (c.side_in_table-hand.ensures ∙ ap side_in_table c.other.ensures) v u c.words_at-places.ensures in
    let n = part_inside h ws c.requires.table other vs (get_or cover j 0) i c.loop-i.to (length c.words_at-places.result.now) 512 c.words_at-places.result.now b c.loop-i.invariant.to A refl (p.syzygy_small.fits (get_or cover j 0) (p.vertices.declared j l)) in
    omega (arith, n)

pub loop-i-preserved : goal.loop-i-preserved
loop-i-preserved c =
    let h = c.args.table.now.header in
    let ws = c.args.table.now.words in
    let side = c.args.side in
    let other = other_side side in
    let cover = c.args.cover.now in
    let syzygy = c.args.syzygy.now in
    let vs = syzygy.vertices in
    let p = c.requires.presentation in
    let j = c.args.j in
    let l = c.requires.generator in
    let i = c.loop-i.i in
    let b : i < length vs = omega (arith, c.loop-i-test.true, c.len-i-end.ensures) in
    let v : c.index-vertex.result.now ≡ get_or vs i 0 = c.index-vertex.ensures ∙ get_or_default_zero vs i c.index-vertex.result.now b in
    let u : c.index.result.now ≡ get_or cover j 0 = c.index.ensures ∙ get_or_default_zero cover j c.index.result.now l in
    let A = words_for ws other c.side_in_table-hand.result _ (get_or vs i 0) _ (get_or cover j 0) c.words_at-places.result.now (c.side_in_table-hand.ensures ∙ ap side_in_table c.other.ensures) v u c.words_at-places.ensures in
    let n = part_inside h ws c.requires.table other vs (get_or cover j 0) i c.loop-i.to (length c.words_at-places.result.now) 512 c.words_at-places.result.now b c.loop-i.invariant.to A refl (p.syzygy_small.fits (get_or cover j 0) (p.vertices.declared j l)) in
    let counted = sym (count_places h ws c.requires.table other (get_or vs i 0) (get_or cover j 0) c.words_at-places.result.now A) ∙ count_is h ws c.requires.table other (get_or vs i 0) (get_or cover j 0) in
    let same : c.deref.result.now ≡ get_or syzygy.images i [] = c.deref.ensures ∙ c.index-in-loop-i.ensures ∙ get_or_default syzygy.images i c.index-in-loop-i.result.now [] (let k = p.term.counted in omega (arith, k, b)) in
    record {
      to = part_next h ws c.requires.table other vs (get_or cover j 0) i c.loop-i.to c.words_at-places.result.now c.loop-i.invariant.to A;
      parts = λ t p. parts-more h ws t side cover syzygy p.term j i (length c.words_at-places.result.now) c.component_start-from.result c.loop-i.to c.deref.result.now c.loop-i.row c.copy_part.new.into
          (c.component_start-from.ensures ∙ ap (λ w. total j (part_dim ws side cover w)) v) c.loop-i.invariant.to counted same (c.loop-i.invariant.parts t p) c.copy_part.ensures;
      elements = AreElements-written h.field c.loop-i.row c.copy_part.new.into _ _ _ c.loop-i.invariant.elements c.copy_part.ensures (λ k. subst (λ (s : List ℕ). slice_index s (c.component_start-from.result + k) < order h.field) (sym same) ((p.term.each i b).small (c.component_start-from.result + k)));
    }

pub returns-clause-row : goal.returns-clause-row
returns-clause-row c = λ t.
    let h = c.args.table.now.header in
    let ws = c.args.table.now.words in
    let side = c.args.side in
    let cover = c.args.cover.now in
    let syzygy = c.args.syzygy.now in
    let p = c.requires.presentation in
    let e : c.loop-i.i ≡ length syzygy.vertices = omega (arith, c.loop-i-test.false, c.loop-i.auto.i-end, c.len-i-end.ensures) in
    whole_row h ws t side cover syzygy p.term c.args.j c.loop-i.row c.requires.generator (subst (λ n. HasParts h ws t side cover syzygy p.term c.args.j n c.loop-i.row) e (c.loop-i.invariant.parts t p))
