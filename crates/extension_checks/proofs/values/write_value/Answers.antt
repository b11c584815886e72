use Rattle.std.proofs.Common.{◌≡◌, ◌<◌, [], length, get_or, refl, sym, ap, ◌∙◌, subst, arith}
use Rattle.std.specs.Prelude.{slice_index_or}
use Rattle.std.proofs.lemmas.Grind.{get_or_default_zero}
use Rattle.std.proofs.lemmas.List.{get_or_default}
use Rattle.linear_algebra.specs.BlockFamilies.{total}
use Rattle.linear_algebra.specs.Rows.{IsRow}
use Rattle.quiver_paths.specs.Quiver.{vertex_count}
use Rattle.term_rows.specs.SumDims.{sum_dim}
use Rattle.term_rows.specs.RowSteps.{part_dim}
use Rattle.term_rows.proofs.AddedWords.{words_for, places_below, part_inside}
use Rattle.extension_checks.proofs.FollowValues.{value_small, value_held}
use Rattle.extension_checks.proofs.values.write_value.Goals as goal

pub add_words-requires-clause-places : goal.add_words-requires-clause-places
add_words-requires-clause-places c = places_below c.args.table.now.words c.side_in_table.result c.index.result.now c.index-w.result.now c.words_at-places.result.now c.words_at-places.ensures

pub add_words-requires-clause-inside : goal.add_words-requires-clause-inside
add_words-requires-clause-inside c =
    let h = c.args.table.now.header in
    let ws = c.args.table.now.words in
    let b = c.args.b.now in
    let first = c.args.first.now in
    let next = c.args.next.now in
    let T = c.requires.terms in
    let j = c.args.j in
    let i = c.args.i in
    let w = c.index-w.result.now in
    let places = c.words_at-places.result.now in
    let image = c.index-image.result.now in
    let iw : w ≡ get_or next.vertices i 0 = c.index-w.ensures ∙ get_or_default_zero next.vertices i w c.requires.target in
    let jv : c.index.result.now ≡ get_or first.vertices j 0 = c.index.ensures ∙ get_or_default_zero first.vertices j c.index.result.now c.requires.generator in
    let im : image ≡ slice_index_or next.images i [] = c.index-image.ensures ∙ get_or_default next.images i image [] (let n = T.shape.counted in omega (arith, n, c.requires.target)) in
    let R : IsRow h.field (sum_dim ws b.side first.vertices w) image = subst (IsRow h.field (sum_dim ws b.side first.vertices w)) (sym im)
    (subst (λ v. IsRow h.field (sum_dim ws b.side first.vertices v) (slice_index_or next.images i [])) (sym iw) (T.shape.each i c.requires.target)) in
    let V : w < vertex_count h.quiver = subst (λ v. v < vertex_count h.quiver) (sym iw) (T.shape.declared i c.requires.target) in
    let S = T.small.fits w V in
    let A = words_for ws b.side c.side_in_table.result _ (get_or first.vertices j 0) _ w places c.side_in_table.ensures jv refl c.words_at-places.ensures in
    part_inside h ws c.requires.table b.side first.vertices w j c.part_start-from.result (length places) (length image) places c.requires.generator c.part_start-from.ensures A refl (let n = R.count in omega (arith, n))

pub add_words-requires-clause-few : goal.add_words-requires-clause-few
add_words-requires-clause-few c =
    let h = c.args.table.now.header in
    let ws = c.args.table.now.words in
    let b = c.args.b.now in
    let first = c.args.first.now in
    let next = c.args.next.now in
    let T = c.requires.terms in
    let j = c.args.j in
    let i = c.args.i in
    let w = c.index-w.result.now in
    let places = c.words_at-places.result.now in
    let image = c.index-image.result.now in
    let iw : w ≡ get_or next.vertices i 0 = c.index-w.ensures ∙ get_or_default_zero next.vertices i w c.requires.target in
    let jv : c.index.result.now ≡ get_or first.vertices j 0 = c.index.ensures ∙ get_or_default_zero first.vertices j c.index.result.now c.requires.generator in
    let im : image ≡ slice_index_or next.images i [] = c.index-image.ensures ∙ get_or_default next.images i image [] (let n = T.shape.counted in omega (arith, n, c.requires.target)) in
    let R : IsRow h.field (sum_dim ws b.side first.vertices w) image = subst (IsRow h.field (sum_dim ws b.side first.vertices w)) (sym im)
    (subst (λ v. IsRow h.field (sum_dim ws b.side first.vertices v) (slice_index_or next.images i [])) (sym iw) (T.shape.each i c.requires.target)) in
    let V : w < vertex_count h.quiver = subst (λ v. v < vertex_count h.quiver) (sym iw) (T.shape.declared i c.requires.target) in
    let S = T.small.fits w V in
    let n = R.count in
    omega (arith, n, S)

pub add_words-requires-clause-coordinate : goal.add_words-requires-clause-coordinate
add_words-requires-clause-coordinate c = let s = value_small c.args.table.now.header c.args.table.now.words c.args.b.now c.requires.b c.args.first.now c.args.j in omega (arith, s, c.requires.coordinate)

pub returns-clause-value : goal.returns-clause-value
returns-clause-value c = λ t.
    let h = c.args.table.now.header in
    let ws = c.args.table.now.words in
    let b = c.args.b.now in
    let first = c.args.first.now in
    let next = c.args.next.now in
    let T = c.requires.terms in
    let j = c.args.j in
    let i = c.args.i in
    let w = c.index-w.result.now in
    let places = c.words_at-places.result.now in
    let image = c.index-image.result.now in
    let iw : w ≡ get_or next.vertices i 0 = c.index-w.ensures ∙ get_or_default_zero next.vertices i w c.requires.target in
    let jv : c.index.result.now ≡ get_or first.vertices j 0 = c.index.ensures ∙ get_or_default_zero first.vertices j c.index.result.now c.requires.generator in
    let im : image ≡ slice_index_or next.images i [] = c.index-image.ensures ∙ get_or_default next.images i image [] (let n = T.shape.counted in omega (arith, n, c.requires.target)) in
    let A = words_for ws b.side c.side_in_table.result _ (get_or first.vertices j 0) _ (get_or next.vertices i 0) places c.side_in_table.ensures jv iw c.words_at-places.ensures in
    value_held h ws b t first next T j c.args.c i c.part_start-from.result places image c.add_words.new.sum c.requires.generator c.requires.coordinate c.requires.target A
    (c.part_start-from.ensures ∙ ap (λ w. total j (part_dim ws b.side first.vertices w)) iw) im c.add_words.ensures.words
