use Rattle.std.proofs.Common.{◌≡◌, ◌<◌, ◌*◌, length, take, refl, sym, ap, ◌∙◌, arith, subst}
use Rattle.std.proofs.lemmas.List.{length-take-le}
use Rattle.linear_algebra.specs.Rows.{rows_of}
use Rattle.linear_algebra.specs.Reduced.{ReducesTo}
use Rattle.linear_algebra.specs.Field.{Gf}
use Rattle.fp_linear.specs.Slices.{AreElements}
use Rattle.fp_linear.proofs.LentRows.{AreElements-take}
use Rattle.path_algebra.specs.declared.Header.{Header}
use Rattle.module_types.specs.declared.Side.{Side}
use Rattle.module_types.specs.Algebras.{other_side}
use Rattle.term_rows.specs.SumDims.{sum_dim}
use Rattle.term_rows.specs.TermCells.{FirstRows}
use Rattle.translate_checks.specs.Across.{transposed_in}
use Rattle.translate_checks.proofs.AcrossRows.{dim_across}
use Rattle.translate_checks.proofs.TransposedRows.{small_product}
use Rattle.translate_checks.proofs.SizeSteps.{rank_of_rows}
use Rattle.translate_checks.proofs.sizes.transposed_rank.Goals as goal

pub sum_dimension-rows-requires-clause-vertices : goal.sum_dimension-rows-requires-clause-vertices
sum_dimension-rows-requires-clause-vertices c =
    c.requires.presentation.vertices

pub sum_dimension-rows-requires-clause-small : goal.sum_dimension-rows-requires-clause-small
sum_dimension-rows-requires-clause-small c =
    let h = c.args.table.now.header in
    let ws = c.args.table.now.words in
    let side = c.args.side in
    let cover = c.args.cover.now in
    let syzygy = c.args.syzygy.now in
    let p = c.requires.presentation in
    let s = p.cover_small.fits c.args.w c.requires.vertex in
    subst (λ (o : Side). sum_dim ws o cover c.args.w < 4294967296) (sym c.other.ensures) (omega (arith, s))

pub sum_dimension-columns-requires-clause-vertices : goal.sum_dimension-columns-requires-clause-vertices
sum_dimension-columns-requires-clause-vertices c =
    record { declared = c.requires.presentation.term.declared }

pub sum_dimension-columns-requires-clause-small : goal.sum_dimension-columns-requires-clause-small
sum_dimension-columns-requires-clause-small c =
    let h = c.args.table.now.header in
    let ws = c.args.table.now.words in
    let side = c.args.side in
    let cover = c.args.cover.now in
    let syzygy = c.args.syzygy.now in
    let p = c.requires.presentation in
    let s = p.syzygy_small.fits c.args.w c.requires.vertex in
    subst (λ (o : Side). sum_dim ws o syzygy.vertices c.args.w < 4294967296) (sym c.other-2.ensures) (omega (arith, s))

pub overflow_mul-entries : goal.overflow_mul-entries
overflow_mul-entries c =
    let h = c.args.table.now.header in
    let ws = c.args.table.now.words in
    let side = c.args.side in
    let cover = c.args.cover.now in
    let syzygy = c.args.syzygy.now in
    let p = c.requires.presentation in
    let w = c.args.w in
    let d = c.requires.vertex in
    let rows : c.sum_dimension-rows.result ≡ sum_dim ws (other_side side) cover w = c.sum_dimension-rows.ensures ∙ ap (λ s. sum_dim ws s cover w) c.other.ensures in
    let columns : c.sum_dimension-columns.result ≡ sum_dim ws (other_side side) syzygy.vertices w = c.sum_dimension-columns.ensures ∙ ap (λ s. sum_dim ws s syzygy.vertices w) c.other-2.ensures in
    let s1 = p.cover_small.fits w d in
    let s2 = p.syzygy_small.fits w d in
    let len : length c.write_transposed.new.into ≡ 262144 = c.write_transposed.auto.into ∙ c.requires.into in
    let whole = small_product c.sum_dimension-rows.result c.sum_dimension-columns.result (length c.write_transposed.new.into) (omega (arith, rows, s1)) (omega (arith, columns, s2)) len in
    omega (arith, whole, len)

pub slice_bounds-entries-end : goal.slice_bounds-entries-end
slice_bounds-entries-end c =
    let h = c.args.table.now.header in
    let ws = c.args.table.now.words in
    let side = c.args.side in
    let cover = c.args.cover.now in
    let syzygy = c.args.syzygy.now in
    let p = c.requires.presentation in
    let w = c.args.w in
    let d = c.requires.vertex in
    let rows : c.sum_dimension-rows.result ≡ sum_dim ws (other_side side) cover w = c.sum_dimension-rows.ensures ∙ ap (λ s. sum_dim ws s cover w) c.other.ensures in
    let columns : c.sum_dimension-columns.result ≡ sum_dim ws (other_side side) syzygy.vertices w = c.sum_dimension-columns.ensures ∙ ap (λ s. sum_dim ws s syzygy.vertices w) c.other-2.ensures in
    let s1 = p.cover_small.fits w d in
    let s2 = p.syzygy_small.fits w d in
    let len : length c.write_transposed.new.into ≡ 262144 = c.write_transposed.auto.into ∙ c.requires.into in
    let whole = small_product c.sum_dimension-rows.result c.sum_dimension-columns.result (length c.write_transposed.new.into) (omega (arith, rows, s1)) (omega (arith, columns, s2)) len in
    whole

pub slice_bounds-entries-end-2 : goal.slice_bounds-entries-end-2
slice_bounds-entries-end-2 c =
    let h = c.args.table.now.header in
    let ws = c.args.table.now.words in
    let side = c.args.side in
    let cover = c.args.cover.now in
    let syzygy = c.args.syzygy.now in
    let p = c.requires.presentation in
    let w = c.args.w in
    let d = c.requires.vertex in
    let rows : c.sum_dimension-rows.result ≡ sum_dim ws (other_side side) cover w = c.sum_dimension-rows.ensures ∙ ap (λ s. sum_dim ws s cover w) c.other.ensures in
    let columns : c.sum_dimension-columns.result ≡ sum_dim ws (other_side side) syzygy.vertices w = c.sum_dimension-columns.ensures ∙ ap (λ s. sum_dim ws s syzygy.vertices w) c.other-2.ensures in
    let s1 = p.cover_small.fits w d in
    let s2 = p.syzygy_small.fits w d in
    let len : length c.write_transposed.new.into ≡ 262144 = c.write_transposed.auto.into ∙ c.requires.into in
    let whole = small_product c.sum_dimension-rows.result c.sum_dimension-columns.result (length c.write_transposed.new.into) (omega (arith, rows, s1)) (omega (arith, columns, s2)) len in
    sym (length-take-le _ c.write_transposed.new.into whole)

pub echelon_rows-requires-clause-shape : goal.echelon_rows-requires-clause-shape
echelon_rows-requires-clause-shape c =
    let h = c.args.table.now.header in
    let ws = c.args.table.now.words in
    let side = c.args.side in
    let cover = c.args.cover.now in
    let syzygy = c.args.syzygy.now in
    let p = c.requires.presentation in
    let w = c.args.w in
    let d = c.requires.vertex in
    let rows : c.sum_dimension-rows.result ≡ sum_dim ws (other_side side) cover w = c.sum_dimension-rows.ensures ∙ ap (λ s. sum_dim ws s cover w) c.other.ensures in
    let columns : c.sum_dimension-columns.result ≡ sum_dim ws (other_side side) syzygy.vertices w = c.sum_dimension-columns.ensures ∙ ap (λ s. sum_dim ws s syzygy.vertices w) c.other-2.ensures in
    let s1 = p.cover_small.fits w d in
    let s2 = p.syzygy_small.fits w d in
    let len : length c.write_transposed.new.into ≡ 262144 = c.write_transposed.auto.into ∙ c.requires.into in
    let whole = small_product c.sum_dimension-rows.result c.sum_dimension-columns.result (length c.write_transposed.new.into) (omega (arith, rows, s1)) (omega (arith, columns, s2)) len in
    length-take-le _ c.write_transposed.new.into whole

pub echelon_rows-requires-clause-room : goal.echelon_rows-requires-clause-room
echelon_rows-requires-clause-room c =
    let h = c.args.table.now.header in
    let ws = c.args.table.now.words in
    let side = c.args.side in
    let cover = c.args.cover.now in
    let syzygy = c.args.syzygy.now in
    let p = c.requires.presentation in
    let w = c.args.w in
    let d = c.requires.vertex in
    let rows : c.sum_dimension-rows.result ≡ sum_dim ws (other_side side) cover w = c.sum_dimension-rows.ensures ∙ ap (λ s. sum_dim ws s cover w) c.other.ensures in
    let columns : c.sum_dimension-columns.result ≡ sum_dim ws (other_side side) syzygy.vertices w = c.sum_dimension-columns.ensures ∙ ap (λ s. sum_dim ws s syzygy.vertices w) c.other-2.ensures in
    let s1 = p.cover_small.fits w d in
    let s2 = p.syzygy_small.fits w d in
    let len : length c.write_transposed.new.into ≡ 262144 = c.write_transposed.auto.into ∙ c.requires.into in
    let whole = small_product c.sum_dimension-rows.result c.sum_dimension-columns.result (length c.write_transposed.new.into) (omega (arith, rows, s1)) (omega (arith, columns, s2)) len in
    omega (arith, rows, s1, c.requires.pivots)

pub overflow_cast-rows : goal.overflow_cast-rows
overflow_cast-rows c =
    let h = c.args.table.now.header in
    let ws = c.args.table.now.words in
    let side = c.args.side in
    let cover = c.args.cover.now in
    let syzygy = c.args.syzygy.now in
    let p = c.requires.presentation in
    let w = c.args.w in
    let d = c.requires.vertex in
    let rows : c.sum_dimension-rows.result ≡ sum_dim ws (other_side side) cover w = c.sum_dimension-rows.ensures ∙ ap (λ s. sum_dim ws s cover w) c.other.ensures in
    let columns : c.sum_dimension-columns.result ≡ sum_dim ws (other_side side) syzygy.vertices w = c.sum_dimension-columns.ensures ∙ ap (λ s. sum_dim ws s syzygy.vertices w) c.other-2.ensures in
    let s1 = p.cover_small.fits w d in
    let s2 = p.syzygy_small.fits w d in
    let len : length c.write_transposed.new.into ≡ 262144 = c.write_transposed.auto.into ∙ c.requires.into in
    let whole = small_product c.sum_dimension-rows.result c.sum_dimension-columns.result (length c.write_transposed.new.into) (omega (arith, rows, s1)) (omega (arith, columns, s2)) len in
    omega (arith, rows, s1)

pub overflow_cast-columns : goal.overflow_cast-columns
overflow_cast-columns c =
    let h = c.args.table.now.header in
    let ws = c.args.table.now.words in
    let side = c.args.side in
    let cover = c.args.cover.now in
    let syzygy = c.args.syzygy.now in
    let p = c.requires.presentation in
    let w = c.args.w in
    let d = c.requires.vertex in
    let rows : c.sum_dimension-rows.result ≡ sum_dim ws (other_side side) cover w = c.sum_dimension-rows.ensures ∙ ap (λ s. sum_dim ws s cover w) c.other.ensures in
    let columns : c.sum_dimension-columns.result ≡ sum_dim ws (other_side side) syzygy.vertices w = c.sum_dimension-columns.ensures ∙ ap (λ s. sum_dim ws s syzygy.vertices w) c.other-2.ensures in
    let s1 = p.cover_small.fits w d in
    let s2 = p.syzygy_small.fits w d in
    let len : length c.write_transposed.new.into ≡ 262144 = c.write_transposed.auto.into ∙ c.requires.into in
    let whole = small_product c.sum_dimension-rows.result c.sum_dimension-columns.result (length c.write_transposed.new.into) (omega (arith, rows, s1)) (omega (arith, columns, s2)) len in
    omega (arith, columns, s2)

pub returns : goal.returns
returns c = λ t.
    let h = c.args.table.now.header in
    let ws = c.args.table.now.words in
    let side = c.args.side in
    let cover = c.args.cover.now in
    let syzygy = c.args.syzygy.now in
    let p = c.requires.presentation in
    let w = c.args.w in
    let d = c.requires.vertex in
    let rows : c.sum_dimension-rows.result ≡ sum_dim ws (other_side side) cover w = c.sum_dimension-rows.ensures ∙ ap (λ s. sum_dim ws s cover w) c.other.ensures in
    let columns : c.sum_dimension-columns.result ≡ sum_dim ws (other_side side) syzygy.vertices w = c.sum_dimension-columns.ensures ∙ ap (λ s. sum_dim ws s syzygy.vertices w) c.other-2.ensures in
    let s1 = p.cover_small.fits w d in
    let s2 = p.syzygy_small.fits w d in
    let len : length c.write_transposed.new.into ≡ 262144 = c.write_transposed.auto.into ∙ c.requires.into in
    let whole = small_product c.sum_dimension-rows.result c.sum_dimension-columns.result (length c.write_transposed.new.into) (omega (arith, rows, s1)) (omega (arith, columns, s2)) len in
    rank_of_rows h.field _ _ c.sum_dimension-rows.result c.sum_dimension-columns.result (transposed_in h ws t side cover syzygy w) c.write_transposed.new.into (take (c.sum_dimension-rows.result * c.sum_dimension-columns.result) c.write_transposed.new.into) c.echelon_rows.new.entries c.echelon_rows.new.pivots c.echelon_rows.result
    (dim_across h ws t side cover w ∙ sym rows) (dim_across h ws t side syzygy.vertices w ∙ sym columns)
    (subst (λ n. FirstRows (transposed_in h ws t side cover syzygy w) n c.sum_dimension-rows.result c.write_transposed.new.into) (sym columns) (subst (λ n. FirstRows (transposed_in h ws t side cover syzygy w) (sum_dim ws (other_side side) syzygy.vertices w) n c.write_transposed.new.into) (sym rows) (c.write_transposed.ensures.matrix t))) refl
    (AreElements-take h.field _ c.write_transposed.new.into whole c.write_transposed.ensures.elements)
    (subst (λ (q : Gf). AreElements q c.echelon_rows.new.entries) (ap (λ (h : Header). h.field) c.header.ensures.header) c.echelon_rows.ensures.elements)
    (subst (λ (q : Gf). ReducesTo q c.sum_dimension-columns.result (rows_of c.sum_dimension-rows.result c.sum_dimension-columns.result (take (c.sum_dimension-rows.result * c.sum_dimension-columns.result) c.write_transposed.new.into)) (rows_of c.sum_dimension-rows.result c.sum_dimension-columns.result c.echelon_rows.new.entries) c.echelon_rows.new.pivots c.echelon_rows.result) (ap (λ (h : Header). h.field) c.header.ensures.header) c.echelon_rows.ensures.form)
