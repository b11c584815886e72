use Rattle.std.proofs.Common.{◌≡◌, ◌<◌, ◌+◌, ◌*◌, length, take, refl, sym, ap, ◌∙◌, arith, subst}
use Rattle.std.proofs.lemmas.List.{length-take-le}
use Rattle.std.proofs.lemmas.Grind.{get_or_default_zero}
use Rattle.linear_algebra.specs.Field.{Gf}
use Rattle.linear_algebra.specs.Rows.{rows_of}
use Rattle.linear_algebra.specs.Reduced.{ReducesTo}
use Rattle.fp_linear.specs.Slices.{AreElements}
use Rattle.fp_linear.proofs.LentRows.{AreElements-take}
use Rattle.path_algebra.specs.declared.Header.{Header}
use Rattle.module_types.specs.declared.Side.{Side}
use Rattle.module_types.specs.Algebras.{algebra_at, other_side}
use Rattle.module_types.specs.Readings.{dim_at}
use Rattle.module_checks.proofs.HomRank.{dim_at-is}
use Rattle.module_checks.proofs.Walks.{dim_within}
use Rattle.term_rows.specs.SumDims.{sum_dim}
use Rattle.term_rows.specs.TermCells.{FirstRows}
use Rattle.translate_checks.proofs.AcrossRows.{dim_across}
use Rattle.translate_checks.proofs.Ends.{vertices_at_side}
use Rattle.translate_checks.proofs.SizeSteps.{rank_of_rows}
use Rattle.sequence_checks.specs.Pullbacks.{pulled_back}
use Rattle.sequence_checks.proofs.MiddleSteps.{wide_product}
use Rattle.sequence_checks.proofs.middles.pullback_rank.Goals as goal

pub sum_dimension-rows-requires-clause-vertices : goal.sum_dimension-rows-requires-clause-vertices
sum_dimension-rows-requires-clause-vertices c =
    c.requires.presentation.vertices

pub sum_dimension-rows-requires-clause-small : goal.sum_dimension-rows-requires-clause-small
sum_dimension-rows-requires-clause-small c =
    let h = c.args.table.now.header in
    let ws = c.args.table.now.words in
    let side = c.args.side in
    let cover = c.args.cover.now in
    let syzygy = c.args.syzygy.now in
    let m = c.args.m.now in
    let phi = c.args.functional.now in
    let p = c.requires.presentation in
    let s = p.cover_small.fits c.args.w c.requires.vertex in
    subst (λ (o : Side). sum_dim ws o cover c.args.w < 4294967296) (sym c.other.ensures) (omega (arith, s))

pub sum_dimension-first-requires-clause-vertices : goal.sum_dimension-first-requires-clause-vertices
sum_dimension-first-requires-clause-vertices c =
    record { declared = c.requires.presentation.term.declared }

pub sum_dimension-first-requires-clause-small : goal.sum_dimension-first-requires-clause-small
sum_dimension-first-requires-clause-small c =
    let h = c.args.table.now.header in
    let ws = c.args.table.now.words in
    let side = c.args.side in
    let cover = c.args.cover.now in
    let syzygy = c.args.syzygy.now in
    let m = c.args.m.now in
    let phi = c.args.functional.now in
    let p = c.requires.presentation in
    let s = p.syzygy_small.fits c.args.w c.requires.vertex in
    subst (λ (o : Side). sum_dim ws o syzygy.vertices c.args.w < 4294967296) (sym c.other-2.ensures) (omega (arith, s))

pub index-requires : goal.index-requires
index-requires c =
    let h = c.args.table.now.header in
    let ws = c.args.table.now.words in
    let side = c.args.side in
    let cover = c.args.cover.now in
    let syzygy = c.args.syzygy.now in
    let m = c.args.m.now in
    let phi = c.args.functional.now in
    let p = c.requires.presentation in
    let w = c.args.w in
    let d = c.requires.vertex in
    let rows : c.sum_dimension-rows.result ≡ sum_dim ws (other_side side) cover w = c.sum_dimension-rows.ensures ∙ ap (λ s. sum_dim ws s cover w) c.other.ensures in
    let first : c.sum_dimension-first.result ≡ sum_dim ws (other_side side) syzygy.vertices w = c.sum_dimension-first.ensures ∙ ap (λ s. sum_dim ws s syzygy.vertices w) c.other-2.ensures in
    let b : w < length m.dims = (let k = c.requires.m.counted in let sv = vertices_at_side side h in omega (arith, k, sv, d)) in
    let s1 = p.cover_small.fits w d in
    let s2 = p.syzygy_small.fits w d in
    b

pub overflow_add-columns : goal.overflow_add-columns
overflow_add-columns c =
    let h = c.args.table.now.header in
    let ws = c.args.table.now.words in
    let side = c.args.side in
    let cover = c.args.cover.now in
    let syzygy = c.args.syzygy.now in
    let m = c.args.m.now in
    let phi = c.args.functional.now in
    let p = c.requires.presentation in
    let w = c.args.w in
    let d = c.requires.vertex in
    let rows : c.sum_dimension-rows.result ≡ sum_dim ws (other_side side) cover w = c.sum_dimension-rows.ensures ∙ ap (λ s. sum_dim ws s cover w) c.other.ensures in
    let first : c.sum_dimension-first.result ≡ sum_dim ws (other_side side) syzygy.vertices w = c.sum_dimension-first.ensures ∙ ap (λ s. sum_dim ws s syzygy.vertices w) c.other-2.ensures in
    let b : w < length m.dims = (let k = c.requires.m.counted in let sv = vertices_at_side side h in omega (arith, k, sv, d)) in
    let second : c.index.result.now ≡ dim_at (algebra_at side h).quiver m.dims w = c.index.ensures ∙ get_or_default_zero m.dims w c.index.result.now b ∙ sym (dim_at-is (algebra_at side h).quiver m.dims w (let sv = vertices_at_side side h in omega (arith, sv, d))) in
    let columns : c.sum_dimension-first.result + c.index.result.now ≡ sum_dim ws (other_side side) syzygy.vertices w + dim_at (algebra_at side h).quiver m.dims w = omega (arith, first, second) in
    let s3 = dim_within (algebra_at side h).quiver m.dims w in
    let s1 = p.cover_small.fits w d in
    let s2 = p.syzygy_small.fits w d in
    omega (arith, columns, s2, s3, c.requires.m.small)

pub overflow_mul-entries : goal.overflow_mul-entries
overflow_mul-entries c =
    let h = c.args.table.now.header in
    let ws = c.args.table.now.words in
    let side = c.args.side in
    let cover = c.args.cover.now in
    let syzygy = c.args.syzygy.now in
    let m = c.args.m.now in
    let phi = c.args.functional.now in
    let p = c.requires.presentation in
    let w = c.args.w in
    let d = c.requires.vertex in
    let rows : c.sum_dimension-rows.result ≡ sum_dim ws (other_side side) cover w = c.sum_dimension-rows.ensures ∙ ap (λ s. sum_dim ws s cover w) c.other.ensures in
    let first : c.sum_dimension-first.result ≡ sum_dim ws (other_side side) syzygy.vertices w = c.sum_dimension-first.ensures ∙ ap (λ s. sum_dim ws s syzygy.vertices w) c.other-2.ensures in
    let b : w < length m.dims = (let k = c.requires.m.counted in let sv = vertices_at_side side h in omega (arith, k, sv, d)) in
    let second : c.index.result.now ≡ dim_at (algebra_at side h).quiver m.dims w = c.index.ensures ∙ get_or_default_zero m.dims w c.index.result.now b ∙ sym (dim_at-is (algebra_at side h).quiver m.dims w (let sv = vertices_at_side side h in omega (arith, sv, d))) in
    let columns : c.sum_dimension-first.result + c.index.result.now ≡ sum_dim ws (other_side side) syzygy.vertices w + dim_at (algebra_at side h).quiver m.dims w = omega (arith, first, second) in
    let s3 = dim_within (algebra_at side h).quiver m.dims w in
    let s1 = p.cover_small.fits w d in
    let s2 = p.syzygy_small.fits w d in
    let len : length c.write_pullback.new.into ≡ 393216 = c.write_pullback.auto.into ∙ c.requires.into in
    let whole = wide_product c.sum_dimension-rows.result (c.sum_dimension-first.result + c.index.result.now) (length c.write_pullback.new.into) (omega (arith, rows, s1)) (omega (arith, columns, s2, s3, c.requires.m.small)) len in
    omega (arith, whole, len)

pub slice_bounds-entries-end : goal.slice_bounds-entries-end
slice_bounds-entries-end c =
    let h = c.args.table.now.header in
    let ws = c.args.table.now.words in
    let side = c.args.side in
    let cover = c.args.cover.now in
    let syzygy = c.args.syzygy.now in
    let m = c.args.m.now in
    let phi = c.args.functional.now in
    let p = c.requires.presentation in
    let w = c.args.w in
    let d = c.requires.vertex in
    let rows : c.sum_dimension-rows.result ≡ sum_dim ws (other_side side) cover w = c.sum_dimension-rows.ensures ∙ ap (λ s. sum_dim ws s cover w) c.other.ensures in
    let first : c.sum_dimension-first.result ≡ sum_dim ws (other_side side) syzygy.vertices w = c.sum_dimension-first.ensures ∙ ap (λ s. sum_dim ws s syzygy.vertices w) c.other-2.ensures in
    let b : w < length m.dims = (let k = c.requires.m.counted in let sv = vertices_at_side side h in omega (arith, k, sv, d)) in
    let second : c.index.result.now ≡ dim_at (algebra_at side h).quiver m.dims w = c.index.ensures ∙ get_or_default_zero m.dims w c.index.result.now b ∙ sym (dim_at-is (algebra_at side h).quiver m.dims w (let sv = vertices_at_side side h in omega (arith, sv, d))) in
    let columns : c.sum_dimension-first.result + c.index.result.now ≡ sum_dim ws (other_side side) syzygy.vertices w + dim_at (algebra_at side h).quiver m.dims w = omega (arith, first, second) in
    let s3 = dim_within (algebra_at side h).quiver m.dims w in
    let s1 = p.cover_small.fits w d in
    let s2 = p.syzygy_small.fits w d in
    let len : length c.write_pullback.new.into ≡ 393216 = c.write_pullback.auto.into ∙ c.requires.into in
    let whole = wide_product c.sum_dimension-rows.result (c.sum_dimension-first.result + c.index.result.now) (length c.write_pullback.new.into) (omega (arith, rows, s1)) (omega (arith, columns, s2, s3, c.requires.m.small)) len in
    whole

pub slice_bounds-entries-end-2 : goal.slice_bounds-entries-end-2
slice_bounds-entries-end-2 c =
    let h = c.args.table.now.header in
    let ws = c.args.table.now.words in
    let side = c.args.side in
    let cover = c.args.cover.now in
    let syzygy = c.args.syzygy.now in
    let m = c.args.m.now in
    let phi = c.args.functional.now in
    let p = c.requires.presentation in
    let w = c.args.w in
    let d = c.requires.vertex in
    let rows : c.sum_dimension-rows.result ≡ sum_dim ws (other_side side) cover w = c.sum_dimension-rows.ensures ∙ ap (λ s. sum_dim ws s cover w) c.other.ensures in
    let first : c.sum_dimension-first.result ≡ sum_dim ws (other_side side) syzygy.vertices w = c.sum_dimension-first.ensures ∙ ap (λ s. sum_dim ws s syzygy.vertices w) c.other-2.ensures in
    let b : w < length m.dims = (let k = c.requires.m.counted in let sv = vertices_at_side side h in omega (arith, k, sv, d)) in
    let second : c.index.result.now ≡ dim_at (algebra_at side h).quiver m.dims w = c.index.ensures ∙ get_or_default_zero m.dims w c.index.result.now b ∙ sym (dim_at-is (algebra_at side h).quiver m.dims w (let sv = vertices_at_side side h in omega (arith, sv, d))) in
    let columns : c.sum_dimension-first.result + c.index.result.now ≡ sum_dim ws (other_side side) syzygy.vertices w + dim_at (algebra_at side h).quiver m.dims w = omega (arith, first, second) in
    let s3 = dim_within (algebra_at side h).quiver m.dims w in
    let s1 = p.cover_small.fits w d in
    let s2 = p.syzygy_small.fits w d in
    let len : length c.write_pullback.new.into ≡ 393216 = c.write_pullback.auto.into ∙ c.requires.into in
    let whole = wide_product c.sum_dimension-rows.result (c.sum_dimension-first.result + c.index.result.now) (length c.write_pullback.new.into) (omega (arith, rows, s1)) (omega (arith, columns, s2, s3, c.requires.m.small)) len in
    sym (length-take-le _ c.write_pullback.new.into whole)

pub echelon_rows-requires-clause-shape : goal.echelon_rows-requires-clause-shape
echelon_rows-requires-clause-shape c =
    let h = c.args.table.now.header in
    let ws = c.args.table.now.words in
    let side = c.args.side in
    let cover = c.args.cover.now in
    let syzygy = c.args.syzygy.now in
    let m = c.args.m.now in
    let phi = c.args.functional.now in
    let p = c.requires.presentation in
    let w = c.args.w in
    let d = c.requires.vertex in
    let rows : c.sum_dimension-rows.result ≡ sum_dim ws (other_side side) cover w = c.sum_dimension-rows.ensures ∙ ap (λ s. sum_dim ws s cover w) c.other.ensures in
    let first : c.sum_dimension-first.result ≡ sum_dim ws (other_side side) syzygy.vertices w = c.sum_dimension-first.ensures ∙ ap (λ s. sum_dim ws s syzygy.vertices w) c.other-2.ensures in
    let b : w < length m.dims = (let k = c.requires.m.counted in let sv = vertices_at_side side h in omega (arith, k, sv, d)) in
    let second : c.index.result.now ≡ dim_at (algebra_at side h).quiver m.dims w = c.index.ensures ∙ get_or_default_zero m.dims w c.index.result.now b ∙ sym (dim_at-is (algebra_at side h).quiver m.dims w (let sv = vertices_at_side side h in omega (arith, sv, d))) in
    let columns : c.sum_dimension-first.result + c.index.result.now ≡ sum_dim ws (other_side side) syzygy.vertices w + dim_at (algebra_at side h).quiver m.dims w = omega (arith, first, second) in
    let s3 = dim_within (algebra_at side h).quiver m.dims w in
    let s1 = p.cover_small.fits w d in
    let s2 = p.syzygy_small.fits w d in
    let len : length c.write_pullback.new.into ≡ 393216 = c.write_pullback.auto.into ∙ c.requires.into in
    let whole = wide_product c.sum_dimension-rows.result (c.sum_dimension-first.result + c.index.result.now) (length c.write_pullback.new.into) (omega (arith, rows, s1)) (omega (arith, columns, s2, s3, c.requires.m.small)) len in
    length-take-le _ c.write_pullback.new.into whole

pub echelon_rows-requires-clause-room : goal.echelon_rows-requires-clause-room
echelon_rows-requires-clause-room c =
    let h = c.args.table.now.header in
    let ws = c.args.table.now.words in
    let side = c.args.side in
    let cover = c.args.cover.now in
    let syzygy = c.args.syzygy.now in
    let m = c.args.m.now in
    let phi = c.args.functional.now in
    let p = c.requires.presentation in
    let w = c.args.w in
    let d = c.requires.vertex in
    let rows : c.sum_dimension-rows.result ≡ sum_dim ws (other_side side) cover w = c.sum_dimension-rows.ensures ∙ ap (λ s. sum_dim ws s cover w) c.other.ensures in
    let first : c.sum_dimension-first.result ≡ sum_dim ws (other_side side) syzygy.vertices w = c.sum_dimension-first.ensures ∙ ap (λ s. sum_dim ws s syzygy.vertices w) c.other-2.ensures in
    let b : w < length m.dims = (let k = c.requires.m.counted in let sv = vertices_at_side side h in omega (arith, k, sv, d)) in
    let second : c.index.result.now ≡ dim_at (algebra_at side h).quiver m.dims w = c.index.ensures ∙ get_or_default_zero m.dims w c.index.result.now b ∙ sym (dim_at-is (algebra_at side h).quiver m.dims w (let sv = vertices_at_side side h in omega (arith, sv, d))) in
    let columns : c.sum_dimension-first.result + c.index.result.now ≡ sum_dim ws (other_side side) syzygy.vertices w + dim_at (algebra_at side h).quiver m.dims w = omega (arith, first, second) in
    let s3 = dim_within (algebra_at side h).quiver m.dims w in
    let s1 = p.cover_small.fits w d in
    let s2 = p.syzygy_small.fits w d in
    let len : length c.write_pullback.new.into ≡ 393216 = c.write_pullback.auto.into ∙ c.requires.into in
    let whole = wide_product c.sum_dimension-rows.result (c.sum_dimension-first.result + c.index.result.now) (length c.write_pullback.new.into) (omega (arith, rows, s1)) (omega (arith, columns, s2, s3, c.requires.m.small)) len in
    omega (arith, rows, s1, c.requires.pivots)

pub overflow_cast-rows : goal.overflow_cast-rows
overflow_cast-rows c =
    let h = c.args.table.now.header in
    let ws = c.args.table.now.words in
    let side = c.args.side in
    let cover = c.args.cover.now in
    let syzygy = c.args.syzygy.now in
    let m = c.args.m.now in
    let phi = c.args.functional.now in
    let p = c.requires.presentation in
    let w = c.args.w in
    let d = c.requires.vertex in
    let rows : c.sum_dimension-rows.result ≡ sum_dim ws (other_side side) cover w = c.sum_dimension-rows.ensures ∙ ap (λ s. sum_dim ws s cover w) c.other.ensures in
    let first : c.sum_dimension-first.result ≡ sum_dim ws (other_side side) syzygy.vertices w = c.sum_dimension-first.ensures ∙ ap (λ s. sum_dim ws s syzygy.vertices w) c.other-2.ensures in
    let b : w < length m.dims = (let k = c.requires.m.counted in let sv = vertices_at_side side h in omega (arith, k, sv, d)) in
    let second : c.index.result.now ≡ dim_at (algebra_at side h).quiver m.dims w = c.index.ensures ∙ get_or_default_zero m.dims w c.index.result.now b ∙ sym (dim_at-is (algebra_at side h).quiver m.dims w (let sv = vertices_at_side side h in omega (arith, sv, d))) in
    let columns : c.sum_dimension-first.result + c.index.result.now ≡ sum_dim ws (other_side side) syzygy.vertices w + dim_at (algebra_at side h).quiver m.dims w = omega (arith, first, second) in
    let s3 = dim_within (algebra_at side h).quiver m.dims w in
    let s1 = p.cover_small.fits w d in
    let s2 = p.syzygy_small.fits w d in
    let len : length c.write_pullback.new.into ≡ 393216 = c.write_pullback.auto.into ∙ c.requires.into in
    let whole = wide_product c.sum_dimension-rows.result (c.sum_dimension-first.result + c.index.result.now) (length c.write_pullback.new.into) (omega (arith, rows, s1)) (omega (arith, columns, s2, s3, c.requires.m.small)) len in
    omega (arith, rows, s1)

pub overflow_cast-columns : goal.overflow_cast-columns
overflow_cast-columns c =
    let h = c.args.table.now.header in
    let ws = c.args.table.now.words in
    let side = c.args.side in
    let cover = c.args.cover.now in
    let syzygy = c.args.syzygy.now in
    let m = c.args.m.now in
    let phi = c.args.functional.now in
    let p = c.requires.presentation in
    let w = c.args.w in
    let d = c.requires.vertex in
    let rows : c.sum_dimension-rows.result ≡ sum_dim ws (other_side side) cover w = c.sum_dimension-rows.ensures ∙ ap (λ s. sum_dim ws s cover w) c.other.ensures in
    let first : c.sum_dimension-first.result ≡ sum_dim ws (other_side side) syzygy.vertices w = c.sum_dimension-first.ensures ∙ ap (λ s. sum_dim ws s syzygy.vertices w) c.other-2.ensures in
    let b : w < length m.dims = (let k = c.requires.m.counted in let sv = vertices_at_side side h in omega (arith, k, sv, d)) in
    let second : c.index.result.now ≡ dim_at (algebra_at side h).quiver m.dims w = c.index.ensures ∙ get_or_default_zero m.dims w c.index.result.now b ∙ sym (dim_at-is (algebra_at side h).quiver m.dims w (let sv = vertices_at_side side h in omega (arith, sv, d))) in
    let columns : c.sum_dimension-first.result + c.index.result.now ≡ sum_dim ws (other_side side) syzygy.vertices w + dim_at (algebra_at side h).quiver m.dims w = omega (arith, first, second) in
    let s3 = dim_within (algebra_at side h).quiver m.dims w in
    let s1 = p.cover_small.fits w d in
    let s2 = p.syzygy_small.fits w d in
    let len : length c.write_pullback.new.into ≡ 393216 = c.write_pullback.auto.into ∙ c.requires.into in
    let whole = wide_product c.sum_dimension-rows.result (c.sum_dimension-first.result + c.index.result.now) (length c.write_pullback.new.into) (omega (arith, rows, s1)) (omega (arith, columns, s2, s3, c.requires.m.small)) len in
    omega (arith, columns, s2, s3, c.requires.m.small)

pub overflow_cast-columns-2 : goal.overflow_cast-columns-2
overflow_cast-columns-2 c =
    let h = c.args.table.now.header in
    let ws = c.args.table.now.words in
    let side = c.args.side in
    let cover = c.args.cover.now in
    let syzygy = c.args.syzygy.now in
    let m = c.args.m.now in
    let phi = c.args.functional.now in
    let p = c.requires.presentation in
    let w = c.args.w in
    let d = c.requires.vertex in
    let rows : c.sum_dimension-rows.result ≡ sum_dim ws (other_side side) cover w = c.sum_dimension-rows.ensures ∙ ap (λ s. sum_dim ws s cover w) c.other.ensures in
    let first : c.sum_dimension-first.result ≡ sum_dim ws (other_side side) syzygy.vertices w = c.sum_dimension-first.ensures ∙ ap (λ s. sum_dim ws s syzygy.vertices w) c.other-2.ensures in
    let b : w < length m.dims = (let k = c.requires.m.counted in let sv = vertices_at_side side h in omega (arith, k, sv, d)) in
    let second : c.index.result.now ≡ dim_at (algebra_at side h).quiver m.dims w = c.index.ensures ∙ get_or_default_zero m.dims w c.index.result.now b ∙ sym (dim_at-is (algebra_at side h).quiver m.dims w (let sv = vertices_at_side side h in omega (arith, sv, d))) in
    let columns : c.sum_dimension-first.result + c.index.result.now ≡ sum_dim ws (other_side side) syzygy.vertices w + dim_at (algebra_at side h).quiver m.dims w = omega (arith, first, second) in
    let s3 = dim_within (algebra_at side h).quiver m.dims w in
    let s1 = p.cover_small.fits w d in
    let s2 = p.syzygy_small.fits w d in
    let len : length c.write_pullback.new.into ≡ 393216 = c.write_pullback.auto.into ∙ c.requires.into in
    let whole = wide_product c.sum_dimension-rows.result (c.sum_dimension-first.result + c.index.result.now) (length c.write_pullback.new.into) (omega (arith, rows, s1)) (omega (arith, columns, s2, s3, c.requires.m.small)) len in
    omega (arith, columns, s2, s3, c.requires.m.small)

pub returns : goal.returns
returns c = λ t.
    let h = c.args.table.now.header in
    let ws = c.args.table.now.words in
    let side = c.args.side in
    let cover = c.args.cover.now in
    let syzygy = c.args.syzygy.now in
    let m = c.args.m.now in
    let phi = c.args.functional.now in
    let p = c.requires.presentation in
    let w = c.args.w in
    let d = c.requires.vertex in
    let rows : c.sum_dimension-rows.result ≡ sum_dim ws (other_side side) cover w = c.sum_dimension-rows.ensures ∙ ap (λ s. sum_dim ws s cover w) c.other.ensures in
    let first : c.sum_dimension-first.result ≡ sum_dim ws (other_side side) syzygy.vertices w = c.sum_dimension-first.ensures ∙ ap (λ s. sum_dim ws s syzygy.vertices w) c.other-2.ensures in
    let b : w < length m.dims = (let k = c.requires.m.counted in let sv = vertices_at_side side h in omega (arith, k, sv, d)) in
    let second : c.index.result.now ≡ dim_at (algebra_at side h).quiver m.dims w = c.index.ensures ∙ get_or_default_zero m.dims w c.index.result.now b ∙ sym (dim_at-is (algebra_at side h).quiver m.dims w (let sv = vertices_at_side side h in omega (arith, sv, d))) in
    let columns : c.sum_dimension-first.result + c.index.result.now ≡ sum_dim ws (other_side side) syzygy.vertices w + dim_at (algebra_at side h).quiver m.dims w = omega (arith, first, second) in
    let s3 = dim_within (algebra_at side h).quiver m.dims w in
    let s1 = p.cover_small.fits w d in
    let s2 = p.syzygy_small.fits w d in
    let len : length c.write_pullback.new.into ≡ 393216 = c.write_pullback.auto.into ∙ c.requires.into in
    let whole = wide_product c.sum_dimension-rows.result (c.sum_dimension-first.result + c.index.result.now) (length c.write_pullback.new.into) (omega (arith, rows, s1)) (omega (arith, columns, s2, s3, c.requires.m.small)) len in
    rank_of_rows h.field _ _ c.sum_dimension-rows.result (c.sum_dimension-first.result + c.index.result.now) (pulled_back h ws t side m cover phi syzygy w) c.write_pullback.new.into (take (c.sum_dimension-rows.result * (c.sum_dimension-first.result + c.index.result.now)) c.write_pullback.new.into) c.echelon_rows.new.entries c.echelon_rows.new.pivots c.echelon_rows.result
    (dim_across h ws t side cover w ∙ sym rows) (ap (λ n. n + dim_at (algebra_at side h).quiver m.dims w) (dim_across h ws t side syzygy.vertices w) ∙ sym columns)
    (subst (λ n. FirstRows (pulled_back h ws t side m cover phi syzygy w) n c.sum_dimension-rows.result c.write_pullback.new.into) (sym columns) (subst (λ n. FirstRows (pulled_back h ws t side m cover phi syzygy w) (sum_dim ws (other_side side) syzygy.vertices w + dim_at (algebra_at side h).quiver m.dims w) n c.write_pullback.new.into) (sym rows) (c.write_pullback.ensures.matrix t))) refl
    (AreElements-take h.field _ c.write_pullback.new.into whole c.write_pullback.ensures.elements)
    (subst (λ (q : Gf). AreElements q c.echelon_rows.new.entries) (ap (λ (h : Header). h.field) c.header.ensures.header) c.echelon_rows.ensures.elements)
    (subst (λ (q : Gf). ReducesTo q (c.sum_dimension-first.result + c.index.result.now) (rows_of c.sum_dimension-rows.result (c.sum_dimension-first.result + c.index.result.now) (take (c.sum_dimension-rows.result * (c.sum_dimension-first.result + c.index.result.now)) c.write_pullback.new.into)) (rows_of c.sum_dimension-rows.result (c.sum_dimension-first.result + c.index.result.now) c.echelon_rows.new.entries) c.echelon_rows.new.pivots c.echelon_rows.result) (ap (λ (h : Header). h.field) c.header.ensures.header) c.echelon_rows.ensures.form)
