use Rattle.std.proofs.Common.{ℕ, ◌≡◌, ◌≤◌, ◌*◌, length, take, sym, ap, ◌∙◌, arith}
use Rattle.std.proofs.lemmas.List.{take_at, length-replicate, length-take-le}
use Rattle.linear_algebra.specs.Rows.{rows_of, IsGrid, IsInSpan, SameSpan}
use Rattle.linear_algebra.proofs.Rows.{length-rows_of}
use Rattle.linear_algebra.specs.Separators.{IsSeparated}
use Rattle.fp_linear.proofs.SeparateOf.{rows_of-taken, MatchOption-told}
use Rattle.fp_linear.proofs.separate.separating.Goals as goal

pub separating_by-requires-clause-reduced : goal.separating_by-requires-clause-reduced
separating_by-requires-clause-reduced c =
    let q = c.field-field.result in
    let m = c.rows-row_count.result in
    let n = c.cols-col_count.result in
    let rank = c.echelon_rows-rank.result in
    let reduced = c.echelon_rows-rank.new.entries in
    let ps = c.echelon_rows-rank.new.pivots in
    let form = take rank (rows_of m n reduced) in
    let width : length c.args.x.now ≡ n = c.requires.count ∙ sym c.cols-col_count.ensures.count in
    let fits : rank ≤ m = omega (arith, c.echelon_rows-rank.ensures.form.fits, length-rows_of m n reduced) in
    let entries : c.deref.result.now ≡ reduced = c.deref.ensures.value ∙ take_at reduced _ _ (omega (arith, c.deref_mut.ensures.len, c.echelon_rows-rank.auto.entries)) in
    let pivots : c.deref-2.result.now ≡ ps = c.deref-2.ensures.value ∙ take_at ps _ _ (omega (arith, c.deref_mut-2.ensures.len, c.echelon_rows-rank.auto.pivots)) in
    let room : length ps ≡ m = c.echelon_rows-rank.auto.pivots ∙ ap length c.deref_mut-2.ensures.value ∙ ap length (c.in_ok-pivots.ensures.items_if_clones_equal (λ y h. h)) ∙ length-replicate m 0 in
    let count : length (take rank c.deref-2.result.now) ≡ rank = length-take-le rank c.deref-2.result.now (omega (arith, ap length pivots, room, fits)) in
    let is : rows_of (length (take rank c.deref-2.result.now)) (length c.args.x.now) (take (rank * n) c.deref.result.now) ≡ form = rows_of-taken m n rank _ _ reduced _ fits count width entries in
    rw (is, width) c.echelon_rows-rank.ensures.form.reduced

pub separating_by-requires-clause-pivots : goal.separating_by-requires-clause-pivots
separating_by-requires-clause-pivots c =
    let q = c.field-field.result in
    let m = c.rows-row_count.result in
    let n = c.cols-col_count.result in
    let rank = c.echelon_rows-rank.result in
    let reduced = c.echelon_rows-rank.new.entries in
    let ps = c.echelon_rows-rank.new.pivots in
    let form = take rank (rows_of m n reduced) in
    let width : length c.args.x.now ≡ n = c.requires.count ∙ sym c.cols-col_count.ensures.count in
    let fits : rank ≤ m = omega (arith, c.echelon_rows-rank.ensures.form.fits, length-rows_of m n reduced) in
    let entries : c.deref.result.now ≡ reduced = c.deref.ensures.value ∙ take_at reduced _ _ (omega (arith, c.deref_mut.ensures.len, c.echelon_rows-rank.auto.entries)) in
    let pivots : c.deref-2.result.now ≡ ps = c.deref-2.ensures.value ∙ take_at ps _ _ (omega (arith, c.deref_mut-2.ensures.len, c.echelon_rows-rank.auto.pivots)) in
    let room : length ps ≡ m = c.echelon_rows-rank.auto.pivots ∙ ap length c.deref_mut-2.ensures.value ∙ ap length (c.in_ok-pivots.ensures.items_if_clones_equal (λ y h. h)) ∙ length-replicate m 0 in
    let count : length (take rank c.deref-2.result.now) ≡ rank = length-take-le rank c.deref-2.result.now (omega (arith, ap length pivots, room, fits)) in
    let is : rows_of (length (take rank c.deref-2.result.now)) (length c.args.x.now) (take (rank * n) c.deref.result.now) ≡ form = rows_of-taken m n rank _ _ reduced _ fits count width entries in
    rw is (ap (take rank) pivots ∙ c.echelon_rows-rank.ensures.form.columns)

pub returns : goal.returns
returns c =
    let q = c.field-field.result in
    let m = c.rows-row_count.result in
    let n = c.cols-col_count.result in
    let rank = c.echelon_rows-rank.result in
    let reduced = c.echelon_rows-rank.new.entries in
    let ps = c.echelon_rows-rank.new.pivots in
    let form = take rank (rows_of m n reduced) in
    let width : length c.args.x.now ≡ n = c.requires.count ∙ sym c.cols-col_count.ensures.count in
    let fits : rank ≤ m = omega (arith, c.echelon_rows-rank.ensures.form.fits, length-rows_of m n reduced) in
    let entries : c.deref.result.now ≡ reduced = c.deref.ensures.value ∙ take_at reduced _ _ (omega (arith, c.deref_mut.ensures.len, c.echelon_rows-rank.auto.entries)) in
    let pivots : c.deref-2.result.now ≡ ps = c.deref-2.ensures.value ∙ take_at ps _ _ (omega (arith, c.deref_mut-2.ensures.len, c.echelon_rows-rank.auto.pivots)) in
    let room : length ps ≡ m = c.echelon_rows-rank.auto.pivots ∙ ap length c.deref_mut-2.ensures.value ∙ ap length (c.in_ok-pivots.ensures.items_if_clones_equal (λ y h. h)) ∙ length-replicate m 0 in
    let count : length (take rank c.deref-2.result.now) ≡ rank = length-take-le rank c.deref-2.result.now (omega (arith, ap length pivots, room, fits)) in
    let is : rows_of (length (take rank c.deref-2.result.now)) (length c.args.x.now) (take (rank * n) c.deref.result.now) ≡ form = rows_of-taken m n rank _ _ reduced _ fits count width entries in
    let x = c.args.x.now in
    let fe : q ≡ c.args.rows.now.field = c.field-field.ensures.field in
    let re : m ≡ c.args.rows.now.row_count = c.rows-row_count.ensures.count in
    let ce : n ≡ c.args.rows.now.col_count = c.cols-col_count.ensures.count in
    let starts : rows_of m n c.deref_mut.result.now ≡ c.args.rows.now.rows = ap (rows_of m n) c.deref_mut.ensures.value ∙ ap (λ (a : ℕ). rows_of a n c.in_ok-entries.entries.items) re ∙ ap (λ (a : ℕ). rows_of c.args.rows.now.row_count a c.in_ok-entries.entries.items) ce ∙ c.in_ok-entries.ensures.rows in
    let span : SameSpan q n c.args.rows.now.rows form = rw starts at c.echelon_rows-rank.ensures.form.span in
    let there : SameSpan q (length x) c.args.rows.now.rows (rows_of (length (take rank c.deref-2.result.now)) (length x) (take (rank * n) c.deref.result.now)) = rw (is, width) span in
    let wide : length x ≡ c.args.rows.now.col_count = c.requires.count in
    let grid : IsGrid q m (length x) c.args.rows.now.rows = rw (fe, re, wide) c.field-field.ensures.matrix.grid in
    MatchOption-told c.in_ok-functional.functional
    (λ s. let t : IsInSpan q (length x) c.args.rows.now.rows x = there.back x s in rw (fe, wide) at t)
    (λ y s. let t : IsSeparated q (length x) c.args.rows.now.rows x y.items = s m c.args.rows.now.rows grid there in rw (fe, wide) at t)
    c.in_ok-functional.ensures
