use Rattle.std.proofs.Common.{ℕ, ◌≡◌, ◌<◌, List, length, get_or, sym, ap, ◌∙◌, arith}
use Rattle.std.proofs.lemmas.List.{take_at, length-replicate}
use Rattle.linear_algebra.specs.Rows.{rows_of}
use Rattle.linear_algebra.specs.Reduced.{remainder}
use Rattle.linear_algebra.specs.Separators.{IsFunctionalAt}
use Rattle.linear_algebra.proofs.Rows.{length-rows_of}
use Rattle.linear_algebra.proofs.SeparateRows.{in_span_of_zero, pivot_not_column, IsSeparated-by}
use Rattle.fp_linear.proofs.Cells.{IsGrid-rows_of}
use Rattle.fp_linear.proofs.LentProducts.{pivot_at}
use Rattle.fp_linear.proofs.separate.separating_by.Goals as goal

pub returns-in-None : goal.returns-in-None
returns-in-None c =
    let q = c.args.field in
    let m = length c.args.pivots.now in
    let n = length c.args.x.now in
    let form = rows_of m n c.args.rows.now in
    let x : c.deref_mut.result.now ≡ c.args.x.now = c.deref_mut.ensures.value ∙ c.in_ok-rest.ensures.items in
    let rest : c.deref.result.now ≡ c.clear_row.new.x = c.deref.ensures.value ∙ take_at c.clear_row.new.x _ _ (omega (arith, c.deref_mut.ensures.len, c.clear_row.auto.x)) in
    let size : length c.deref.result.now ≡ n = ap length rest ∙ c.clear_row.auto.x ∙ ap length x in
    let is : c.deref.result.now ≡ remainder q n form c.args.x.now = rest ∙ c.clear_row.ensures.remainder ∙ ap (λ (y : List ℕ). remainder q (length y) (rows_of m (length y) c.args.rows.now) y) x in
    in_span_of_zero q n form c.args.x.now (record { count = omega arith; small = c.requires.elements.small }) (λ j l. ap (λ (y : List ℕ). get_or y j 0) (sym is) ∙ c.in-None.ensures j (omega (arith, size, l)))

pub write_functional-requires-clause-apart : goal.write_functional-requires-clause-apart
write_functional-requires-clause-apart c = λ i l e.
    let q = c.args.field in
    let m = length c.args.pivots.now in
    let n = length c.args.x.now in
    let form = rows_of m n c.args.rows.now in
    let x : c.deref_mut.result.now ≡ c.args.x.now = c.deref_mut.ensures.value ∙ c.in_ok-rest.ensures.items in
    let rest : c.deref.result.now ≡ c.clear_row.new.x = c.deref.ensures.value ∙ take_at c.clear_row.new.x _ _ (omega (arith, c.deref_mut.ensures.len, c.clear_row.auto.x)) in
    let is : c.deref.result.now ≡ remainder q n form c.args.x.now = rest ∙ c.clear_row.ensures.remainder ∙ ap (λ (y : List ℕ). remainder q (length y) (rows_of m (length y) c.args.rows.now) y) x in
    let inside : i < length form = omega (arith, length-rows_of m n c.args.rows.now, l) in
    pivot_not_column q m n c.in-Some.column form c.args.x.now (IsGrid-rows_of q m n c.args.rows.now c.requires.rows_elements) c.requires.reduced (record { count = omega arith; small = c.requires.elements.small })
    (λ z. c.in-Some.ensures.1 (ap (λ (y : List ℕ). get_or y c.in-Some.column 0) is ∙ z)) i inside (sym (pivot_at form c.args.pivots.now i c.requires.pivots inside) ∙ e)

pub returns : goal.returns
returns c = λ k start grid span.
    let q = c.args.field in
    let m = length c.args.pivots.now in
    let n = length c.args.x.now in
    let form = rows_of m n c.args.rows.now in
    let x : c.deref_mut.result.now ≡ c.args.x.now = c.deref_mut.ensures.value ∙ c.in_ok-rest.ensures.items in
    let rest : c.deref.result.now ≡ c.clear_row.new.x = c.deref.ensures.value ∙ take_at c.clear_row.new.x _ _ (omega (arith, c.deref_mut.ensures.len, c.clear_row.auto.x)) in
    let size : length c.deref.result.now ≡ n = ap length rest ∙ c.clear_row.auto.x ∙ ap length x in
    let is : c.deref.result.now ≡ remainder q n form c.args.x.now = rest ∙ c.clear_row.ensures.remainder ∙ ap (λ (y : List ℕ). remainder q (length y) (rows_of m (length y) c.args.rows.now) y) x in
    let y = c.write_functional.new.functional in
    let width : length c.deref_mut-in-Some.result.now ≡ n = ap length c.deref_mut-in-Some.ensures.value ∙ ap length (c.in_ok-functional-in-Some.ensures.items_if_clones_equal (λ y h. h)) ∙ length-replicate n 0 in
    let functional : IsFunctionalAt q n form c.in-Some.column y = rw width at c.write_functional.ensures in
    rw (take_at y _ c.in_ok-functional-in-Some.functional.len (omega (arith, c.deref_mut-in-Some.ensures.len, c.write_functional.auto.functional)))
    (IsSeparated-by q k m n c.in-Some.column start form c.args.x.now y grid (IsGrid-rows_of q m n c.args.rows.now c.requires.rows_elements) c.requires.reduced span (record { count = omega arith; small = c.requires.elements.small })
    (omega (arith, c.in-Some.ensures.0, size)) (λ j l. ap (λ (y : List ℕ). get_or y j 0) (sym is) ∙ c.in-Some.ensures.2 j l) (λ z. c.in-Some.ensures.1 (ap (λ (y : List ℕ). get_or y c.in-Some.column 0) is ∙ z)) functional)
