use Rattle.std.proofs.Common.{◌≡◌, ◌≤◌, ◌*◌, length, take, sym, ap, ◌∙◌, arith}
use Rattle.std.proofs.lemmas.List.{take_at, length-replicate}
use Rattle.fp_linear.specs.Matrix.{PlainMatrix}
use Rattle.fp_linear.specs.Slices.{AreElements}
use Rattle.row_spaces.proofs.FreeColumns.{AreFree-count}
use Rattle.row_spaces.proofs.ReducedForms.{orthogonal_in_place, free_fit, IsMatrix-written}
use Rattle.row_spaces.proofs.orthogonal.orthogonal_rows.Goals as goal

pub overflow_mul-count : goal.overflow_mul-count
overflow_mul-count c =
    let few : c.len-count.result ≤ c.args.matrix.col_count = omega (arith, AreFree-count _ _ _ c.in_ok-free.ensures.free, c.cols-cols.ensures.count, c.len-count.ensures) in
    let size : c.len-count.result * c.cols-cols.result ≤ 67108864 = free_fit _ _ _ _ few c.cols-cols.ensures.count c.requires in
    omega (arith, size)

pub overflow_cast-count : goal.overflow_cast-count
overflow_cast-count c = omega (arith, AreFree-count _ _ _ c.in_ok-free.ensures.free, c.len-count.ensures, c.cols-cols.type_inv)

pub from_entries-requires-clause-size : goal.from_entries-requires-clause-size
from_entries-requires-clause-size c =
    let few : c.len-count.result ≤ c.args.matrix.col_count = omega (arith, AreFree-count _ _ _ c.in_ok-free.ensures.free, c.cols-cols.ensures.count, c.len-count.ensures) in
    free_fit _ _ _ _ few c.cols-cols.ensures.count c.requires

pub returns-clause-matrix : goal.returns-clause-matrix
returns-clause-matrix c =
    let few : c.len-count.result ≤ c.args.matrix.col_count = omega (arith, AreFree-count _ _ _ c.in_ok-free.ensures.free, c.cols-cols.ensures.count, c.len-count.ensures) in
    let written : c.deref-4.result.now ≡ c.write_functionals.new.entries = c.deref-4.ensures.value ∙ take_at c.write_functionals.new.entries _ _ (omega (arith, c.deref_mut-2.ensures.len, c.write_functionals.auto.entries)) in
    let field : c.field-field.result ≡ c.echelon_in_place-rank.new.m.field = c.field-field.ensures.field ∙ sym (ap (λ (m : PlainMatrix). m.field) c.echelon_in_place-rank.ensures.shape) in
    let small : AreElements c.field-field.result c.deref-4.result.now = rw (field, written) c.write_functionals.ensures.elements in
    rw c.in_ok-rows.ensures (IsMatrix-written _ _ _ _ small (free_fit _ _ _ _ few c.cols-cols.ensures.count c.requires))

pub returns-clause-basis : goal.returns-clause-basis
returns-clause-basis c =
    let old = c.args.matrix in
    let new = c.echelon_in_place-rank.new.m in
    let ps = c.echelon_in_place-rank.new.pivots in
    let rank = c.echelon_in_place-rank.result in
    let room : length ps ≡ old.row_count =
    c.echelon_in_place-rank.auto.pivots ∙ ap length c.deref_mut.ensures.value ∙ ap length (c.in_ok-pivots.ensures.items_if_clones_equal (λ y h. h)) ∙ length-replicate _ 0 ∙ c.rows.ensures.count in
    let lent : c.deref-2.result.now ≡ ps = c.deref-2.ensures.value ∙ take_at ps _ _ (omega (arith, c.deref_mut.ensures.len, c.echelon_in_place-rank.auto.pivots)) in
    let first : c.deref.result.now ≡ ps = c.deref.ensures.value ∙ take_at ps _ _ (omega (arith, c.deref_mut.ensures.len, c.echelon_in_place-rank.auto.pivots)) in
    let written : c.deref-4.result.now ≡ c.write_functionals.new.entries = c.deref-4.ensures.value ∙ take_at c.write_functionals.new.entries _ _ (omega (arith, c.deref_mut-2.ensures.len, c.write_functionals.auto.entries)) in
    rw (c.in_ok-rows.ensures)
    (orthogonal_in_place old new ps (take rank c.deref-2.result.now) c.in_ok-free.free.items c.deref-4.result.now rank c.len-count.result c.cols-cols.result
    c.echelon_in_place-rank.ensures.shape c.field-field.ensures.matrix c.echelon_in_place-rank.ensures.matrix c.echelon_in_place-rank.ensures.form (ap (take rank) lent) room (omega (arith, c.len-count.ensures)) c.cols-cols.ensures.count
    (rw lent (rw (first) at c.in_ok-free.ensures.free)) (rw (written, ← c.deref-3.ensures.value) c.write_functionals.ensures.functionals) (rw written c.write_functionals.ensures.elements))
