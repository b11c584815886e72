use Rattle.std.proofs.Common.{◌≡◌, ◌<◌, ◌∙◌, sym, ap, arith, [], slice_index_or}
use Rattle.fp_linear.specs.Matrix.{PlainMatrix}
use Rattle.hom_space.proofs.RowsInBases.{inside_here, row_here}
use Rattle.hom_space.proofs.tests.coordinates_of_a_row.Goals as goal

pub coordinates-requires-clause-row : goal.coordinates-requires-clause-row
coordinates-requires-clause-row g c =
    let m = c.in_ok-copy.copy in
    let two : m.row_count ≡ 2 = ap (λ (m : PlainMatrix). m.row_count) (c.in_ok-copy.ensures.cases ∙ c.in_ok-matrix.ensures) in
    row_here m c.in_ok-basis.basis c.in_ok-basis.ensures.shape 0 c.row.result.now (omega (arith, two)) (c.row.ensures.row ∙ ap (λ (m : PlainMatrix). slice_index_or m.rows 0 []) (sym c.in_ok-copy.ensures.cases))
    (rw c.in_ok-copy.ensures.cases c.row.ensures.matrix)

pub coordinates-requires-clause-inside : goal.coordinates-requires-clause-inside
coordinates-requires-clause-inside g c =
    let m = c.in_ok-copy.copy in
    let two : m.row_count ≡ 2 = ap (λ (m : PlainMatrix). m.row_count) (c.in_ok-copy.ensures.cases ∙ c.in_ok-matrix.ensures) in
    inside_here m c.in_ok-basis.basis c.in_ok-basis.ensures.shape 0 c.row.result.now (omega (arith, two)) (c.row.ensures.row ∙ ap (λ (m : PlainMatrix). slice_index_or m.rows 0 []) (sym c.in_ok-copy.ensures.cases))
    c.in_ok-basis.ensures.form
