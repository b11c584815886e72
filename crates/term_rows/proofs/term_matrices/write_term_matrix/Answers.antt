use Rattle.std.proofs.Common.{◌≡◌, length, sym, ap, ◌∙◌, arith}
use Rattle.linear_algebra.specs.BlockFamilies.{total}
use Rattle.module_types.specs.declared.TermRows.{TermRows}
use Rattle.claim_conditions.specs.Terms.{vertices_at}
use Rattle.term_rows.specs.RowSteps.{part_dim}
use Rattle.term_rows.specs.TermCells.{matrix_in}
use Rattle.term_rows.proofs.TermRowCells.{term_is, matrix_of_rows, rows_are, columns_are}
use Rattle.term_rows.proofs.term_matrices.write_term_matrix.Goals as goal

pub returns-clause-matrix : goal.returns-clause-matrix
returns-clause-matrix c = λ t.
    let h = c.args.table.now.header in
    let ws = c.args.table.now.words in
    let a = c.args.a.now in
    let terms = c.args.terms.now in
    let k = c.args.k in
    let w = c.args.w in
    let is = term_is ws h a terms k c.requires.terms c.index.result.now c.index.ensures in
    let all : length (vertices_at terms k) ≡ c.loop-j.j = ap (λ (t : TermRows). length t.vertices) (sym is) ∙ sym c.len-j-end.ensures ∙ omega (arith, c.loop-j-test.false, c.loop-j.auto.j-end) in
    matrix_of_rows (matrix_in h ws t a terms k w) c.loop-j.at c.target_dimension-columns.result c.loop-j.into c.loop-j.invariant.elements
    (rows_are h ws t a terms k c.requires.terms w ∙ ap (λ j. total j (part_dim ws a.side (vertices_at terms k) w)) all ∙ sym c.loop-j.invariant.at)
    (columns_are h ws t a terms k c.requires.terms w ∙ sym c.target_dimension-columns.ensures)
    (c.loop-j.invariant.rows t)
