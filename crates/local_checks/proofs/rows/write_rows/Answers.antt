use Rattle.std.proofs.Common.{ℕ, ◌<◌, ◌+◌, ◌-◌, ◌*◌, ◌∙◌, ap, arith, length}
use Rattle.local_checks.proofs.RowLists.{copy_step, written_rows, matrix_row}
use Rattle.local_checks.proofs.rows.write_rows.Goals as goal

pub loop-i-preserved : goal.loop-i-preserved
loop-i-preserved c =
    let M = c.args.matrix.now in
    let inside : c.loop-i.i < M.row_count = omega (arith, c.loop-i-test.true, c.rows-i-end.ensures.count) in
    let copied = c.copy_from_slice.ensures.after ∙ c.row.ensures.row in
    rw c.cols-cols.ensures.count
    (let s = copy_step M.field M.row_count M.col_count c.loop-i.i (c.loop-i.i * M.col_count + M.col_count - c.loop-i.i * M.col_count) M.rows c.args.rows.now c.loop-i.rows c.copy_from_slice.new.self inside
    (c.loop-i.auto.rows ∙ c.requires.count) (omega arith) copied (ap length copied ∙ c.row.ensures.matrix.grid.width c.loop-i.i inside)
    c.loop-i.invariant.elements (matrix_row M c.row.ensures.matrix c.loop-i.i c.copy_from_slice.new.self copied) c.loop-i.invariant.written in
    record { written = s.0; elements = s.1 })

pub returns-clause-rows : goal.returns-clause-rows
returns-clause-rows c = written_rows c.args.matrix.now.field c.args.matrix.now.row_count c.args.matrix.now.col_count (c.loop-i.i * c.args.matrix.now.col_count) c.args.matrix.now.rows c.args.rows.now c.loop-i.rows
    c.rows-i-end.ensures.matrix.grid (ap (λ (k : ℕ). k * c.args.matrix.now.col_count) (omega (arith, c.loop-i-test.false, c.loop-i.auto.i-end, c.rows-i-end.ensures.count))) c.loop-i.invariant.written
