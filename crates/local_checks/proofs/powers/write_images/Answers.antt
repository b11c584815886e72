use Rattle.std.proofs.Common.{ℕ, ◌+◌, ◌-◌, ◌*◌, ◌∙◌, ap, arith, drop, take}
use Rattle.linear_algebra.specs.Rows.{rows_of}
use Rattle.linear_algebra.proofs.Rows.{length-rows_of}
use Rattle.fp_linear.proofs.Matrices.{row-part}
use Rattle.fp_linear.proofs.Cells.{IsGrid-rows_of}
use Rattle.local_checks.proofs.Places.{lent_length, row_room}
use Rattle.local_checks.proofs.RowLists.{product_step, combinations_standing}
use Rattle.local_checks.proofs.powers.write_images.Goals as goal

pub loop-i-preserved : goal.loop-i-preserved
loop-i-preserved c =
    let n : ℕ = c.args.size in
    let k : ℕ = c.loop-i.i * n + n - c.loop-i.i * n in
    let room = row_room c.args.count n c.loop-i.i c.args.rows.now c.requires.rows_count c.loop-i-test.true in
    let s = product_step c.args.field c.args.count n n c.loop-i.i k (rows_of c.args.count n c.args.rows.now) (take k (drop (c.loop-i.i * n) c.args.rows.now)) c.args.block.now c.args.out.now c.loop-i.out c.multiply_row.new.out
    c.loop-i-test.true (length-rows_of c.args.count n c.args.rows.now) (c.loop-i.auto.out ∙ c.requires.count) (omega arith) (row-part c.args.count n c.loop-i.i k c.args.rows.now c.requires.rows_count c.loop-i-test.true (omega arith))
    (lent_length c.args.rows.now (c.loop-i.i * n) k (omega (arith, room)) ∙ (omega arith)) c.loop-i.invariant.elements c.multiply_row.ensures.elements c.multiply_row.ensures.product c.loop-i.invariant.written in
    record { written = s.0; elements = s.1 }

pub returns-clause-images : goal.returns-clause-images
returns-clause-images c = combinations_standing c.args.field c.args.count c.args.size c.args.size (c.loop-i.i * c.args.size) (rows_of c.args.count c.args.size c.args.rows.now) c.args.block.now
    c.args.out.now c.loop-i.out (IsGrid-rows_of c.args.field c.args.count c.args.size c.args.rows.now c.requires.rows_elements) c.requires.block_elements (ap (λ (k : ℕ). k * c.args.size) (omega (arith, c.loop-i-test.false, c.loop-i.auto.i-end))) c.loop-i.invariant.written
