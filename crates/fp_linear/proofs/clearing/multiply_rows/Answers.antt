use Rattle.std.proofs.Common.{◌≡◌, ◌≤◌, ◌+◌, ◌*◌, ◌-◌, take, drop, length, sym, ap, ◌∙◌, arith}
use Rattle.std.proofs.lemmas.List.{length-drop, length-take-le, get_or-take, get_or-drop}
use Rattle.std.proofs.lemmas.Nat.{row_fits}
use Rattle.linear_algebra.specs.Rows.{times, rows_of}
use Rattle.fp_linear.proofs.Cells.{cell-is}
use Rattle.fp_linear.proofs.LentRows.{IsWritten-part}
use Rattle.fp_linear.proofs.Products.{HasProductRows-none, HasProductRows-more, HasProductRows-elements, rows_of-product}
use Rattle.fp_linear.proofs.clearing.multiply_rows.Goals as goal

pub loop-i-init : goal.loop-i-init
loop-i-init c = HasProductRows-none _ _ _ _ _ _

pub loop-i-preserved : goal.loop-i-preserved
loop-i-preserved c =
    let k = c.args.inner in
    let n = c.args.cols in
    let i = c.loop-i.i in
    let x = take (i * k + k - i * k) (drop (i * k) c.args.left.now) in
    let k_is : i * k + k - i * k ≡ k = omega arith in
    let n_is : i * n + n - i * n ≡ n = omega arith in
    let left : i * k + k ≤ length c.args.left.now = omega (arith, row_fits i k c.args.rows k c.loop-i-test.true (omega arith), c.requires.left_shape) in
    let out : i * n + n ≤ length c.loop-i.out = omega (arith, row_fits i n c.args.rows n c.loop-i-test.true (omega arith), c.requires.shape, c.loop-i.auto.out) in
    let count : length x ≡ k = length-take-le _ _ (omega (arith, length-drop (i * k) c.args.left.now, left)) ∙ k_is in
    let width : length (take (i * n + n - i * n) (drop (i * n) c.loop-i.out)) ≡ n = length-take-le _ _ (omega (arith, length-drop (i * n) c.loop-i.out, out)) ∙ n_is in
    HasProductRows-more c.args.field c.args.rows k n i c.args.left.now c.args.right.now c.loop-i.out x c.multiply_row.new.out _ c.loop-i-test.true count
    (λ u l. get_or-take _ _ u 0 (omega (arith, k_is, l)) ∙ get_or-drop (i * k) c.args.left.now u 0 ∙ sym (cell-is k c.args.left.now i u))
    (c.multiply_row.ensures.product ∙ ap (λ w. times c.args.field w x (rows_of (length x) w c.args.right.now)) width)
    (IsWritten-part (i * n) n _ c.loop-i.out c.multiply_row.new.out n_is (c.multiply_row.auto.out ∙ width) out) c.loop-i.invariant

pub returns-clause-product : goal.returns-clause-product
returns-clause-product c =
    let end : c.loop-i.i ≡ c.args.rows = omega (arith, c.loop-i-test.false, c.loop-i.auto.i-end) in
    rows_of-product c.args.field c.args.rows c.args.inner c.args.cols c.args.left.now c.args.right.now c.loop-i.out (rw end at c.loop-i.invariant)

pub returns-clause-elements : goal.returns-clause-elements
returns-clause-elements c =
    let end : c.loop-i.i ≡ c.args.rows = omega (arith, c.loop-i-test.false, c.loop-i.auto.i-end) in
    HasProductRows-elements c.args.field c.args.rows c.args.inner c.args.cols _ _ c.loop-i.out (c.loop-i.auto.out ∙ c.requires.shape) (rw end at c.loop-i.invariant)
