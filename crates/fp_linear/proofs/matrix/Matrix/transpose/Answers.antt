use Rattle.std.proofs.Common.{◌≡◌, ◌*◌, sym, ap, ◌∙◌, arith, length, replicate, refl}
use Rattle.std.proofs.lemmas.List.{take_at, length-replicate}
use Rattle.linear_algebra.specs.Rows.{rows_of}
use Rattle.fp_linear.specs.Matrix.{plain}
use Rattle.fp_linear.proofs.Slices.{AreElements-zeros}
use Rattle.fp_linear.proofs.Matrices.{HoldsMatrix-written}
use Rattle.fp_linear.proofs.Products.{rows_of-transposed}
use Rattle.fp_linear.proofs.matrix.Matrix.transpose.Goals as goal

pub invariant_of-result : goal.invariant_of-result
invariant_of-result c =
    let q = c.self.inside.field in
    let m = c.self.inside.rows in
    let n = c.self.inside.cols in
    let zeros : c.in_ok-entries.entries.items ≡ replicate (m * n) 0 = c.in_ok-entries.ensures.items_if_clones_equal (λ y h. h) in
    let len : c.in_ok-entries.entries.len ≡ length c.put_columns.new.target = omega (arith, c.deref_mut.ensures.len, c.put_columns.auto.target) in
    let count : length c.put_columns.new.target ≡ m * n = c.put_columns.auto.target ∙ ap length c.deref_mut.ensures.value ∙ ap length zeros ∙ length-replicate (m * n) 0 in
    HoldsMatrix-written q n m c.in_ok-entries.entries.len _ _ c.put_columns.new.target refl len (count ∙ omega arith)
    (c.put_columns.ensures.elements q (rw c.deref.ensures.value c.self.invariant.small) (rw c.deref_mut.ensures.value (AreElements-zeros q (m * n) _ zeros))) (omega (arith, c.self.invariant.fits))

pub returns : goal.returns
returns c =
    let q = c.self.inside.field in
    let m = c.self.inside.rows in
    let n = c.self.inside.cols in
    let zeros : c.in_ok-entries.entries.items ≡ replicate (m * n) 0 = c.in_ok-entries.ensures.items_if_clones_equal (λ y h. h) in
    let len : c.in_ok-entries.entries.len ≡ length c.put_columns.new.target = omega (arith, c.deref_mut.ensures.len, c.put_columns.auto.target) in
    let entries : c.deref.result.now ≡ c.self.inside.entries.items = c.deref.ensures.value in
    rw (← c.self.view_is)
    (ap (plain q n m) (ap (rows_of n m) (take_at c.put_columns.new.target _ _ (sym len)) ∙ rows_of-transposed m n c.self.inside.entries.items c.put_columns.new.target _ (rw entries at c.put_columns.ensures.columns)))
