use Rattle.std.proofs.Common.{ℕ, ◌≡◌, ◌*◌, length, sym, ap, ◌∙◌, arith, subst, refl}
use Rattle.std.proofs.lemmas.List.{length-drop}
use Rattle.linear_algebra.specs.FieldLaws.{order-pos}
use Rattle.linear_algebra.specs.Rows.{rows_of, times}
use Rattle.linear_algebra.proofs.Rows.{length-rows_of}
use Rattle.fp_linear.specs.Elimination.{IsProductOf}
use Rattle.fp_linear.proofs.LentRows.{AreElements-take, AreElements-drop}
use Rattle.fp_linear.proofs.LentProducts.{row_fits, row_part, IsProductOf-none, IsProductOf-more, IsProductOf-times}
use Rattle.fp_linear.proofs.clearing.multiply_row.Goals as goal

pub loop-i-init : goal.loop-i-init
loop-i-init c = record {
  product = IsProductOf-none c.args.field _ c.args.x.now _ c.make_zero.new.row (λ j l. c.make_zero.ensures j);
  elements = record { small = λ k. rw (c.make_zero.ensures k) (order-pos c.args.field) };
}

pub add_multiple-requires-clause-source_elements : goal.add_multiple-requires-clause-source_elements
add_multiple-requires-clause-source_elements c =
    let n : ℕ = length c.make_zero.new.row in
    let fits = row_fits (length c.args.x.now) n c.loop-i.i c.args.rows.now (c.requires.shape ∙ ap (λ (k : ℕ). length c.args.x.now * k) (sym c.make_zero.auto.row)) c.loop-i-test.true in
    let d = length-drop (c.loop-i.i * n) c.args.rows.now in
    AreElements-take c.args.field _ _ (omega (arith, d, fits)) (AreElements-drop c.args.field _ c.args.rows.now c.requires.rows_elements)

pub loop-i-preserved : goal.loop-i-preserved
loop-i-preserved c =
    let n : ℕ = length c.make_zero.new.row in
    let m : ℕ = length c.args.x.now in
    let rows = rows_of m n c.args.rows.now in
    record {
      product = IsProductOf-more c.args.field n c.loop-i.i _ c.args.x.now rows c.loop-i.out c.add_multiple.new.target _ c.loop-i.auto.out
          (λ j l. row_part m n c.loop-i.i j c.args.rows.now c.loop-i-test.true l) refl c.add_multiple.ensures.sum c.loop-i.invariant.product;
      elements = c.add_multiple.ensures.elements;
    }

pub returns-clause-product : goal.returns-clause-product
returns-clause-product c =
    let n : ℕ = length c.make_zero.new.row in
    let m : ℕ = length c.args.x.now in
    let rows = rows_of m n c.args.rows.now in
    let end : c.loop-i.i ≡ m = omega (arith, c.loop-i-test.false, c.loop-i.auto.i-end) in
    subst (λ (k : ℕ). c.loop-i.out ≡ times c.args.field k c.args.x.now (rows_of m k c.args.rows.now)) c.make_zero.auto.row
    (IsProductOf-times c.args.field n m c.args.x.now rows c.loop-i.out (length-rows_of m n c.args.rows.now) c.loop-i.auto.out
    (subst (λ (k : ℕ). IsProductOf c.args.field n k c.args.x.now rows c.loop-i.out) end c.loop-i.invariant.product))
