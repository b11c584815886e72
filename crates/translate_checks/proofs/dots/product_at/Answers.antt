use Rattle.std.proofs.Common.{sym, ap, ap₂, ◌∙◌, get_or}
use Rattle.linear_algebra.specs.Field.{add, mul}
use Rattle.linear_algebra.specs.FieldLaws.{order-pos, mul_below, add_below}
use Rattle.linear_algebra.specs.Sums.{sum-none}
use Rattle.linear_algebra.proofs.Rows.{row-entry}
use Rattle.module_checks.proofs.Squares.{product-more}
use Rattle.translate_checks.proofs.dots.product_at.Goals as goal

pub loop-t-init : goal.loop-t-init
loop-t-init c = record { sum = sym (sum-none c.args.field _); small = order-pos c.args.field }

pub mul-requires-clause-a_below : goal.mul-requires-clause-a_below
mul-requires-clause-a_below c = rw (c.row-row.ensures.row, row-entry c.args.left.now.rows c.args.i c.loop-t.t, ← c.requires.left_field) (c.row-row.ensures.matrix.grid.small c.args.i c.loop-t.t)

pub mul-requires-clause-b_below : goal.mul-requires-clause-b_below
mul-requires-clause-b_below c = rw (c.row.ensures.row, row-entry c.args.right.now.rows c.loop-t.t c.args.j, ← c.requires.right_field) (c.row.ensures.matrix.grid.small c.loop-t.t c.args.j)

pub add-sum-requires-clause-b_below : goal.add-sum-requires-clause-b_below
add-sum-requires-clause-b_below c = rw c.mul.ensures (mul_below c.args.field _ _)

pub loop-t-preserved : goal.loop-t-preserved
loop-t-preserved c = record {
  sum =
      c.add-sum.ensures
      ∙ ap₂ (add c.args.field) c.loop-t.invariant.sum (c.mul.ensures
      ∙ ap₂ (mul c.args.field) (ap (λ r. get_or r c.loop-t.t 0) c.row-row.ensures.row ∙ row-entry c.args.left.now.rows c.args.i c.loop-t.t)
      (ap (λ r. get_or r c.args.j 0) c.row.ensures.row ∙ row-entry c.args.right.now.rows c.loop-t.t c.args.j))
      ∙ sym (product-more c.args.field c.loop-t.t c.args.left.now c.args.right.now c.args.i c.args.j);
  small = rw c.add-sum.ensures (add_below c.args.field _ _);
}
