use Rattle.std.proofs.Common.{sym, ap, ap₂, ◌∙◌, get_or}
use Rattle.linear_algebra.specs.Field.{add, mul}
use Rattle.linear_algebra.specs.FieldLaws.{order-pos, mul_below, add_below}
use Rattle.linear_algebra.specs.Sums.{sum-none}
use Rattle.linear_algebra.proofs.Rows.{row-entry}
use Rattle.module_checks.proofs.PathImages.{image-more}
use Rattle.module_checks.proofs.images.image_entry.Goals as goal

pub loop-i-init : goal.loop-i-init
loop-i-init c = record { sum = sym (sum-none c.args.field _); small = order-pos c.args.field }

pub mul-requires-clause-b_below : goal.mul-requires-clause-b_below
mul-requires-clause-b_below c = rw (c.row.ensures.row, row-entry c.args.matrix.now.rows c.loop-i.i c.args.j, ← c.requires.field) (c.row.ensures.matrix.grid.small c.loop-i.i c.args.j)

pub add-sum-requires-clause-b_below : goal.add-sum-requires-clause-b_below
add-sum-requires-clause-b_below c = rw c.mul.ensures (mul_below c.args.field _ _)

pub loop-i-preserved : goal.loop-i-preserved
loop-i-preserved c = record {
  sum =
      c.add-sum.ensures
      ∙ ap₂ (add c.args.field) c.loop-i.invariant.sum (c.mul.ensures ∙ ap (mul c.args.field _) (ap (λ r. get_or r c.args.j 0) c.row.ensures.row ∙ row-entry c.args.matrix.now.rows c.loop-i.i c.args.j))
      ∙ sym (image-more c.args.field c.loop-i.i c.args.row.now c.args.from c.args.matrix.now c.args.j);
  small = rw c.add-sum.ensures (add_below c.args.field _ _);
}
