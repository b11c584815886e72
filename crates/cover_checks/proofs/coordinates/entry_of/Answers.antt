use Rattle.std.proofs.Common.{sym, ap₂, ◌∙◌}
use Rattle.linear_algebra.specs.Field.{add}
use Rattle.linear_algebra.specs.FieldLaws.{order-pos, mul_below, add_below}
use Rattle.linear_algebra.specs.Sums.{sum-none}
use Rattle.cover_checks.proofs.Taken.{combined_more}
use Rattle.cover_checks.proofs.coordinates.entry_of.Goals as goal

pub loop-i-init : goal.loop-i-init
loop-i-init c = record { sum = sym (sum-none c.args.field _); small = order-pos c.args.field }

pub add-sum-requires-clause-b_below : goal.add-sum-requires-clause-b_below
add-sum-requires-clause-b_below c = rw c.mul.ensures (mul_below c.args.field _ _)

pub loop-i-preserved : goal.loop-i-preserved
loop-i-preserved c = record {
  sum = c.add-sum.ensures ∙ ap₂ (add c.args.field) c.loop-i.invariant.sum c.mul.ensures ∙ sym (combined_more c.args.field c.args.width c.args.coordinates.now c.args.basis.now c.args.j c.loop-i.i);
  small = rw c.add-sum.ensures (add_below c.args.field _ _);
}
