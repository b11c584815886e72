use Rattle.std.proofs.Common.{sym, ap₂, ◌∙◌}
use Rattle.linear_algebra.specs.Field.{add}
use Rattle.linear_algebra.specs.FieldLaws.{order-pos, mul_below, add_below}
use Rattle.linear_algebra.specs.Sums.{sum-none}
use Rattle.resolution_checks.proofs.ZeroProducts.{entry-more}
use Rattle.resolution_checks.proofs.products.entry_of.Goals as goal

pub loop-t-init : goal.loop-t-init
loop-t-init c = record { sum = sym (sum-none c.args.field _); small = order-pos c.args.field }

pub add-sum-requires-clause-b_below : goal.add-sum-requires-clause-b_below
add-sum-requires-clause-b_below c = rw c.mul.ensures (mul_below c.args.field _ _)

pub loop-t-preserved : goal.loop-t-preserved
loop-t-preserved c = record {
  sum = c.add-sum.ensures ∙ ap₂ (add c.args.field) c.loop-t.invariant.sum c.mul.ensures ∙ sym (entry-more c.args.field c.args.width c.args.columns c.args.f.now c.args.g.now c.args.i c.args.j c.loop-t.t);
  small = rw c.add-sum.ensures (add_below c.args.field _ _);
}
