use Rattle.std.proofs.Common.{sym, ap₂, ◌∙◌}
use Rattle.linear_algebra.specs.Field.{add}
use Rattle.linear_algebra.specs.FieldLaws.{order-pos, mul_below, add_below}
use Rattle.module_checks.proofs.SpreadDots.{dot-none, dot-more}
use Rattle.module_checks.proofs.meeting.dot_of.Goals as goal

pub loop-t-init : goal.loop-t-init
loop-t-init c = record { sum = sym (dot-none c.args.field c.args.start c.args.entries.now _); small = order-pos c.args.field }

pub add-sum-requires-clause-b_below : goal.add-sum-requires-clause-b_below
add-sum-requires-clause-b_below c = rw c.mul.ensures (mul_below c.args.field _ _)

pub loop-t-preserved : goal.loop-t-preserved
loop-t-preserved c = record {
  sum = c.add-sum.ensures ∙ ap₂ (add c.args.field) c.loop-t.invariant.sum c.mul.ensures ∙ sym (dot-more c.args.field c.loop-t.t c.args.start c.args.entries.now _);
  small = rw c.add-sum.ensures (add_below c.args.field _ _);
}
