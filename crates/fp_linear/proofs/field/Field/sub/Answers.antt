use Rattle.std.proofs.Common.{sym, ap, ◌∙◌}
use Rattle.linear_algebra.specs.Field.{add}
use Rattle.linear_algebra.specs.FieldLaws.{neg_below, sub_def}
use Rattle.fp_linear.proofs.field.Field.sub.Goals as goal

pub add-requires-clause-b_below : goal.add-requires-clause-b_below
add-requires-clause-b_below c = rw c.neg.ensures (neg_below c.args.self.now c.args.b)

pub returns : goal.returns
returns c = c.add.ensures ∙ ap (add c.args.self.now c.args.a) c.neg.ensures ∙ sym (sub_def c.args.self.now c.args.a c.args.b)
