use Rattle.std.proofs.Common.{◌∙◌}
use Rattle.functional_checks.proofs.EndFunctionals.{vanishes, functional_decided}
use Rattle.functional_checks.proofs.functional.has_end_functional.Goals as goal

pub returns-then-vanish : goal.returns-then-vanish
returns-then-vanish c = λ T p e.
    functional_decided c.args.header.now c.args.m.now c.args.cover.now c.args.functional.now c.args.basis.now c.args.ideal.now c.write_values.new.values (c.write_values.auto.values ∙ c.requires.values) c.write_values.ensures.values T p e
    c.has_nonzero.result c.if-vanish.ensures c.has_nonzero.ensures

pub returns-else-vanish : goal.returns-else-vanish
returns-else-vanish c = λ T p e. rw c.if-vanish.false (λ f. c.if-vanish.ensures
    (vanishes c.args.header.now c.args.m.now c.args.cover.now c.args.functional.now c.args.basis.now c.args.ideal.now c.write_values.new.values (c.write_values.auto.values ∙ c.requires.values) c.write_values.ensures.values T p e f))
