use Rattle.fp_linear.proofs.Slices.{HasAdded-list, AreElements-plus, plus-zero}
use Rattle.fp_linear.proofs.add.add_multiple.Goals as goal

pub returns-then-factor-eq0-clause-sum : goal.returns-then-factor-eq0-clause-sum
returns-then-factor-eq0-clause-sum c = plus-zero c.args.field c.args.factor c.args.source.now c.args.target.now c.requires.elements c.if-factor-eq0.true

pub returns-clause-sum : goal.returns-clause-sum
returns-clause-sum c = HasAdded-list c.args.field c.args.factor c.args.source.now c.args.target.now c.add_nonzero.new.target c.add_nonzero.ensures c.add_nonzero.auto.target

pub returns-clause-elements : goal.returns-clause-elements
returns-clause-elements c = AreElements-plus c.args.field c.args.factor c.args.source.now c.args.target.now c.add_nonzero.new.target
    (HasAdded-list c.args.field c.args.factor c.args.source.now c.args.target.now c.add_nonzero.new.target c.add_nonzero.ensures c.add_nonzero.auto.target)
