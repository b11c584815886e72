use Rattle.standard_modules.proofs.SimpleLists.{simple_there, simple_elsewhere}
use Rattle.standard_modules.proofs.simples.simple_dim.Goals as goal

pub returns-then-v-w-clause-dim : goal.returns-then-v-w-clause-dim
returns-then-v-w-clause-dim c = simple_there c.args.side c.args.header.now c.args.v c.args.w c.if-v-w.true c.requires

pub returns-clause-dim : goal.returns-clause-dim
returns-clause-dim c = simple_elsewhere c.args.side c.args.header.now c.args.v c.args.w c.if-v-w.false
