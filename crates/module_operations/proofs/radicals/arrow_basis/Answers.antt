use Rattle.module_operations.proofs.ArrowStacks.{no_arrows}
use Rattle.module_operations.proofs.radicals.arrow_basis.Goals as goal

pub loop-arrow-init : goal.loop-arrow-init
loop-arrow-init c = no_arrows c.args.header.now c.args.a.now c.requires.shape c.args.vertex c.index.result.now c.requires.vertex c.index.ensures c.in_ok-basis.basis c.in_ok-basis.ensures
