use Rattle.mod_ops.proofs.Added.{dual_lawful}
use Rattle.mod_ops.proofs.modules.dual.Goals as goal

pub put_module-requires-clause-lawful : goal.put_module-requires-clause-lawful
put_module-requires-clause-lawful c = dual_lawful c.args.arena.now.header c.module.result c.in_ok-whole.whole c.in_ok-transposed.transposed c.in_ok-whole.ensures c.module.ensures.lawful c.in_ok-transposed.ensures
