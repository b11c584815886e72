use Rattle.std.proofs.Common.{◌∙◌, arith}
use Rattle.std.specs.Prelude.{length}
use Rattle.module_types.specs.Shapes.{dimension}
use Rattle.module_checks.proofs.Whole.{module_holds, relations_of_module, long_of_module, twice_fits}
use Rattle.module_checks.proofs.modules.is_module.Goals as goal

pub relations_hold-requires-clause-images : goal.relations_hold-requires-clause-images
relations_hold-requires-clause-images c = twice_fits (dimension c.args.m.now.dims) c.args.rows (length c.args.images.now) c.requires.room.many (c.requires.images ∙ c.requires.room.shape)

pub relations_hold-requires-clause-entries : goal.relations_hold-requires-clause-entries
relations_hold-requires-clause-entries c = let b = twice_fits (dimension c.args.m.now.dims) c.args.rows (length c.args.entries.now) c.requires.room.many c.requires.room.shape in omega (arith, b)

pub returns-then-not-relations_hold : goal.returns-then-not-relations_hold
returns-then-not-relations_hold c M = c.if-not-relations_hold.ensures (relations_of_module c.args.header.now c.args.m.now M)

pub returns-then-not-long_paths_act_as_zero : goal.returns-then-not-long_paths_act_as_zero
returns-then-not-long_paths_act_as_zero c M = c.if-not-long_paths_act_as_zero.ensures (long_of_module c.args.header.now c.args.m.now M)

pub returns : goal.returns
returns c = module_holds c.args.header.now c.args.m.now c.if-not-relations_hold.ensures c.if-not-long_paths_act_as_zero.ensures
