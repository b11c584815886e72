use Rattle.module_types.specs.Readings.{read}
use Rattle.module_operations.specs.VertexSpaces.{HaveInduced}
use Rattle.module_operations.proofs.quotient_modules.quotient_module.Given as goal

abbrev pub invariant-loop-arrow : goal.invariant-loop-arrow
invariant-loop-arrow l = HaveInduced (read l.header l.a) l.projections l.arrow l.matrices.items
