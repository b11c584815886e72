use Rattle.module_types.specs.Readings.{read}
use Rattle.module_operations.specs.VertexSpaces.{HaveRestrictions}
use Rattle.module_operations.proofs.submodules.submodule.Given as goal

abbrev pub invariant-loop-arrow : goal.invariant-loop-arrow
invariant-loop-arrow l = HaveRestrictions (read l.header l.a) l.bases l.arrow l.matrices.items
