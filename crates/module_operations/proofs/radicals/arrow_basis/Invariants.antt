use Rattle.module_types.specs.Readings.{read}
use Rattle.module_operations.specs.ArrowSpans.{SpansArrows}
use Rattle.module_operations.proofs.radicals.arrow_basis.Given as goal

abbrev pub invariant-loop-arrow : goal.invariant-loop-arrow
invariant-loop-arrow l = SpansArrows (read l.header l.a) l.vertex l.arrow l.basis
