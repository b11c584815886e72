use Rattle.module_types.specs.Readings.{read}
use Rattle.module_operations.specs.ArrowSpans.{arrow_size, arrow_family}
use Rattle.module_operations.specs.VertexSpaces.{HaveForms}
use Rattle.module_operations.proofs.radicals.radical_bases.Given as goal

abbrev pub invariant-loop-v : goal.invariant-loop-v
invariant-loop-v l = HaveForms (read l.header l.a) (arrow_size (read l.header l.a)) (arrow_family (read l.header l.a)) l.v l.bases.items
