use Rattle.module_types.specs.Readings.{read}
use Rattle.module_faults.proofs.StoppedRows.{AreStoppedBelow}
use Rattle.module_faults.proofs.next_arrows.next_arrow.Given as goal

abbrev pub invariant-loop-k : goal.invariant-loop-k
invariant-loop-k l = AreStoppedBelow (read l.header l.m) l.unknowns l.count l.images l.level l.k
