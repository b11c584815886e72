use Rattle.module_faults.proofs.Sized.{AreUpTo, rows_for, columns_for}
use Rattle.module_faults.proofs.shapes.has_module_shape.Given as goal

abbrev pub invariant-loop-k : goal.invariant-loop-k
invariant-loop-k l = AreUpTo l.header.field l.k (rows_for l.header l.m) (columns_for l.header l.m) l.m.matrices
