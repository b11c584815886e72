use Rattle.module_types.specs.Algebras.{algebra_at}
use Rattle.module_types.specs.Readings.{dim_at}
use Rattle.module_faults.proofs.Sized.{AreUpTo}
use Rattle.module_faults.proofs.shapes.has_map_shape.Given as goal

abbrev pub invariant-loop-v : goal.invariant-loop-v
invariant-loop-v l = AreUpTo l.header.field l.v (dim_at (algebra_at l.a.side l.header).quiver l.a.dims) (dim_at (algebra_at l.a.side l.header).quiver l.b.dims) l.matrices
