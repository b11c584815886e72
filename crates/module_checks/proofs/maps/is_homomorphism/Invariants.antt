use Rattle.module_types.specs.Algebras.{algebra_at}
use Rattle.module_types.specs.Readings.{rep_of}
use Rattle.module_checks.proofs.Squares.{AreSquaresUpTo}
use Rattle.module_checks.proofs.maps.is_homomorphism.Given as goal

abbrev pub invariant-loop-k : goal.invariant-loop-k
invariant-loop-k l =
    let Q = (algebra_at l.a.side l.header).quiver in
    AreSquaresUpTo (rep_of l.header.field Q l.a) (rep_of l.header.field Q l.b) l.matrices l.k
