use Rattle.std.proofs.Common.{refl, arith}
use Rattle.fp_linear.proofs.Matrices.{IsMatrix-held, HoldsMatrix-written}
use Rattle.fp_linear.proofs.matrix.echelon_in_place.Goals as goal

pub returns-clause-matrix : goal.returns-clause-matrix
returns-clause-matrix c =
    IsMatrix-held _ _ _ _
    (HoldsMatrix-written _ _ _ c.m.inside.entries.len _ _ c.echelon_rows.new.entries refl (omega (arith, c.deref_mut.ensures.len)) (omega (arith, c.deref_mut.ensures.len, c.m.invariant.count)) c.echelon_rows.ensures.elements c.m.invariant.fits)
