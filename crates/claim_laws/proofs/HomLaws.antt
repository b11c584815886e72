-- The conditions on a basis of homomorphisms suffice, and each such basis in reduced row form meets them.
use Rattle.fp_linear.specs.Matrix.{PlainMatrix}
use Rattle.path_algebra.specs.declared.Header.{Header}
use Rattle.representations.proofs.HomsBySize.{hom_basis_by_rank, member_meets, rank_of_hom_basis}
use Rattle.module_types.specs.declared.Module.{Module}
use Rattle.module_types.specs.Readings.{read, read_beside}
use Rattle.claim_conditions.specs.Conditions.{AllHold}
use Rattle.claim_conditions.specs.Homs.{hom_rows, HomHolds}
use Rattle.claim_conditions.specs.HomConditions.{hom_conditions, AreRowsReduced}

pub hom_suffices : (h : Header) (a b : Module) (rows : PlainMatrix) → AllHold (hom_conditions h a b rows) → HomHolds h a b rows
hom_suffices h a b rows c = record {
  side = c.0;
  is_basis = hom_basis_by_rank (read h a) (read_beside h a b) (hom_rows h a b rows) c.1.0.0 c.1.0.1 c.1.1.0 c.1.1.1.0;
}

pub hom_complete : (h : Header) (a b : Module) (rows : PlainMatrix) → HomHolds h a b rows → AreRowsReduced h a b rows → AllHold (hom_conditions h a b rows)
hom_complete h a b rows k r = (
  k.side,
  (
    r,
    (
      member_meets (read h a) (read_beside h a b) (hom_rows h a b rows) k.is_basis,
      (rank_of_hom_basis (read h a) (read_beside h a b) (hom_rows h a b rows) k.is_basis r.0 r.1, tt),
    ),
  ),
)
