-- The conditions on a claim on homomorphisms, and what is decided.
use Rattle.std.proofs.Common.{ℕ, ◌≡◌, List, sym, subst}
use Rattle.linear_algebra.specs.Reduced.{IsReduced, pivot}
use Rattle.linear_algebra.specs.Rows.{IsGrid}
use Rattle.linear_algebra.proofs.RowFormUnique.{row_reduced-as_mat, grid_of-reduced}
use Rattle.linear_algebra.proofs.Typed.{grid_of-as_mat}
use Rattle.fp_linear.specs.Matrix.{PlainMatrix, IsMatrix}
use Rattle.path_algebra.specs.declared.Header.{Header}
use Rattle.representations.specs.HomSpace.{unknowns}
use Rattle.module_types.specs.declared.Module.{Module}
use Rattle.module_types.specs.Algebras.{algebra_at}
use Rattle.module_checks.specs.Commuting.{AskUpTo}
use Rattle.module_checks.specs.Meeting.{AllMeet}
use Rattle.module_checks.proofs.HomsMeet.{homs_from_meeting, meeting_from_homs}
use Rattle.module_types.specs.Readings.{read_beside}
use Rattle.claim_conditions.specs.Homs.{hom_rows}
use Rattle.claim_conditions.specs.HomConditions.{AreRowsReduced, AreHoms}

module _ (h : Header) (a b : Module) (basis : PlainMatrix) (m : IsMatrix basis) (f : basis.field ≡ h.field) (u : basis.col_count ≡ unknowns (read_beside h a a) (read_beside h a b)) where
  grid : IsGrid h.field basis.row_count (unknowns (read_beside h a a) (read_beside h a b)) basis.rows
  grid = subst (λ q. IsGrid q basis.row_count (unknowns (read_beside h a a) (read_beside h a b)) basis.rows) f (subst (λ n. IsGrid basis.field basis.row_count n basis.rows) u m.grid)

  pub reduced_basis : IsReduced basis.col_count basis.rows → AreRowsReduced h a b basis
  reduced_basis r = (pivot basis.rows, row_reduced-as_mat h.field basis.row_count (unknowns (read_beside h a a) (read_beside h a b)) basis.rows grid (subst (λ n. IsReduced n basis.rows) u r))

  pub basis_reduced : AreRowsReduced h a b basis → IsReduced basis.col_count basis.rows
  basis_reduced r =
      subst (λ n. IsReduced n basis.rows) (sym u)
      (subst (IsReduced (unknowns (read_beside h a a) (read_beside h a b))) (grid_of-as_mat h.field basis.row_count (unknowns (read_beside h a a) (read_beside h a b)) basis.rows grid)
      (grid_of-reduced (hom_rows h a b basis) r.0 r.1))

  module _ (rows : ℕ) (s : List ℕ) (asked : AskUpTo (read_beside h a a) (read_beside h a b) basis.col_count rows (algebra_at a.side h).quiver.arrows s) where
    asked_here : AskUpTo (read_beside h a a) (read_beside h a b) (unknowns (read_beside h a a) (read_beside h a b)) rows (algebra_at a.side h).quiver.arrows s
    asked_here = subst (λ n. AskUpTo (read_beside h a a) (read_beside h a b) n rows (algebra_at a.side h).quiver.arrows s) u asked

    pub homs_where : AllMeet h.field basis rows s → AreHoms h a b basis
    homs_where = homs_from_meeting (read_beside h a a) (read_beside h a b) rows s asked_here basis grid u

    pub meeting_where : AreHoms h a b basis → AllMeet h.field basis rows s
    meeting_where = meeting_from_homs (read_beside h a a) (read_beside h a b) rows s asked_here basis grid u
