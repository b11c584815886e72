-- The rows that solve all equations are the homomorphisms, so that their basis in reduced row form is one of these; and there is one such basis.
use Rattle.std.proofs.Common.{ℕ, ◌<◌, ◌≡◌, List, refl, sym, ap, ◌∙◌, arith, subst, mod-eq_of_lt}
use Rattle.linear_algebra.specs.Field.{Gf}
use Rattle.linear_algebra.specs.Matrix.{Mat, Row, Mat-eq_below, zeros, transpose, ◌·◌}
use Rattle.linear_algebra.specs.Parts.{row}
use Rattle.linear_algebra.specs.Rows.{IsGrid, rows_of}
use Rattle.linear_algebra.specs.Typed.{as_mat}
use Rattle.linear_algebra.proofs.PartsLaws.{made-at, row-mul, row_zeros}
use Rattle.linear_algebra.proofs.RowForm.{reduced_independent}
use Rattle.linear_algebra.proofs.Rows.{rows_same}
use Rattle.linear_algebra.proofs.Solving.{right_inverse_cancels}
use Rattle.linear_algebra.proofs.Typed.{as_mat-entry}
use Rattle.fp_linear.specs.Matrix.{PlainMatrix, plain, IsMatrix}
use Rattle.fp_linear.specs.Slices.{AreElements}
use Rattle.fp_linear.proofs.Meeting.{column_of, Meets-typed, Meets-from_typed}
use Rattle.row_spaces.specs.RowSpaces.{typed, IsKernelBasis}
use Rattle.row_spaces.proofs.OrthogonalRows.{orthogonal_both}
use Rattle.path_algebra.specs.declared.Header.{Header}
use Rattle.representations.specs.Quiver.{Quiver}
use Rattle.representations.specs.Rep.{Rep}
use Rattle.representations.specs.HomSpace.{unknowns, flat, defects, equations, IsHomBasis}
use Rattle.representations.proofs.Equations.{no_defects_all}
use Rattle.representations.proofs.HomSpace.{no_defect, hom_of, flat-hom_of, hom_defects}
use Rattle.representations.proofs.HomsBySize.{hom_basis_unique}
use Rattle.module_types.specs.declared.Module.{Module}
use Rattle.module_types.specs.Algebras.{algebra_at}
use Rattle.module_types.specs.Readings.{read, read_beside}
use Rattle.module_checks.specs.Commuting.{AskUpTo}
use Rattle.claim_conditions.specs.Conditions.{AllHold}
use Rattle.claim_conditions.specs.Homs.{hom_rows}
use Rattle.claim_conditions.specs.HomConditions.{hom_conditions}
use Rattle.claim_laws.proofs.HomLaws.{hom_suffices, hom_complete}
use Rattle.hom_space.specs.HomForms.{unknown_number, IsRowsOfHoms, IsReducedHomBasis}

module _ {q : Gf} {Q : Quiver} (X Y : Rep q Q) where
  column_of-row : (x : Row q (unknowns X Y)) → column_of q (unknowns X Y) (x.at 0) ≡ transpose x
  unfolding column_of transpose
  column_of-row x = Mat-eq_below _ _ (λ i j l k. let e : j ≡ 0 = omega arith in
      made-at q (unknowns X Y) 1 (λ t j. x.at 0 t) i j l k ∙ mod-eq_of_lt (x.fits.small 0 i) ∙ ap (λ z. x.at z i) (sym e))

  module _ (m : ℕ) (s : List ℕ) (small : AreElements q s) (asked : AskUpTo X Y (unknowns X Y) m Q.arrows s) where
    abbrev asking : Mat q m (unknowns X Y)
    asking = as_mat q m (unknowns X Y) (rows_of m (unknowns X Y) s)

    -- Rows solve the equations where they have no defects, and there alone.
    solution_meets : (x : Row q (unknowns X Y)) → x · transpose asking ≡ zeros q 1 m → defects X Y x ≡ zeros q 1 (equations X Y)
    solution_meets x e = no_defects_all X Y x (asked.forth x (Meets-from_typed q m (unknowns X Y) s small (x.at 0)
        (ap (λ z. asking · z) (column_of-row x) ∙ orthogonal_both x asking e)))

    solution_where : (x : Row q (unknowns X Y)) → defects X Y x ≡ zeros q 1 (equations X Y) → x · transpose asking ≡ zeros q 1 m
    solution_where x d = orthogonal_both asking x
        (ap (λ z. asking · z) (sym (column_of-row x)) ∙ Meets-typed q m (unknowns X Y) s small (x.at 0) (asked.back x (λ a h. no_defect X Y x d a)))

    module _ {n : ℕ} (basis : Mat q n (unknowns X Y)) (k : IsKernelBasis (transpose asking) basis) where
      basis_row : (i : ℕ) → i < n → defects X Y (row i basis) ≡ zeros q 1 (equations X Y)
      basis_row i l = solution_meets (row i basis) (sym (row-mul i basis (transpose asking)) ∙ ap (row i) k.kills ∙ row_zeros q n m i)

      pub solutions_are_homs : IsHomBasis X Y basis
      solutions_are_homs = record {
        homs = λ i l. (hom_of X Y (row i basis) (basis_row i l), flat-hom_of X Y (row i basis) (basis_row i l));
        spans = λ f. k.spans (flat f) (solution_where (flat f) (hom_defects X Y f));
        once = λ c d e. right_inverse_cancels basis (reduced_independent basis k.reduced.0 k.reduced.1) c d e;
      }

module _ (h : Header) (a b : Module) where
  -- From what is folded and solved to the basis.
  basis_of_rows : (m k : ℕ) (s : List ℕ) (rows : List (List ℕ)) → a.side ≡ b.side → AreElements h.field s
      → AskUpTo (read h a) (read_beside h a b) (unknown_number h a b) m (algebra_at a.side h).quiver.arrows s
      → IsMatrix (plain h.field k (unknown_number h a b) rows)
      → IsKernelBasis (transpose (as_mat h.field m (unknown_number h a b) (rows_of m (unknown_number h a b) s))) (as_mat h.field k (unknown_number h a b) rows)
      → IsReducedHomBasis h a b (plain h.field k (unknown_number h a b) rows)
  basis_of_rows m k s rows e small asked is kernel = record {
    shape = record { matrix = is; field = refl; row_count = refl; col_count = refl };
    holds = record {
      side = e;
      is_basis = solutions_are_homs (read h a) (read_beside h a b) m s small asked (as_mat h.field k (unknown_number h a b) rows) kernel;
    };
    reduced = kernel.reduced;
  }

  pub basis_of_solutions : (n m : ℕ) (s : List ℕ) (equation_rows basis : PlainMatrix) → a.side ≡ b.side → n ≡ unknown_number h a b → AreElements h.field s
      → AskUpTo (read h a) (read_beside h a b) n m (algebra_at a.side h).quiver.arrows s
      → equation_rows ≡ plain h.field m n (rows_of m n s) → basis ≡ plain equation_rows.field basis.row_count equation_rows.col_count basis.rows → IsMatrix basis
      → IsKernelBasis (transpose (typed equation_rows)) (as_mat equation_rows.field basis.row_count equation_rows.col_count basis.rows)
      → IsReducedHomBasis h a b basis
  basis_of_solutions n m s equation_rows basis e count small asked written shape is kernel =
      let there : IsKernelBasis (transpose (as_mat h.field m n (rows_of m n s))) (as_mat h.field basis.row_count n basis.rows) =
      subst (λ (x : PlainMatrix). IsKernelBasis (transpose (typed x)) (as_mat x.field basis.row_count x.col_count basis.rows)) written kernel in
      let same : basis ≡ plain h.field basis.row_count n basis.rows =
      subst (λ (x : PlainMatrix). basis ≡ plain x.field basis.row_count x.col_count basis.rows) written shape in
      let matrix : IsMatrix (plain h.field basis.row_count n basis.rows) = subst IsMatrix same is in
      subst (IsReducedHomBasis h a b) (sym (same ∙ ap (λ n. plain h.field basis.row_count n basis.rows) count))
      (basis_of_rows m basis.row_count s basis.rows e small
      (subst (λ n. AskUpTo (read h a) (read_beside h a b) n m (algebra_at a.side h).quiver.arrows s) count asked)
      (subst (λ n. IsMatrix (plain h.field basis.row_count n basis.rows)) count matrix)
      (subst (λ n. IsKernelBasis (transpose (as_mat h.field m n (rows_of m n s))) (as_mat h.field basis.row_count n basis.rows)) count there))

  -- It meets the conditions, and what meets them is one.
  pub reduced_meets : (rows : PlainMatrix) → IsReducedHomBasis h a b rows → AllHold (hom_conditions h a b rows)
  reduced_meets rows r = hom_complete h a b rows r.holds r.reduced

  pub reduced_where : (rows : PlainMatrix) → IsRowsOfHoms h a b rows → AllHold (hom_conditions h a b rows) → IsReducedHomBasis h a b rows
  reduced_where rows s c = record { shape = s; holds = hom_suffices h a b rows c; reduced = c.1.0 }

  grid_here : (rows : PlainMatrix) → IsRowsOfHoms h a b rows → IsGrid h.field rows.row_count (unknown_number h a b) rows.rows
  grid_here rows s = subst (λ q. IsGrid q rows.row_count (unknown_number h a b) rows.rows) s.field (subst (λ n. IsGrid rows.field rows.row_count n rows.rows) s.col_count s.matrix.grid)

  plain_same : (r s : PlainMatrix) → r.field ≡ s.field → r.row_count ≡ s.row_count → r.col_count ≡ s.col_count → r.rows ≡ s.rows → r ≡ s
  plain_same r s e f g k = ap (λ q. plain q r.row_count r.col_count r.rows) e ∙ ap (λ m. plain s.field m r.col_count r.rows) f ∙ ap (λ n. plain s.field s.row_count n r.rows) g ∙ ap (plain s.field s.row_count s.col_count) k

  pub one_basis : (r s : PlainMatrix) → IsReducedHomBasis h a b r → IsReducedHomBasis h a b s → r ≡ s
  one_basis r s d e =
      let n = unknown_number h a b in
      let u = hom_basis_unique (read h a) (read_beside h a b) (hom_rows h a b r) (hom_rows h a b s) d.reduced.0 e.reduced.0 d.reduced.1 e.reduced.1 d.holds.is_basis e.holds.is_basis in
      let g = grid_here r d.shape in
      let k = grid_here s e.shape in
      plain_same r s (d.shape.field ∙ sym e.shape.field) u.0 (d.shape.col_count ∙ sym e.shape.col_count)
      (rows_same r.row_count n r.rows s.rows g.count (k.count ∙ sym u.0) g.width (λ i l. k.width i (let e = u.0 in omega arith))
      (λ i j l p. sym (as_mat-entry h.field r.row_count n r.rows g i j) ∙ u.1 i j ∙ as_mat-entry h.field s.row_count n s.rows k i j))
