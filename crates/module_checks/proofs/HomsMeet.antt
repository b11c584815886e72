-- Rows are homomorphisms exactly where they meet the rows that ask for all equations.
use Rattle.std.proofs.Common.{ℕ, ◌<◌, ◌≡◌, List, [], get_or, sym, ◌∙◌, subst}
use mathlib.Core.Path.{fun_ext}
use Rattle.linear_algebra.specs.Field.{Gf}
use Rattle.linear_algebra.specs.Matrix.{zeros}
use Rattle.linear_algebra.specs.Parts.{row}
use Rattle.linear_algebra.specs.Rows.{IsGrid}
use Rattle.linear_algebra.specs.Typed.{as_mat}
use Rattle.linear_algebra.proofs.PartsLaws.{row-at}
use Rattle.linear_algebra.proofs.Rows.{row-entry}
use Rattle.linear_algebra.proofs.Typed.{as_mat-entry}
use Rattle.fp_linear.specs.Matrix.{PlainMatrix}
use Rattle.representations.specs.Quiver.{Quiver}
use Rattle.representations.specs.Rep.{Rep}
use Rattle.representations.specs.HomSpace.{unknowns, defects, equations}
use Rattle.representations.proofs.HomSpace.{no_defect}
use Rattle.module_checks.specs.Commuting.{AskUpTo}
use Rattle.fp_linear.specs.Meeting.{Meets}
use Rattle.module_checks.specs.Meeting.{AllMeet}
use Rattle.representations.proofs.Equations.{no_defects_all}

module _ {q : Gf} {Q : Quiver} (X Y : Rep q Q) (m : ℕ) (s : List ℕ) (asked : AskUpTo X Y (unknowns X Y) m Q.arrows s) (a : PlainMatrix)
    (g : IsGrid q a.row_count (unknowns X Y) a.rows) (c : a.col_count ≡ unknowns X Y) where
  same_row : (i : ℕ) → (row i (as_mat q a.row_count (unknowns X Y) a.rows)).at 0 ≡ (λ t. get_or (get_or a.rows i []) t 0)
  same_row i = fun_ext (λ t. row-at i (as_mat q a.row_count (unknowns X Y) a.rows) t ∙ as_mat-entry q a.row_count (unknowns X Y) a.rows g i t ∙ sym (row-entry a.rows i t))

  pub homs_from_meeting : AllMeet q a m s → (i : ℕ) → i < a.row_count → defects X Y (row i (as_mat q a.row_count (unknowns X Y) a.rows)) ≡ zeros q 1 (equations X Y)
  homs_from_meeting h i l =
      no_defects_all X Y (row i (as_mat q a.row_count (unknowns X Y) a.rows)) (asked.forth (row i (as_mat q a.row_count (unknowns X Y) a.rows)) (subst (Meets q (unknowns X Y) m s) (sym (same_row i)) (rw c at (h.each i l))))

  pub meeting_from_homs : ((i : ℕ) → i < a.row_count → defects X Y (row i (as_mat q a.row_count (unknowns X Y) a.rows)) ≡ zeros q 1 (equations X Y)) → AllMeet q a m s
  meeting_from_homs h = record {
    each = λ i l.
        rw c (subst (Meets q (unknowns X Y) m s) (same_row i) (asked.back (row i (as_mat q a.row_count (unknowns X Y) a.rows)) (λ b k. no_defect X Y (row i (as_mat q a.row_count (unknowns X Y) a.rows)) (h i l) b)));
  }
