-- What the terms of a resolution cover: the module, and then the kernels of the maps before, by bases in reduced row form; and what is asked of the
-- generators, vertex by vertex, in these coordinates. (Assem, Simson, Skowroński, volume 1, chapter I, 5, and III, 1 and 2.)
use Rattle.std.specs.Prelude.{ℕ, zero, suc, ◌<◌, ◌≡◌, List, get_or}
use Rattle.linear_algebra.specs.Field.{Gf}
use Rattle.linear_algebra.specs.Matrix.{Mat, Row, one, ◌·◌}
use Rattle.linear_algebra.specs.Rank.{IsInSpan}
use Rattle.linear_algebra.specs.RowForm.{IsRowReduced}
use Rattle.linear_algebra.proofs.Dimension.{complement}
use Rattle.linear_algebra.proofs.RowForm.{reduced_form}
use Rattle.representations.specs.Quiver.{Quiver}
use Rattle.representations.specs.Rep.{Rep}
use Rattle.representations.specs.Radical.{IsInRadical}
use Rattle.projectives.specs.Words.{Words}
use Rattle.projectives.specs.Generators.{rows_at}
use Rattle.module_types.specs.declared.TermRows.{TermRows}
use Rattle.module_types.specs.TermMatrices.{count, vertex}
use Rattle.claim_conditions.specs.KernelParts.{kernel_rows}
use Rattle.claim_conditions.specs.ResolutionConditions.{OfCovered, AreIndependentIn}
use Rattle.claim_conditions.specs.Terms.{term_at, sum_at, goes_to, printed_row, printed_matrix, vertices_at}
use Rattle.linear_algebra.specs.Parts.{row}
use Rattle.projectives.specs.Canonical.{canonical_vertices, canonical_columns}
use Rattle.cover_checks.specs.Coordinates.{coordinates, coordinate_rep, one_is_reduced}

module _ {q : Gf} {Q : Quiver} (W : Words q Q) (X : Rep q Q) (terms : List TermRows) where
  abbrev pub covered_size : ℕ → ℕ → ℕ
  covered_size zero w = X.dim w
  covered_size (suc k) w = (reduced_form (complement (printed_matrix W X terms k w)).kernel).size

  abbrev pub covered_rows : (k w : ℕ) → Mat q (covered_size k w) ((goes_to W X terms k).dim w)
  covered_rows zero w = one q (X.dim w)
  covered_rows (suc k) w = kernel_rows (sum_at W X terms k) (printed_matrix W X terms k) w

  abbrev pub covered_pivot : ℕ → ℕ → ℕ → ℕ
  covered_pivot zero w i = i
  covered_pivot (suc k) w i = (reduced_form (complement (printed_matrix W X terms k w)).kernel).pivot i

  pub covered_reduced : (k w : ℕ) → IsRowReduced (covered_rows k w) (covered_pivot k w)
  covered_reduced zero w = one_is_reduced q (X.dim w)
  covered_reduced (suc k) w = (reduced_form (complement (printed_matrix W X terms k w)).kernel).reduced

  -- what term k covers, in coordinates, and the coordinates of generator j there
  abbrev pub covered_rep : ℕ → Rep q Q
  covered_rep k = coordinate_rep (goes_to W X terms k) (covered_size k) (covered_rows k) (covered_pivot k) (covered_reduced k)

  abbrev pub coordinate_row : (k j : ℕ) → Row q (covered_size k (vertex (term_at terms k) j))
  coordinate_row k j = coordinates (goes_to W X terms k) (covered_size k) (covered_rows k) (covered_pivot k) (covered_reduced k) (vertex (term_at terms k) j) (printed_row W X terms k j)

  -- the arrow does not lead out of what term k covers; no arrow to the vertex w does
  pub record StaysAlong (k a : ℕ) : Type 0 where
    pub stays : IsInSpan (covered_rows k (Q.target a)) (covered_rows k (Q.source a) · (goes_to W X terms k).mat a)

  pub record StaysAt (k w : ℕ) : Type 0 where
    pub each : (a : ℕ) → a < Q.arrows → Q.target a ≡ w → StaysAlong k a

  -- generator j lies in it
  pub record LiesIn (k j : ℕ) : Type 0 where
    pub lies : IsInSpan (covered_rows k (vertex (term_at terms k) j)) (printed_row W X terms k j)

  -- the generators at w are independent modulo the radical
  pub record IsIndependentAt (k w : ℕ) : Type 0 where
    pub none : (c : Row q (count (term_at terms k))) → IsInRadical (covered_rep k) w (c · rows_at (covered_rep k) (count (term_at terms k)) (vertex (term_at terms k)) (coordinate_row k) w)
        → (j : ℕ) → j < count (term_at terms k) → vertex (term_at terms k) j ≡ w → c.at 0 j ≡ zero

  pub record IsMinimalAt (k w : ℕ) : Type 0 where
    pub stays : StaysAt k w
    pub lie : (j : ℕ) → j < count (term_at terms k) → vertex (term_at terms k) j ≡ w → LiesIn k j
    pub independent : IsIndependentAt k w

  pub record AreMinimalBelow (k n : ℕ) : Type 0 where
    pub at : (w : ℕ) → w < n → IsMinimalAt k w

  -- the generators of the first n terms are minimal
  pub record AreMinimalTerms (n : ℕ) : Type 0 where
    pub at : (k : ℕ) → k < n → OfCovered W X terms k (AreIndependentIn W X terms k)

  -- the generators of term k are the canonical ones, in coordinates
  pub record IsChosenIn (k : ℕ) : Type 0 where
    pub vertices_are : vertices_at terms k ≡ canonical_vertices (covered_rep k)
    pub rows_are : (j : ℕ) → j < count (term_at terms k) → printed_row W X terms k j ≡ row (get_or (canonical_columns (covered_rep k)) j zero) (covered_rows k (vertex (term_at terms k) j))
