-- What arrows make of the bases of what a term covers, in coordinates, row by row, and the rows of slices that take it up.
-- (Assem, Simson, Skowroński, volume 1, chapter III, 1 and 2.2.)
use Rattle.std.specs.Prelude.{ℕ, ◌<◌, ◌≡◌, List}
use Rattle.linear_algebra.specs.Field.{Gf, mul}
use Rattle.linear_algebra.specs.Sums.{sum_to}
use Rattle.linear_algebra.specs.Matrix.{◌·◌}
use Rattle.linear_algebra.specs.Parts.{row}
use Rattle.linear_algebra.specs.Rank.{IsInSpan}
use Rattle.linear_algebra.proofs.RowForm.{reduced_form}
use Rattle.fp_linear.specs.Slices.{cell}
use Rattle.representations.specs.Quiver.{Quiver}
use Rattle.representations.specs.Rep.{Rep}
use Rattle.representations.specs.RadicalModule.{arrow_rows}
use Rattle.projectives.specs.Words.{Words}
use Rattle.projectives.specs.Generators.{rows_at}
use Rattle.module_types.specs.declared.TermRows.{TermRows}
use Rattle.module_types.specs.TermMatrices.{count, vertex}
use Rattle.claim_conditions.specs.Terms.{term_at, goes_to}
use Rattle.map_checks.specs.ArrowRows.{AskArrows}
use Rattle.cover_checks.specs.Bases.{HoldsBasis}
use Rattle.cover_checks.specs.Covers.{covered_size, covered_rows, covered_pivot, covered_rep, coordinate_row, StaysAlong, LiesIn, IsIndependentAt}

module _ {q : Gf} {Q : Quiver} (W : Words q Q) (X : Rep q Q) (terms : List TermRows) (k a : ℕ) where
  -- row i of the basis at the source stays along the arrow; the first n rows do
  pub record RowStays (i : ℕ) : Type 0 where
    pub stays : IsInSpan (covered_rows W X terms k (Q.target a)) (row i (covered_rows W X terms k (Q.source a) · (goes_to W X terms k).mat a))

  pub record RowsStay (n : ℕ) : Type 0 where
    pub each : (i : ℕ) → i < n → RowStays i

  -- a column takes what the arrow makes of row i to zero, and of the first n rows
  pub record ImageKilled (i : ℕ) (x : ℕ → ℕ) : Type 0 where
    pub killed : sum_to q (covered_size W X terms k (Q.target a)) (λ j. mul q (((covered_rep W X terms k).mat a).at i j) (x j)) ≡ 0

  pub record ImagesKilled (n : ℕ) (x : ℕ → ℕ) : Type 0 where
    pub each : (i : ℕ) → i < n → ImageKilled i x

  -- row i of the basis at the source stands in a slice, rows of `from` numbers, and the basis at the target in another
  pub record AreBases (i from : ℕ) (other : List ℕ) (size width : ℕ) (basis marks : List ℕ) : Type 0 where
    pub from_is : from ≡ (goes_to W X terms k).dim (Q.source a)
    pub inside : i < covered_size W X terms k (Q.source a)
    pub row_is : (j : ℕ) → j < from → cell from other i j ≡ (covered_rows W X terms k (Q.source a)).at i j
    pub size_is : size ≡ covered_size W X terms k (Q.target a)
    pub width_is : width ≡ (goes_to W X terms k).dim (Q.target a)
    pub basis_is : HoldsBasis (covered_rows W X terms k (Q.target a)) (covered_pivot W X terms k (Q.target a)) basis marks

  -- all rows of the basis at the source
  pub record HaveBases (count from : ℕ) (other : List ℕ) (size width : ℕ) (basis marks : List ℕ) : Type 0 where
    pub count_is : count ≡ covered_size W X terms k (Q.source a)
    pub each : (i : ℕ) → i < count → AreBases i from other size width basis marks

module _ {q : Gf} {Q : Quiver} (W : Words q Q) (X : Rep q Q) (terms : List TermRows) (k w : ℕ) where
  -- the basis at the vertex w stands in a slice
  pub record IsBasisAt (size width : ℕ) (basis marks : List ℕ) : Type 0 where
    pub size_is : size ≡ covered_size W X terms k w
    pub width_is : width ≡ (goes_to W X terms k).dim w
    pub basis_is : HoldsBasis (covered_rows W X terms k w) (covered_pivot W X terms k w) basis marks

  -- the arrow does not lead out of what term k covers, if it goes to w
  pub record StaysWhere (a : ℕ) : Type 0 where
    pub stays : Q.target a ≡ w → StaysAlong W X terms k a

  -- the first n arrows do not
  pub record StayBelow (n : ℕ) : Type 0 where
    pub each : (a : ℕ) → a < n → StaysWhere a

  -- generator j lies in what term k covers, if it is at w; the first n do
  pub record LiesWhere (j : ℕ) : Type 0 where
    pub lies : vertex (term_at terms k) j ≡ w → LiesIn W X terms k j

  pub record LieBelow (n : ℕ) : Type 0 where
    pub each : (j : ℕ) → j < n → LiesWhere j

  -- a column takes the coordinates of generator j to zero, if it is at w, and those of the first n
  pub record GeneratorKilled (j : ℕ) (x : ℕ → ℕ) : Type 0 where
    pub killed : vertex (term_at terms k) j ≡ w
        → sum_to q (covered_size W X terms k w) (λ t. mul q ((rows_at (covered_rep W X terms k) (count (term_at terms k)) (vertex (term_at terms k)) (coordinate_row W X terms k) w).at j t) (x t)) ≡ 0

  pub record GeneratorsKilled (n : ℕ) (x : ℕ → ℕ) : Type 0 where
    pub each : (j : ℕ) → j < n → GeneratorKilled j x

  -- rows of a slice that ask for what all arrows to w make of what term k covers, and their rank
  pub record HoldsRadical (size rows r : ℕ) (entries : List ℕ) : Type 0 where
    pub asked : AskArrows (covered_rep W X terms k) w size rows Q.arrows entries
    pub rank_is : r ≡ (reduced_form (arrow_rows (covered_rep W X terms k) w)).size

  -- all generators at w lie in it and are independent modulo its radical
  pub record AreIndependentWhere : Type 0 where
    pub lie : LieBelow (count (term_at terms k))
    pub independent : IsIndependentAt W X terms k w
