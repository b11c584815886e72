-- The rows of the arrows that go to one vertex, and rows that ask for all of them. (Assem, Simson, Skowroński, volume 1, chapter III, 2.2.)
use Rattle.std.specs.Prelude.{ℕ, ◌<◌, ◌≤◌, ◌≡◌, List, length, slice_index_or}
use Rattle.linear_algebra.specs.Field.{Gf, mul}
use Rattle.linear_algebra.specs.Sums.{sum_to}
use Rattle.linear_algebra.specs.Rows.{entry, rows_of}
use Rattle.linear_algebra.specs.Rank.{IsInSpan}
use Rattle.linear_algebra.specs.Reduced.{ReducesTo}
use Rattle.linear_algebra.specs.Typed.{as_mat}
use Rattle.fp_linear.specs.Matrix.{PlainMatrix}
use Rattle.fp_linear.specs.Slices.{AreElements}
use Rattle.fp_linear.specs.Meeting.{Meets}
use Rattle.representations.specs.Quiver.{Quiver}
use Rattle.representations.specs.Rep.{Rep}
use Rattle.representations.specs.RadicalModule.{arrow_rows}

-- row i of a matrix times x; x takes row i to zero, and the first k rows
abbrev pub row_dot : Gf → PlainMatrix → ℕ → (ℕ → ℕ) → ℕ
row_dot q a i x = sum_to q a.col_count (λ j. mul q (entry a.rows i j) (x j))

pub record RowMet (q : Gf) (a : PlainMatrix) (i : ℕ) (x : ℕ → ℕ) : Type 0 where
  pub met : row_dot q a i x ≡ 0

pub record RowsMet (q : Gf) (a : PlainMatrix) (k : ℕ) (x : ℕ → ℕ) : Type 0 where
  pub each : (i : ℕ) → i < k → row_dot q a i x ≡ 0

module _ {q : Gf} {Q : Quiver} (X : Rep q Q) (w : ℕ) where
  -- x takes the rows of arrow a to zero, if it goes to the vertex w
  pub record ArrowMet (a : ℕ) (x : ℕ → ℕ) : Type 0 where
    pub met : Q.target a ≡ w → (i : ℕ) → i < X.dim (Q.source a) → sum_to q (X.dim w) (λ j. mul q ((X.mat a).at i j) (x j)) ≡ 0

  -- x meets the rows exactly where it takes those of the first k arrows to zero
  pub record AskArrows (n m k : ℕ) (s : List ℕ) : Type 0 where
    pub forth : (x : ℕ → ℕ) → Meets q n m s x → (a : ℕ) → a < k → ArrowMet a x
    pub back : (x : ℕ → ℕ) → ((a : ℕ) → a < k → ArrowMet a x) → Meets q n m s x

  -- the reduced row form, with r rows, of rows that ask for all arrows
  pub record HasArrowForm (n m : ℕ) (new : List ℕ) (r : ℕ) : Type 0 where
    pub old : List ℕ
    pub pivots : List ℕ
    pub elements : AreElements q old
    pub asked : AskArrows n m Q.arrows old
    pub form : ReducesTo q n (rows_of m n old) (rows_of m n new) pivots r

  -- the rows of a matrix span what comes along arrows to w
  pub record SpansAt (a : PlainMatrix) : Type 0 where
    pub inside : IsInSpan (arrow_rows X w) (as_mat q a.row_count (X.dim w) a.rows)
    pub all : IsInSpan (as_mat q a.row_count (X.dim w) a.rows) (arrow_rows X w)

-- a matrix over the field with as many columns as w has dimensions, and at most so many rows
pub record FitsVertex {q : Gf} {Q : Quiver} (X : Rep q Q) (w : ℕ) (a : PlainMatrix) : Type 0 where
  pub field : a.field ≡ q
  pub columns : a.col_count ≡ X.dim w
  pub few_columns : a.col_count ≤ 256
  pub few_rows : a.row_count ≤ 256

pub record FitVertices {q : Gf} {Q : Quiver} (X : Rep q Q) (matrices : List PlainMatrix) : Type 0 where
  pub each : (v : ℕ) (a : PlainMatrix) → v < length matrices → FitsVertex X v (slice_index_or matrices v a)

-- those of the first k matrices do, at their vertices
pub record SpanUpTo {q : Gf} {Q : Quiver} (X : Rep q Q) (k : ℕ) (matrices : List PlainMatrix) : Type 0 where
  pub each : (v : ℕ) (a : PlainMatrix) → v < k → SpansAt X v (slice_index_or matrices v a)
