-- What comes along arrows to a vertex. (Assem, Simson, Skowroński, volume 1, chapter III, 2.2.)
use Rattle.std.specs.Prelude.{ℕ, ◌≡◌, ◌<◌}
use Rattle.linear_algebra.specs.Field.{Gf}
use Rattle.linear_algebra.specs.Matrix.{Mat}
use Rattle.linear_algebra.specs.BlockFamilies.{total}
use Rattle.linear_algebra.specs.Rank.{IsInSpan}
use Rattle.linear_algebra.specs.Typed.{as_mat}
use Rattle.fp_linear.specs.Matrix.{PlainMatrix, plain, IsMatrix}
use Rattle.row_spaces.specs.RowSpaces.{IsReducedMatrix}
use Rattle.representations.specs.Quiver.{Quiver}
use Rattle.representations.specs.Rep.{Rep}
use Rattle.representations.specs.RadicalModule.{arrow_into, arrow_rows}

module _ {q : Gf} {Q : Quiver} (X : Rep q Q) where
  -- how many rows the arrows have together, and these rows, as far as the arrows go to a vertex
  abbrev pub arrow_size : ℕ → ℕ
  arrow_size w = total Q.arrows (λ a. X.dim (Q.source a))

  abbrev pub arrow_family : (w : ℕ) → Mat q (arrow_size w) (X.dim w)
  arrow_family w = arrow_rows X w

  -- The rows, in reduced row form, span what comes along the first k arrows to the vertex w.
  pub record SpansArrows (w k : ℕ) (b : PlainMatrix) : Type 0 where
    pub shape : b ≡ plain q b.row_count (X.dim w) b.rows
    pub matrix : IsMatrix b
    pub reduced : IsReducedMatrix (as_mat q b.row_count (X.dim w) b.rows)
    pub has : (a : ℕ) → a < k → IsInSpan (as_mat q b.row_count (X.dim w) b.rows) (arrow_into X w a)
    pub within : IsInSpan (arrow_rows X w) (as_mat q b.row_count (X.dim w) b.rows)
