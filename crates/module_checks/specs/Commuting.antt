-- Rows of a slice as equations on the entries of a family of matrices at the vertices: that it goes with the first arrows.
-- (Assem, Simson, Skowroński, volume 1, chapter III, 1.)
use Rattle.std.specs.Prelude.{ℕ, ◌<◌, ◌≡◌, ◌+◌, ◌*◌, ◌/◌, ◌%◌, List, slice_index}
use Rattle.linear_algebra.specs.Field.{Gf, add, mul, neg}
use Rattle.linear_algebra.specs.Sums.{sum_to}
use Rattle.linear_algebra.specs.Rows.{entry}
use Rattle.linear_algebra.specs.Matrix.{Row, zeros}
use Rattle.fp_linear.specs.Matrix.{PlainMatrix}
use Rattle.fp_linear.specs.Meeting.{Meets}
use Rattle.representations.specs.Quiver.{Quiver}
use Rattle.representations.specs.Rep.{Rep}
use Rattle.representations.specs.HomSpace.{unknowns, defect}

-- Row i and column j of how far x is from going with an arrow, xm and ym being the matrices of the arrow, and x beginning with the block of the
-- arrow's target at place t, and with that of its source at place s.
abbrev pub defect_at : Gf → PlainMatrix → PlainMatrix → ℕ → ℕ → ℕ → ℕ → (ℕ → ℕ) → ℕ
defect_at q xm ym t s i j x =
    add q
    (sum_to q xm.col_count (λ k. mul q (entry xm.rows i k) (x (t + j + k * ym.col_count))))
    (sum_to q ym.row_count (λ l. mul q (neg q (entry ym.rows l j)) (x (s + i * ym.row_count + l))))

-- x goes with the arrow, at the first e places of its matrix
pub record GoesAlong (q : Gf) (xm ym : PlainMatrix) (t s e : ℕ) (x : ℕ → ℕ) : Type 0 where
  pub at : (k : ℕ) → k < e → defect_at q xm ym t s (k / ym.col_count) (k % ym.col_count) x ≡ 0

-- the rows of new ask for what those of old ask, and for P
pub record AsksMore (q : Gf) (n m : ℕ) (old new : List ℕ) (P : (ℕ → ℕ) → Type 0) : Type 0 where
  pub before : (x : ℕ → ℕ) → Meets q n m new x → Meets q n m old x
  pub more : (x : ℕ → ℕ) → Meets q n m new x → P x
  pub enough : (x : ℕ → ℕ) → Meets q n m old x → P x → Meets q n m new x

-- A row of unknowns meets the rows exactly where it goes with the first `a` arrows.
pub record AskUpTo {q : Gf} {Q : Quiver} (X Y : Rep q Q) (n m a : ℕ) (s : List ℕ) : Type 0 where
  pub forth : (x : Row q (unknowns X Y)) → Meets q n m s (x.at 0) → (b : ℕ) → b < a → defect X Y x b ≡ zeros q (X.dim (Q.source b)) (Y.dim (Q.target b))
  pub back : (x : Row q (unknowns X Y)) → ((b : ℕ) → b < a → defect X Y x b ≡ zeros q (X.dim (Q.source b)) (Y.dim (Q.target b))) → Meets q n m s (x.at 0)

-- how many unknowns a vertex has
abbrev pub block_sizes : List ℕ → List ℕ → ℕ → ℕ
block_sizes x y v = slice_index x v * slice_index y v
