-- Rows that go along the arrows of paths, as a side takes them: from the first to the last on the right, from the last to the first on the left; and
-- the rows of a relation's matrix. (Assem, Simson, Skowroński, volume 1, chapter III, 1.)
use Rattle.std.specs.Prelude.{ℕ, zero, suc, ◌≡◌, ◌<◌, ◌-◌, List, length, slice_index}
use Rattle.linear_algebra.specs.Field.{Gf, add, mul}
use Rattle.linear_algebra.specs.Sums.{sum_to}
use Rattle.linear_algebra.specs.Matrix.{delta, zeros}
use Rattle.linear_algebra.specs.Rows.{entry}
use Rattle.fp_linear.specs.Matrix.{PlainMatrix}
use Rattle.quiver_paths.specs.declared.Path.{Path}
use Rattle.path_algebra.specs.declared.Term.{Term}
use Rattle.path_algebra.specs.declared.Header.{Header}
use Rattle.representations.specs.Quiver.{Quiver}
use Rattle.representations.specs.Rep.{Rep, value_of_relation}
use Rattle.bound_algebra.specs.BoundAlgebra.{term_at}
use Rattle.module_types.specs.declared.Side.{Side}
use Rattle.module_types.specs.declared.Side.TheVariants.{Right, Left}
use Rattle.module_types.specs.declared.Module.{Module}
use Rattle.module_types.specs.Algebras.{algebra_at}
use Rattle.module_types.specs.Readings.{read}
use Rattle.module_types.specs.Walks.{step}

-- entry j of the product of the first n numbers of a slice and the first n rows of a matrix; a slice that holds the whole product, and zeros behind it
abbrev pub row_entry : Gf → ℕ → List ℕ → PlainMatrix → ℕ → ℕ
row_entry q n s m j = sum_to q n (λ t. mul q (slice_index s t) (entry m.rows t j))

pub record IsRowTimes (q : Gf) (m : PlainMatrix) (s new : List ℕ) : Type 0 where
  pub at : (j : ℕ) → slice_index new j ≡ row_entry q m.row_count s m j

-- arrow k of a path, in the order in which the side takes them
abbrev pub arrow_in_turn : Side → List ℕ → ℕ → ℕ
arrow_in_turn Right arrows k = slice_index arrows k
arrow_in_turn Left arrows k = slice_index arrows (length arrows - suc k)

-- the vertex at whose rows a path begins, as a side takes it
abbrev pub first_vertex : Side → Path → ℕ
first_vertex Right p = p.start
first_vertex Left p = p.end

module _ {q : Gf} {Q : Quiver} (X : Rep q Q) (side : Side) where
  -- a row that has gone along the first k arrows, and along all of them
  abbrev pub along_first : List ℕ → ℕ → (ℕ → ℕ) → ℕ → ℕ
  along_first arrows zero f = f
  along_first arrows (suc k) f = step X (arrow_in_turn side arrows k) (along_first arrows k f)

  abbrev pub along_all : List ℕ → (ℕ → ℕ) → ℕ → ℕ
  along_all arrows f = along_first arrows (length arrows) f

  -- a slice that held a row holds it when it has gone along all the arrows; along the first k
  pub record IsArrowsMoved (arrows old new : List ℕ) : Type 0 where
    pub at : (j : ℕ) → slice_index new j ≡ along_all arrows (slice_index old) j

  pub record IsMovedBy (k : ℕ) (arrows old new : List ℕ) : Type 0 where
    pub at : (j : ℕ) → slice_index new j ≡ along_first arrows k (slice_index old) j

  -- the first n terms of a relation at row i and column j: what the unit row i goes to along each path, times its coefficient
  abbrev pub relation_entry : List Term → ℕ → ℕ → ℕ → ℕ
  relation_entry terms n i j = sum_to q n (λ k. mul q (term_at terms k).coef (along_all (term_at terms k).path.arrows (delta i) j))

  -- the relation is zero in row i
  pub record IsZeroInRow (terms : List Term) (i : ℕ) : Type 0 where
    pub at : (j : ℕ) → relation_entry terms (length terms) i j ≡ 0

  -- a term has been added
  pub record IsTermAdded (term : Term) (i : ℕ) (old new : List ℕ) : Type 0 where
    pub at : (j : ℕ) → slice_index new j ≡ add q (slice_index old j) (mul q term.coef (along_all term.path.arrows (delta i) j))

-- all numbers of a slice are zero
pub record AreAllZero (s : List ℕ) : Type 0 where
  pub at : (j : ℕ) → slice_index s j ≡ 0

-- relation r acts as zero on the module
abbrev pub ActsAsZero : Header → Module → ℕ → Type 0
ActsAsZero h m r =
    let A = algebra_at m.side h in
    let X = read h m in
    value_of_relation X (A.relation r) ≡ zeros h.field (X.dim (A.relation r).from) (X.dim (A.relation r).to)

-- so do all relations
pub record AllActAsZero (h : Header) (m : Module) (n : ℕ) : Type 0 where
  pub each : (r : ℕ) → r < n → ActsAsZero h m r
