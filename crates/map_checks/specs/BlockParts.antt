-- Representations that have others as blocks on the diagonal, one behind another. (Assem, Simson, Skowroński, volume 1, chapter III, 1.)
use Rattle.std.specs.Prelude.{ℕ, ◌<◌, ◌≤◌, ◌≡◌, ◌+◌, ◌-◌, cond, ltb, List, length, slice_index}
use Rattle.linear_algebra.specs.Field.{Gf}
use Rattle.linear_algebra.specs.Rows.{entry}
use Rattle.linear_algebra.specs.BlockFamilies.{total}
use Rattle.fp_linear.specs.Matrix.{PlainMatrix}
use Rattle.representations.specs.Quiver.{Quiver}
use Rattle.representations.specs.Rep.{Rep}

-- entry j of a row of zeros that f stands in from place `start` on
abbrev pub block_entry : ℕ → (ℕ → ℕ) → ℕ → ℕ
block_entry start f j = cond (ltb j start) 0 (f (j - start))

-- row r of p stands in row i + r of s from column k on, with zeros beside it; each of the first n rows does
pub record IsBlockRow (s p : PlainMatrix) (i k r n : ℕ) : Type 0 where
  pub at : (j : ℕ) → j < n → entry s.rows (i + r) j ≡ block_entry k (entry p.rows r) j

pub record IsBlock (s p : PlainMatrix) (i k n : ℕ) : Type 0 where
  pub each : (r : ℕ) → r < n → IsBlockRow s p i k r s.col_count

module _ {q : Gf} {Q : Quiver} (S P : Rep q Q) (start : ℕ → ℕ) where
  -- there is room for P from the places `start` on; at the first n vertices
  pub record HasRoomFor (n : ℕ) : Type 0 where
    pub at : (v : ℕ) → v < n → start v + P.dim v ≤ S.dim v

  -- P is a block of the matrix of the arrow a
  pub record HasBlock (a : ℕ) : Type 0 where
    pub at : (r j : ℕ) → r < P.dim (Q.source a) → j < S.dim (Q.target a) → (S.mat a).at (start (Q.source a) + r) j ≡ block_entry (start (Q.target a)) ((P.mat a).at r) j

  pub record HasBlocks (n : ℕ) : Type 0 where
    pub each : (a : ℕ) → a < n → HasBlock a

  pub record HasPart : Type 0 where
    pub fits : HasRoomFor Q.vertices
    pub blocks : HasBlocks Q.arrows

module _ {q : Gf} {Q : Quiver} (S : Rep q Q) (P : ℕ → Rep q Q) where
  -- where part t begins
  abbrev pub part_start : ℕ → ℕ → ℕ
  part_start t v = total t (λ u. (P u).dim v)

  -- the first k parts are such blocks, one behind another
  pub record HasParts (k : ℕ) : Type 0 where
    pub each : (t : ℕ) → t < k → HasPart S (P t) (part_start t)

  -- the first k parts are all there is, at the first n vertices
  pub record IsFull (k n : ℕ) : Type 0 where
    pub at : (v : ℕ) → v < n → part_start k v ≡ S.dim v

-- the slice has the places where part k begins
pub record HoldsStarts {q : Gf} {Q : Quiver} (P : ℕ → Rep q Q) (k n : ℕ) (s : List ℕ) : Type 0 where
  pub at : (v : ℕ) → v < n → slice_index s v ≡ total k (λ u. (P u).dim v)

-- a vector of dimensions does not come behind another of the same length
pub record Ascends (a b : List ℕ) : Type 0 where
  pub at : (v : ℕ) → v < length a → ((u : ℕ) → u < v → slice_index a u ≡ slice_index b u) → slice_index a v ≤ slice_index b v

-- The same of vectors of dimensions: room from the places in a slice on; the places are the ends.
pub record HasRoom (s part starts : List ℕ) (n : ℕ) : Type 0 where
  pub at : (v : ℕ) → v < n → slice_index starts v + slice_index part v ≤ slice_index s v

pub record AreEnds (s starts : List ℕ) (n : ℕ) : Type 0 where
  pub at : (v : ℕ) → v < n → slice_index starts v ≡ slice_index s v
