-- Rows in slices, with zeros behind them, that go along arrows. (Assem, Simson, Skowroński, volume 1, chapter III, 1 and 2.)
use Rattle.std.specs.Prelude.{ℕ, ◌≡◌, ◌<◌, ◌≤◌, ◌+◌, List, slice_index}
use Rattle.linear_algebra.specs.Field.{Gf, add, mul}
use Rattle.linear_algebra.specs.Sums.{sum_to}
use Rattle.representations.specs.Quiver.{Quiver}
use Rattle.representations.specs.Rep.{Rep}
use Rattle.linear_algebra.specs.BlockFamilies.{total}
use Rattle.quiver_paths.specs.declared.Path.{Path}
use Rattle.path_algebra.specs.declared.Header.{Header}
use Rattle.path_algebra.specs.Rows.{path_at}
use Rattle.alg_table.specs.declared.table.Side.{Side as TableSide}
use Rattle.alg_table.specs.NormalForm.{IsProduct}
use Rattle.bound_tables.specs.PlacedEntries.{entry_at_place, ArePlaced}
use Rattle.module_types.specs.declared.Side.{Side}
use Rattle.term_rows.specs.SumDims.{count_to}
use Rattle.projectives.specs.Words.{Words}
use Rattle.module_types.specs.Walks.{step}

-- a slice holds what the arrow makes of the row in another, and zeros behind it
pub record IsStep {q : Gf} {Q : Quiver} (X : Rep q Q) (a : ℕ) (old new : List ℕ) : Type 0 where
  pub at : (j : ℕ) → slice_index new j ≡ step X a (slice_index old) j

-- to the n numbers from a place on, values are added; the others stay
pub record IsAddedFrom (q : Gf) (start n : ℕ) (value : ℕ → ℕ) (old new : List ℕ) : Type 0 where
  pub there : (t : ℕ) → t < n → slice_index new (start + t) ≡ add q (slice_index old (start + t)) (value t)
  pub before : (k : ℕ) → k < start → slice_index new k ≡ slice_index old k
  pub behind : (k : ℕ) → start + n ≤ k → slice_index new k ≡ slice_index old k

-- the first n words from v to the source of the arrow, with the numbers of a row from a place on as coefficients, and then the arrow: the coefficient of
-- word t from v to the target
abbrev pub part_entry : {q : Gf} {Q : Quiver} (W : Words q Q) (v a : ℕ) (row : List ℕ) (start n t : ℕ) → ℕ
part_entry {q} W v a row start n t = sum_to q n (λ i. mul q (slice_index row (start + i)) ((W.act v a).at i t))

-- each row of products of a word and an arrow has these entries at the places
pub record HasProducts (h : Header) (words : List Path) (side : TableSide) (word arrow : ℕ) (targets : List ℕ) (entries : ℕ → ℕ) : Type 0 where
  pub placed : (row : List ℕ) → IsProduct h words side (path_at words word) arrow row → ArePlaced targets row entries

-- a number times the entry of a row at the t-th of some places
abbrev pub multiple_at_place : Gf → ℕ → List ℕ → List ℕ → ℕ → ℕ
multiple_at_place q factor places row t = mul q factor (entry_at_place places row t)

-- n numbers from a place on, times the rows of entries, summed: entry t
abbrev pub combined : Gf → List ℕ → ℕ → (ℕ → ℕ → ℕ) → ℕ → ℕ → ℕ
combined q row start entries n t = sum_to q n (λ i. mul q (slice_index row (start + i)) (entries i t))

-- the parts before part j of a sum of projective modules have gone along an arrow, and there are zeros behind them
pub record IsSumStepUpTo {q : Gf} {Q : Quiver} (W : Words q Q) (v : ℕ → ℕ) (a j : ℕ) (old new : List ℕ) : Type 0 where
  pub parts : (c t : ℕ) → c < j → t < W.count (v c) (Q.target a)
      → slice_index new (total c (λ d. W.count (v d) (Q.target a)) + t) ≡ part_entry W (v c) a old (total c (λ d. W.count (v d) (Q.source a))) (W.count (v c) (Q.source a)) t
  pub behind : (k : ℕ) → total j (λ d. W.count (v d) (Q.target a)) ≤ k → slice_index new k ≡ 0

-- the dimension at w of part c of a sum
abbrev pub part_dim : List Path → Side → List ℕ → ℕ → ℕ → ℕ
part_dim words side vertices w c = count_to words side (slice_index vertices c) w
