-- A table of how many words lead from a vertex to a vertex, and the dimensions that it gives of sums of projective modules.
-- (Assem, Simson, Skowroński, volume 1, chapter III, 2.)
use Rattle.std.specs.Prelude.{ℕ, ◌≡◌, ◌+◌, ◌*◌, ◌/◌, ◌%◌, ◌<◌, ◌≤◌, List, length, slice_index}
use Rattle.linear_algebra.specs.BlockFamilies.{total}
use Rattle.linear_algebra.specs.Rows.{list_of}
use Rattle.quiver_paths.specs.declared.Path.{Path}
use Rattle.module_types.specs.declared.Side.{Side}
use Rattle.module_types.specs.declared.Side.TheVariants.{Right, Left}
use Rattle.report_types.specs.WordDimensions.{count_to}

-- where a word begins and ends as a side takes it
abbrev pub ends_of : Side → Path → ℕ × ℕ
ends_of Right p = (p.start, p.end)
ends_of Left p = (p.end, p.start)

-- counts for each v below 256 and each w below the size, one v behind the other
pub record WordTable : Type 0 where
  pub size : ℕ
  pub counts : List ℕ

abbrev pub entry_at : WordTable → ℕ → ℕ → ℕ
entry_at t v w = slice_index t.counts (v * t.size + w)

-- the table of how many words of a side lead from v to w
abbrev pub word_table : List Path → Side → ℕ → WordTable
word_table words side n = record { size = n; counts = list_of (256 * n) (λ i. count_to words side (i / n) (i % n)) }

-- what is kept of a table: it has a row for each v below 256
pub record IsTable (t : WordTable) : Type 0 where
  pub rows : length t.counts ≡ 256 * t.size
  pub few : t.size ≤ 32

-- each entry counts these words
pub record AreCounts (words : List Path) (side : Side) (n : ℕ) (counts : List ℕ) : Type 0 where
  pub counted : length counts ≡ 256 * n
  pub each : (v w : ℕ) → v < 256 → w < n → slice_index counts (v * n + w) ≡ count_to words side v w

-- the dimension at w, and at each vertex, of the sum of the projective modules at some vertices; its whole dimension
abbrev pub entry_for : WordTable → List ℕ → ℕ → ℕ → ℕ
entry_for t vertices w j = entry_at t (slice_index vertices j) w

abbrev pub table_dim : WordTable → List ℕ → ℕ → ℕ
table_dim t vertices w = total (length vertices) (entry_for t vertices w)

abbrev pub table_dims : WordTable → List ℕ → List ℕ
table_dims t vertices = list_of t.size (table_dim t vertices)

abbrev pub table_dimension : WordTable → List ℕ → ℕ
table_dimension t vertices = total t.size (table_dim t vertices)
