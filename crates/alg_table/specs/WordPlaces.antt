-- The places of the words from a vertex to a vertex.
use Rattle.std.specs.Prelude.{ℕ, ◌≡◌, ◌<◌, ◌+◌, ◌*◌, ◌/◌, ◌%◌, List, [], length, slice_index_or, Contains, AllPairs}
use Rattle.quiver_paths.specs.declared.Path.{Path}
use Rattle.quiver_paths.specs.Quiver.{vertex_count}
use Rattle.path_algebra.specs.declared.Header.{Header}
use Rattle.path_algebra.specs.Rows.{path_at}
use Rattle.alg_table.specs.declared.table.Side.{Side}
use Rattle.alg_table.specs.declared.table.Side.TheVariants.{Right, Left}

-- the word at place k leads from v to w
pub record LeadsBetween (words : List Path) (v w k : ℕ) : Type 0 where
  pub starts : (path_at words k).start ≡ v
  pub ends : (path_at words k).end ≡ w

-- the places, ascending, of exactly those of the first n words that lead from v to w
pub record ArePlacesAmong (words : List Path) (v w n : ℕ) (places : List ℕ) : Type 0 where
  pub ascending : AllPairs (λ j k. j < k) places
  pub all : (k : ℕ) → k < n → LeadsBetween words v w k → Contains places k
  pub only : (k : ℕ) → Contains places k → (k < n) × LeadsBetween words v w k

-- of all words
abbrev pub ArePlacesBetween : List Path → ℕ → ℕ → List ℕ → Type 0
ArePlacesBetween words v w places = ArePlacesAmong words v w (length words) places

-- the places of the words from v to w for `Right`, and from w to v for `Left`
abbrev pub AreWordsAt : List Path → Side → ℕ → ℕ → List ℕ → Type 0
AreWordsAt words Right v w places = ArePlacesBetween words v w places
AreWordsAt words Left v w places = ArePlacesBetween words w v places

-- for the first pairs of a start and an end among n vertices, by start and then by end, the places of the words between them
pub record ArePlaceLists (words : List Path) (n : ℕ) (lists : List (List ℕ)) : Type 0 where
  pub between : (v w : ℕ) → w < n → v * n + w < length lists → ArePlacesBetween words v w (slice_index_or lists (v * n + w) [])
