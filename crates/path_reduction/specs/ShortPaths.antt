-- The paths of a list, and where each of them leads when arrows are put behind it.
use Rattle.std.specs.Prelude.{ℕ, ◌≡◌, ◌<◌, ◌≤◌, ◌+◌, ◌-◌, ◌*◌, ◌++◌, ◌∷◌, [], List, length, take, slice_index}
use Rattle.quiver_paths.specs.declared.Path.{Path}
use Rattle.quiver_paths.specs.Path.{path_length, trivial_path}
use Rattle.path_algebra.specs.Rows.{path_at}

-- the path at place k is the one at place j with these arrows behind it
pub record IsWalked (paths : List Path) (j : ℕ) (arrows : List ℕ) (k : ℕ) : Type 0 where
  pub inside : k < length paths
  pub start : (path_at paths k).start ≡ (path_at paths j).start
  pub whole : (path_at paths k).arrows ≡ (path_at paths j).arrows ++ arrows

-- the path at place k is the one from the vertex along these arrows
pub record IsAlong (paths : List Path) (vertex : ℕ) (arrows : List ℕ) (k : ℕ) : Type 0 where
  pub inside : k < length paths
  pub start : (path_at paths k).start ≡ vertex
  pub whole : (path_at paths k).arrows ≡ arrows

-- the place of the path at place j with the arrow behind it, counted from 1; 0 where that is none of the paths
pub record IsPlaceBehind (paths : List Path) (j a entry : ℕ) : Type 0 where
  pub found : 0 < entry → IsWalked paths j (a ∷ []) (entry - 1)
  pub none : entry ≡ 0 → (k : ℕ) → IsWalked paths j (a ∷ []) k → ⊥

-- these are so, as many as there are: for each path, in order, one for each arrow
pub record AreBehind (paths : List Path) (arrows : ℕ) (behind : List ℕ) : Type 0 where
  pub entry : (j a : ℕ) → a < arrows → j * arrows + a < length behind → IsPlaceBehind paths j a (slice_index behind (j * arrows + a))

-- the first arrows of the path at place k make the path at place m
pub record IsFront (paths : List Path) (k n m : ℕ) : Type 0 where
  pub inside : m < length paths
  pub start : (path_at paths m).start ≡ (path_at paths k).start
  pub arrows : (path_at paths m).arrows ≡ take n (path_at paths k).arrows

-- the trivial path at a vertex stands at the vertex's place
pub record StartsAt (paths : List Path) (v : ℕ) : Type 0 where
  pub inside : v < length paths
  pub trivial : path_at paths v ≡ trivial_path v

-- what holds of all short paths and the places that arrows lead to
pub record HoldsPaths (paths : List Path) (arrows : ℕ) (behind : List ℕ) : Type 0 where
  pub few : length paths ≤ 4096
  pub few_arrows : arrows ≤ 128
  pub size : length behind ≡ length paths * arrows
  pub places : AreBehind paths arrows behind
  pub labels : (k : ℕ) → k < length paths → (a : ℕ) (xs ys : List ℕ) → (path_at paths k).arrows ≡ xs ++ a ∷ ys → a < arrows
  pub fronts : (k n : ℕ) → k < length paths → n ≤ path_length (path_at paths k) → (m : ℕ) × IsFront paths k n m
  pub starts : (k : ℕ) → k < length paths → StartsAt paths (path_at paths k).start
