-- The number of paths of one length that start at a vertex, and a table of such numbers.
use Rattle.std.specs.Prelude.{ℕ, ◌≡◌, ◌<◌, ◌==◌, List, length, count_by, slice_index}
use Rattle.quiver_paths.specs.declared.Quiver.{Quiver}
use Rattle.quiver_paths.specs.PathList.{paths_of_length, saturated}

abbrev pub count_from : Quiver → ℕ → ℕ → ℕ
count_from Q n v = count_by (λ p. p.start == v) (paths_of_length Q n)

-- for each of 32 vertices how many paths of length n start there
pub record CountsPaths (Q : Quiver) (n : ℕ) (counts : List ℕ) : Type 0 where
  pub size : length counts ≡ 32
  pub at : (v : ℕ) → v < 32 → slice_index counts v ≡ saturated (count_from Q n v)
