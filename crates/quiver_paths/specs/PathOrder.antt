-- The order of paths that Gröbner bases are taken in (Green; length-lexicographic): a shorter path is smaller, paths of
-- one length are compared arrow by arrow from the left by the order of declaration, and paths with the same arrows by
-- their starts.
use Rattle.std.specs.Prelude.{ℕ, ◌≡◌, ◌<◌, List, [], ◌∷◌, ◌⊎◌, AllPairs}
use Rattle.std.specs.declared.cmp.Ordering.{Ordering}
use Rattle.std.specs.declared.cmp.Ordering.TheVariants.{Less}
use Rattle.std.specs.Ordering.{nat_cmp, then_cmp, on}
use Rattle.std.specs.Cmp.Lexicographic.{slice_cmp}
use Rattle.quiver_paths.specs.declared.Path.{Path}
use Rattle.quiver_paths.specs.Path.{path_length}

-- how one path stands to another
unfoldable pub path_cmp : Path → Path → Ordering
path_cmp =
    then_cmp (on path_length nat_cmp) (then_cmp (on (λ p. p.arrows) (slice_cmp nat_cmp)) (on (λ p. p.start) nat_cmp))

abbrev pub IsSmaller : Path → Path → Type 0
IsSmaller p q = path_cmp p q ≡ Less

-- the smallest path first, and none twice
abbrev pub IsAscending : List Path → Type 0
IsAscending ps = AllPairs IsSmaller ps

-- at the first place where the two lists differ, the first has the smaller number
abbrev pub DiffersBelow : List ℕ → List ℕ → Type 0
DiffersBelow [] ys = ⊥
DiffersBelow (x ∷ xs) [] = ⊥
DiffersBelow (x ∷ xs) (y ∷ ys) = (x < y) ⊎ ((x ≡ y) × DiffersBelow xs ys)

-- The order once more, case by case. The law `smaller_by_cases` says that it is the same.
pub data ComesBefore (p q : Path) : Type 0 where
  shorter : path_length p < path_length q → ComesBefore p q
  by_arrows : path_length p ≡ path_length q → DiffersBelow p.arrows q.arrows → ComesBefore p q
  by_start : p.arrows ≡ q.arrows → p.start < q.start → ComesBefore p q
