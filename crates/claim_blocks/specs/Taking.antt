-- A line that follows what has been read.
use Rattle.std.specs.Prelude.{ℕ, ◌≡◌, List}

-- The tokens spell one of the things that may follow, and lead to what is read with it. (They spell no other.)
pub record Takes {X Part : Type 0} (Fits : X → Type 0) (spell : X → List (List ℕ)) (taken : X → Part) (tokens : List (List ℕ)) (next : Part) : Type 0 where
  pub item : X
  pub fits : Fits item
  pub spelled : tokens ≡ spell item
  pub only : (other : X) → Fits other → tokens ≡ spell other → other ≡ item
  pub leads : next ≡ taken item
