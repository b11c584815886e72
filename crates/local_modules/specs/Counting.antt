-- How many modules of a list are isomorphic to a given one. (Assem, Simson, Skowroński, volume 1, chapter I, 4.)
use Rattle.std.specs.Prelude.{ℕ, ◌<◌, ◌≡◌}
use Rattle.linear_algebra.specs.Field.{Gf}
use Rattle.representations.specs.Quiver.{Quiver}
use Rattle.representations.specs.Rep.{Rep}
use Rattle.local_modules.specs.Isomorphic.{Isomorphic}

-- Exactly c of the modules X 0, .., X (m − 1) are isomorphic to Z: those at the places place 0, .., place (c − 1), which are different.
pub record IsCount {q : Gf} {Q : Quiver} (m : ℕ) (X : ℕ → Rep q Q) (Z : Rep q Q) (c : ℕ) : Type 0 where
  pub place : ℕ → ℕ
  pub below : (i : ℕ) → i < c → place i < m
  pub different : (i j : ℕ) → i < c → j < c → place i ≡ place j → i ≡ j
  pub same : (i : ℕ) → i < c → Isomorphic (X (place i)) Z
  pub all : (k : ℕ) → k < m → Isomorphic (X k) Z → (i : ℕ) × (i < c) × (place i ≡ k)
