-- Isomorphic modules, modules that are apart, and matchings of lists. (Assem, Simson, Skowroński, volume 1, chapter I, 4.)
use Rattle.std.specs.Prelude.{ℕ, ◌<◌, ◌≡◌}
use Rattle.linear_algebra.specs.Field.{Gf}
use Rattle.representations.specs.Quiver.{Quiver}
use Rattle.representations.specs.Rep.{Rep}
use Rattle.representations.specs.Hom.{Hom, ◌≫◌}
use Rattle.representations.specs.Module.{IsIso}

pub record Isomorphic {q : Gf} {Q : Quiver} (X Y : Rep q Q) : Type 0 where
  pub forth : Hom X Y
  pub iso : IsIso forth

-- no homomorphism from X to Y and then one back is invertible
abbrev pub AreApart : {q : Gf} {Q : Quiver} → Rep q Q → Rep q Q → Type 0
AreApart X Y = (f : Hom X Y) (g : Hom Y X) → IsIso (f ≫ g) → ⊥

-- Each of the modules X 0, .., X (m − 1) is isomorphic to one of Y 0, .., Y (n − 1), different ones to different ones, and there are as many.
pub record Matching {q : Gf} {Q : Quiver} (m : ℕ) (X : ℕ → Rep q Q) (n : ℕ) (Y : ℕ → Rep q Q) : Type 0 where
  pub count : m ≡ n
  pub place : ℕ → ℕ
  pub below : (i : ℕ) → i < m → place i < n
  pub different : (i j : ℕ) → i < m → j < m → place i ≡ place j → i ≡ j
  pub same : (i : ℕ) → i < m → Isomorphic (X i) (Y (place i))
