-- Local modules that are pairwise apart, and the radical of the endomorphism ring of their sum. (Assem, Simson, Skowroński, volume 1, appendix, 3 and 4.)
use Rattle.std.specs.Prelude.{ℕ, zero, suc, ◌<◌, ◌≢◌}
use Rattle.linear_algebra.specs.Field.{Gf}
use Rattle.representations.specs.Quiver.{Quiver}
use Rattle.representations.specs.Rep.{Rep}
use Rattle.representations.specs.Hom.{Hom, ◌≫◌, identity}
use Rattle.representations.specs.Module.{IsNilpotent}
use Rattle.representations.specs.Sum.{sum_family}
use Rattle.projectives.specs.Families.{family_in}
use Rattle.projectives.specs.Components.{family_out}
use Rattle.local_modules.specs.Local.{IsLocal}
use Rattle.local_modules.specs.Isomorphic.{AreApart}

-- Local modules Y 0, .., Y (n − 1) that are pairwise apart: no two of them are isomorphic.
pub record AreLocalAndApart {q : Gf} {Q : Quiver} (n : ℕ) (Y : ℕ → Rep q Q) : Type 0 where
  pub local : (k : ℕ) → k < n → IsLocal (Y k)
  pub apart : (k l : ℕ) → k < n → l < n → k ≢ l → AreApart (Y k) (Y l)

-- The component of an endomorphism of the sum from its part k to its part l.
abbrev pub part : {q : Gf} {Q : Quiver} (n : ℕ) (Y : ℕ → Rep q Q) (x : Hom (sum_family n Y) (sum_family n Y)) (k l : ℕ) → Hom (Y k) (Y l)
part n Y x k l = family_in n Y k ≫ x ≫ family_out n Y l

-- The radical of the endomorphism ring of the sum of local modules that are pairwise apart: the endomorphisms whose components from a part to itself
-- are nilpotent.
abbrev pub IsRadical : {q : Gf} {Q : Quiver} {n : ℕ} {Y : ℕ → Rep q Q} → AreLocalAndApart n Y → Hom (sum_family n Y) (sum_family n Y) → Type 0
IsRadical {n = n} {Y = Y} C x = (k : ℕ) → k < n → IsNilpotent (part n Y x k k)

-- h 0 and then h 1 and so on, to h (k − 1).
unfoldable pub composite_of : {q : Gf} {Q : Quiver} {X : Rep q Q} → (ℕ → Hom X X) → ℕ → Hom X X
composite_of {X = X} h zero = identity X
composite_of h (suc k) = composite_of h k ≫ h k
