-- Right almost split homomorphisms, and lists of local modules that are closed under them. (Assem, Simson, Skowroński, volume 1, chapter IV, 1, 3 and 4.)
use Rattle.std.specs.Prelude.{ℕ, ◌<◌, ◌≢◌}
use Rattle.linear_algebra.specs.Field.{Gf}
use Rattle.representations.specs.Quiver.{Quiver, BoundQuiver}
use Rattle.representations.specs.Rep.{Rep, IsMod}
use Rattle.representations.specs.Hom.{Hom}
use Rattle.representations.specs.Module.{IsSplitEpi, Biproduct}
use Rattle.projectives.specs.TwoSided.{TwoSided}
use Rattle.projectives.specs.Injective.{injective}
use Rattle.local_modules.specs.Local.{IsLocal}
use Rattle.local_modules.specs.Isomorphic.{Isomorphic, AreApart}
use Rattle.auslander_reiten.specs.AlmostSplit.{Lifts}

-- g goes from a module to a module, is no split epimorphism, and each homomorphism of a module to M that is no split epimorphism lifts along g.
pub record IsRightAlmostSplit {q : Gf} (A : BoundQuiver) {E M : Rep q A.quiver} (g : Hom E M) : Type 0 where
  pub source_module : IsMod A E
  pub target_module : IsMod A M
  pub not_split : IsSplitEpi g → ⊥
  pub lifts : (X : Rep q A.quiver) → IsMod A X → (h : Hom X M) → (IsSplitEpi h → ⊥) → Lifts g h

-- One of the modules Y 0, .., Y (n − 1) that is isomorphic to X.
pub record IsListed {q : Gf} {Q : Quiver} (n : ℕ) (Y : ℕ → Rep q Q) (X : Rep q Q) : Type 0 where
  pub member : ℕ
  pub below : member < n
  pub same : Isomorphic X (Y member)

-- A right almost split homomorphism to M, out of a module that is a direct sum of listed modules.
pub record ListedSource {q : Gf} (A : BoundQuiver) (n : ℕ) (Y : ℕ → Rep q A.quiver) (M : Rep q A.quiver) : Type 0 where
  pub source : Rep q A.quiver
  pub g : Hom source M
  pub almost_split : IsRightAlmostSplit A g
  pub parts : Biproduct source
  pub listed : (i : ℕ) → i < parts.count → IsListed n Y (parts.summand i).part

-- Local modules over A, no two isomorphic; to each of them there is a right almost split homomorphism out of a direct sum of some of them; and the injective
-- module at each vertex is among them.
pub record IsClosedList {q : Gf} {A : BoundQuiver} (T : TwoSided q A) (n : ℕ) (Y : ℕ → Rep q A.quiver) : Type 0 where
  pub is_module : (k : ℕ) → k < n → IsMod A (Y k)
  pub local : (k : ℕ) → k < n → IsLocal (Y k)
  pub apart : (k l : ℕ) → k < n → l < n → k ≢ l → AreApart (Y k) (Y l)
  pub source : (k : ℕ) → k < n → ListedSource A n Y (Y k)
  pub injective_listed : (v : ℕ) → v < A.quiver.vertices → IsListed n Y (injective T v)
