-- Properties of homomorphisms and modules. (Assem, Simson, Skowroński, volume 1, chapter III, 1, and chapter I, 2 to 4.)
use Rattle.std.specs.Prelude.{ℕ, zero, ◌≡◌, ◌≢◌, ◌<◌}
use Rattle.linear_algebra.specs.Field.{Gf}
use Rattle.linear_algebra.specs.Matrix.{Row, zeros, ◌·◌}
use Rattle.linear_algebra.specs.Rank.{IsInSpan, IsInjective, IsSurjective}
use Rattle.representations.specs.Quiver.{Quiver}
use Rattle.representations.specs.Rep.{Rep}
use Rattle.representations.specs.Hom.{Hom, ◌≫◌, identity, zero_hom, power, sum_of}

-- At each vertex only the zero row goes to zero; at each vertex each row is reached.
abbrev pub IsMono : {q : Gf} {Q : Quiver} {X Y : Rep q Q} → Hom X Y → Type 0
IsMono f = (v : ℕ) → IsInjective (f.at v)

abbrev pub IsEpi : {q : Gf} {Q : Quiver} {X Y : Rep q Q} → Hom X Y → Type 0
IsEpi f = (v : ℕ) → IsSurjective (f.at v)

-- Exact at the middle: the rows that g takes to zero are just those that f reaches.
pub record IsExact {q : Gf} {Q : Quiver} {X Y Z : Rep q Q} (f : Hom X Y) (g : Hom Y Z) : Type 0 where
  pub complex : (v : ℕ) (x : Row q (X.dim v)) → x · f.at v · g.at v ≡ zeros q 1 (Z.dim v)
  pub exact : (v : ℕ) (y : Row q (Y.dim v)) → y · g.at v ≡ zeros q 1 (Z.dim v) → IsInSpan (f.at v) y

-- An isomorphism, by its inverse.
pub record IsIso {q : Gf} {Q : Quiver} {X Y : Rep q Q} (f : Hom X Y) : Type 0 where
  pub inverse : Hom Y X
  pub right : f ≫ inverse ≡ identity X
  pub left : inverse ≫ f ≡ identity Y

-- A split monomorphism has a retraction, a split epimorphism a section.
pub record IsSplitMono {q : Gf} {Q : Quiver} {X Y : Rep q Q} (f : Hom X Y) : Type 0 where
  pub retraction : Hom Y X
  pub is : f ≫ retraction ≡ identity X

pub record IsSplitEpi {q : Gf} {Q : Quiver} {X Y : Rep q Q} (f : Hom X Y) : Type 0 where
  pub section : Hom Y X
  pub is : section ≫ f ≡ identity Y

-- Some power is zero.
pub record IsNilpotent {q : Gf} {Q : Quiver} {X : Rep q Q} (f : Hom X X) : Type 0 where
  pub exponent : ℕ
  pub vanishes : power f exponent ≡ zero_hom X X

-- No rows at any vertex.
abbrev pub IsZero : {q : Gf} {Q : Quiver} → Rep q Q → Type 0
IsZero X = (v : ℕ) → X.dim v ≡ zero

-- A direct summand of X: a representation with a homomorphism into X and one back.
pub record Summand {q : Gf} {Q : Quiver} (X : Rep q Q) : Type 0 where
  pub part : Rep q Q
  pub injection : Hom part X
  pub projection : Hom X part

-- A summand t of the part of s, as a summand of the whole.
abbrev pub summand_of : {q : Gf} {Q : Quiver} {X : Rep q Q} (s : Summand X) → Summand s.part → Summand X
summand_of s t = record { part = t.part; injection = t.injection ≫ s.injection; projection = s.projection ≫ t.projection }

-- Summands that are orthogonal to one another; `whole` is the sum of the idempotents that they give.
pub record Orthogonal {q : Gf} {Q : Quiver} {X : Rep q Q} (whole : Hom X X) : Type 0 where
  pub count : ℕ
  pub summand : ℕ → Summand X
  pub same : (i : ℕ) → i < count → (summand i).injection ≫ (summand i).projection ≡ identity (summand i).part
  pub other : (i j : ℕ) → i < count → j < count → i ≢ j → (summand i).injection ≫ (summand j).projection ≡ zero_hom (summand i).part (summand j).part
  pub sum : sum_of count (λ i. (summand i).projection ≫ (summand i).injection) ≡ whole

-- A decomposition of X as a direct sum, with the injections and projections of the parts.
abbrev pub Biproduct : {q : Gf} {Q : Quiver} → Rep q Q → Type 0
Biproduct X = Orthogonal (identity X)
