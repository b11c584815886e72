-- Almost split sequences. (Assem, Simson, Skowroński, volume 1, chapter IV, 1.)
use Rattle.std.specs.Prelude.{◌≡◌}
use Rattle.linear_algebra.specs.Field.{Gf}
use Rattle.representations.specs.Quiver.{Quiver, BoundQuiver}
use Rattle.representations.specs.Rep.{Rep, IsMod}
use Rattle.representations.specs.Hom.{Hom, ◌≫◌}
use Rattle.representations.specs.Module.{IsMono, IsEpi, IsExact, IsIso, IsSplitMono, IsSplitEpi}
use Rattle.local_modules.specs.Local.{IsLocal}

-- h lifts along g: it is another homomorphism and then g. h extends along f: it is f and then another homomorphism.
pub record Lifts {q : Gf} {Q : Quiver} {X E M : Rep q Q} (g : Hom E M) (h : Hom X M) : Type 0 where
  pub lift : Hom X E
  pub is : lift ≫ g ≡ h

pub record Extends {q : Gf} {Q : Quiver} {L E Y : Rep q Q} (f : Hom L E) (h : Hom L Y) : Type 0 where
  pub extension : Hom E Y
  pub is : f ≫ extension ≡ h

-- 0 → L → E → M → 0 is exact.
pub record IsShortExact {q : Gf} {Q : Quiver} {L E M : Rep q Q} (f : Hom L E) (g : Hom E M) : Type 0 where
  pub mono : IsMono f
  pub exact : IsExact f g
  pub onto : IsEpi g

-- Almost split: a short exact sequence of modules, g no split epimorphism, both ends local; each homomorphism of a module to M that is no split epimorphism lifts
-- along g, and each homomorphism of L to a module that is no split monomorphism extends along f.
pub record IsAlmostSplit {q : Gf} (A : BoundQuiver) {L E M : Rep q A.quiver} (f : Hom L E) (g : Hom E M) : Type 0 where
  pub left_module : IsMod A L
  pub middle_module : IsMod A E
  pub right_module : IsMod A M
  pub short_exact : IsShortExact f g
  pub not_split : IsSplitEpi g → ⊥
  pub left_local : IsLocal L
  pub right_local : IsLocal M
  pub lifts : (X : Rep q A.quiver) → IsMod A X → (h : Hom X M) → (IsSplitEpi h → ⊥) → Lifts g h
  pub extends : (Y : Rep q A.quiver) → IsMod A Y → (h : Hom L Y) → (IsSplitMono h → ⊥) → Extends f h

-- An almost split sequence that ends in M.
pub record AlmostSplitSequence {q : Gf} (A : BoundQuiver) (M : Rep q A.quiver) : Type 0 where
  pub left_end : Rep q A.quiver
  pub middle_term : Rep q A.quiver
  pub f : Hom left_end middle_term
  pub g : Hom middle_term M
  pub almost_split : IsAlmostSplit A f g

-- An isomorphism of two sequences that end in M, with the identity on M.
pub record SequenceIsomorphism {q : Gf} {Q : Quiver} {L E M L' E' : Rep q Q} (f : Hom L E) (g : Hom E M) (f' : Hom L' E') (g' : Hom E' M) : Type 0 where
  pub on_left : Hom L L'
  pub on_middle : Hom E E'
  pub left_iso : IsIso on_left
  pub middle_iso : IsIso on_middle
  pub square : on_left ≫ f' ≡ f ≫ on_middle
  pub over : on_middle ≫ g' ≡ g
