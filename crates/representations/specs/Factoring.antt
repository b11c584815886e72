-- Factoring one homomorphism through another. (Assem, Simson, Skowroński, volume 1, appendix A, 1.)
use Rattle.std.specs.Prelude.{◌≡◌}
use Rattle.linear_algebra.specs.Field.{Gf}
use Rattle.representations.specs.Quiver.{Quiver}
use Rattle.representations.specs.Rep.{Rep}
use Rattle.representations.specs.Hom.{Hom, ◌≫◌}

-- u is g and then another homomorphism, in exactly one way.
pub record FactorsAfter {q : Gf} {Q : Quiver} {X A Z : Rep q Q} (g : Hom X A) (u : Hom X Z) : Type 0 where
  pub factor : Hom A Z
  pub is : g ≫ factor ≡ u
  pub once : (k : Hom A Z) → g ≫ k ≡ u → k ≡ factor

-- u is another homomorphism and then i, in exactly one way.
pub record FactorsBefore {q : Gf} {Q : Quiver} {X N Z : Rep q Q} (i : Hom N Z) (u : Hom X Z) : Type 0 where
  pub factor : Hom X N
  pub is : factor ≫ i ≡ u
  pub once : (k : Hom X N) → k ≫ i ≡ u → k ≡ factor
