-- The pullback of an almost split sequence: of the differential under the Nakayama functor and the homomorphism that a functional stands for.
-- (Assem, Simson, Skowroński, volume 1, chapter IV, 2 and 3.)
use Rattle.std.specs.Prelude.{ℕ, List}
use Rattle.linear_algebra.specs.Field.{Gf}
use Rattle.representations.specs.Quiver.{BoundQuiver}
use Rattle.representations.specs.Rep.{Rep, IsMod}
use Rattle.representations.specs.Hom.{Hom, negative_hom}
use Rattle.representations.specs.Sum.{from_sum}
use Rattle.projectives.specs.TwoSided.{TwoSided}
use Rattle.projectives.specs.Pairing.{hom_of_columns}
use Rattle.module_types.specs.TermMatrices.{count, vertex}
use Rattle.module_types.specs.Presentations.{Presentation, injective_term, nakayama_of, part}
use Rattle.claim_conditions.specs.SequenceConditions.{around}

module _ {q : Gf} {A : BoundQuiver} (T : TwoSided q A) (p : Presentation) (M : Rep q A.quiver) (m : IsMod A M) (functional : List ℕ) where
  -- the homomorphism to the injective modules of term 0 that the functional stands for
  abbrev pub theta_hom : Hom M (injective_term T p.cover)
  theta_hom = hom_of_columns T (count p.cover) (vertex p.cover) M m (part T M p.cover functional)

  -- the homomorphism whose kernel is the pullback
  abbrev pub pullback_hom : Hom (around T p M) (injective_term T p.cover)
  pullback_hom = from_sum (nakayama_of T p) (negative_hom theta_hom)
