-- Submodules and quotients: inclusions are injective, projections surjective, each is determined by its basis or its surjection, and those
-- of a module are modules.
use Rattle.std.proofs.Common.{ℕ, ◌≡◌, sym, ◌∙◌}
use Rattle.linear_algebra.specs.Field.{Gf}
use Rattle.linear_algebra.specs.Matrix.{Mat, ◌·◌}
use Rattle.linear_algebra.proofs.Solving.{right_inverse_injective, right_inverse_cancels, left_inverse_surjective, left_inverse_cancels}
use Rattle.representations.specs.Quiver.{Quiver, BoundQuiver}
use Rattle.representations.specs.Rep.{Rep, IsMod}
use Rattle.representations.specs.Module.{IsMono, IsEpi}
use Rattle.representations.specs.Submodule.{Submodule, Quotient, sub_rep, inclusion, quotient_rep, projection}
use Rattle.representations.proofs.Paths.{IsMod-mono, IsMod-epi}

module _ {q : Gf} {Q : Quiver} {X : Rep q Q} where
  pub inclusion_mono : (U : Submodule X) → IsMono (inclusion U)
  inclusion_mono U v = right_inverse_injective (U.basis v) (U.independent v)

  pub projection_epi : (U : Quotient X) → IsEpi (projection U)
  projection_epi U v = left_inverse_surjective (U.onto v) (U.surjective v)

  -- The matrices of a submodule are the only ones for which the basis is a homomorphism, and likewise for a quotient.
  pub sub_rep_unique : (U : Submodule X) (a : ℕ) (m : Mat q (U.size (Q.source a)) (U.size (Q.target a))) → m · U.basis (Q.target a) ≡ U.basis (Q.source a) · X.mat a → m ≡ (U.stable a).by
  sub_rep_unique U a m e = right_inverse_cancels (U.basis (Q.target a)) (U.independent (Q.target a)) m (U.stable a).by (e ∙ sym (U.stable a).is)

  pub quotient_rep_unique : (U : Quotient X) (a : ℕ) (m : Mat q (U.size (Q.source a)) (U.size (Q.target a))) → X.mat a · U.onto (Q.target a) ≡ U.onto (Q.source a) · m → m ≡ (U.surjective (Q.source a)).inverse · (X.mat a · U.onto (Q.target a))
  quotient_rep_unique U a m e = left_inverse_cancels (U.onto (Q.source a)) (U.surjective (Q.source a)) m _ (sym e ∙ (projection U).square a)

module _ {q : Gf} (A : BoundQuiver) {X : Rep q A.quiver} where
  pub IsMod-sub : (U : Submodule X) → IsMod A X → IsMod A (sub_rep U)
  IsMod-sub U = IsMod-mono A (inclusion U) (inclusion_mono U)

  pub IsMod-quotient : (U : Quotient X) → IsMod A X → IsMod A (quotient_rep U)
  IsMod-quotient U = IsMod-epi A (projection U) (projection_epi U)
