-- What an almost split sequence is made of. (Assem, Simson, Skowroński, volume 1, chapter IV, 2 and 3.)
use Rattle.std.specs.Prelude.{ℕ, ◌≡◌, ◌≢◌}
use Rattle.linear_algebra.specs.Field.{Gf}
use Rattle.linear_algebra.specs.Matrix.{zeros, one}
use Rattle.representations.specs.Quiver.{BoundQuiver}
use Rattle.representations.specs.Rep.{Rep, IsMod}
use Rattle.representations.specs.Hom.{Hom, ◌≫◌, negative_hom}
use Rattle.representations.specs.Module.{IsIso, IsZero}
use Rattle.representations.specs.Sum.{sum_rep, into_first, onto_second, from_sum}
use Rattle.representations.specs.KernelOf.{IsKernel, IsReduced}
use Rattle.projectives.specs.Families.{projectives}
use Rattle.projectives.specs.TwoSided.{TwoSided}
use Rattle.projectives.specs.Injective.{injectives}
use Rattle.projectives.specs.Transposed.{nakayama}
use Rattle.projectives.specs.Pairing.{pairing}
use Rattle.local_modules.specs.Local.{IsLocal}
use Rattle.auslander_reiten.specs.Presentation.{IsMinimalPresentation}
use Rattle.auslander_reiten.specs.Translates.{IsTranslate}

-- A local module M with a minimal presentation P → P' → M, by d and c, where P is not zero: M is not projective. P is the sum of the projective
-- modules at k vertices v, and P' that of those at h vertices u.
pub record LocalPresentation {q : Gf} {A : BoundQuiver} (T : TwoSided q A) (M : Rep q A.quiver) : Type 0 where
  pub is_module : IsMod A M
  pub local : IsLocal M
  pub k : ℕ
  pub v : ℕ → ℕ
  pub h : ℕ
  pub u : ℕ → ℕ
  pub d : Hom (projectives T.words k v) (projectives T.words h u)
  pub c : Hom (projectives T.words h u) M
  pub presentation : IsMinimalPresentation T k v h u d c
  pub not_projective : IsZero (projectives T.words k v) → ⊥

-- A homomorphism t : M → νP', which stands for the functional on Hom (P', M) that takes y to the pairing of y and t. It is zero on c and then an
-- endomorphism of M that is no isomorphism, and it is not zero on c and then the endomorphism `seen`.
pub record EndFunctional {q : Gf} {A : BoundQuiver} (T : TwoSided q A) {M : Rep q A.quiver} (D : LocalPresentation T M) : Type 0 where
  pub t : Hom M (injectives T D.h D.u)
  pub vanishes : (x : Hom M M) → (IsIso x → ⊥) → pairing T D.h D.u (D.c ≫ x) t ≡ zeros q 1 1
  pub seen : Hom M M
  pub sees : pairing T D.h D.u (D.c ≫ seen) t ≢ zeros q 1 1

-- The sequence L → E → M by f and g: L is τM, embedded in νP by i; E is the pullback of νd : νP → νP' and t : M → νP', embedded in νP ⊕ M by j;
-- f is i on the one side and zero on the other, and g is the projection to M.
pub record SequenceData {q : Gf} {A : BoundQuiver} (T : TwoSided q A) {L E M : Rep q A.quiver} (D : LocalPresentation T M) (F : EndFunctional T D) (f : Hom L E) (g : Hom E M) : Type 0 where
  pub i : Hom L (injectives T D.k D.v)
  pub left : IsTranslate T D.k D.v D.h D.u M D.d D.c i
  pub j : Hom E (sum_rep (injectives T D.k D.v) M)
  pub middle : IsKernel j (from_sum (nakayama T D.k D.v D.h D.u D.d) (negative_hom F.t))
  pub first : f ≫ j ≡ i ≫ into_first (injectives T D.k D.v) M
  pub second : g ≡ j ≫ onto_second (injectives T D.k D.v) M

-- The functional is 1 on c, and then a homomorphism M → X, and then h.
pub record IsDetected {q : Gf} {A : BoundQuiver} (T : TwoSided q A) {X M : Rep q A.quiver} (D : LocalPresentation T M) (F : EndFunctional T D) (h : Hom X M) : Type 0 where
  pub by : Hom M X
  pub sees : pairing T D.h D.u (D.c ≫ (by ≫ h)) F.t ≡ one q 1

-- A sequence of these data, with both embeddings in reduced row form.
pub record CanonicalSequence {q : Gf} {A : BoundQuiver} (T : TwoSided q A) {M : Rep q A.quiver} (D : LocalPresentation T M) (F : EndFunctional T D) : Type 0 where
  pub left_end : Rep q A.quiver
  pub middle_term : Rep q A.quiver
  pub f : Hom left_end middle_term
  pub g : Hom middle_term M
  pub sequence : SequenceData T D F f g
  pub left_reduced : IsReduced sequence.i
  pub middle_reduced : IsReduced sequence.j
