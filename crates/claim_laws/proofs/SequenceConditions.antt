-- What a computed sequence is meets the conditions: where the embeddings are kernels in reduced row form, and the functional is zero on the images under the
-- ideal and not on the generators themselves.
use Rattle.std.proofs.Common.{ℕ, ◌≡◌, ◌≢◌, ◌<◌, List, refl, sym, ap, ap₂, ◌∙◌}
use Rattle.linear_algebra.specs.Field.{Gf}
use Rattle.linear_algebra.specs.Matrix.{Mat, zeros, one, ◌·◌, beside, stack}
use Rattle.linear_algebra.specs.Parts.{row, unit}
use Rattle.linear_algebra.proofs.MatrixLaws.{mul_one_mat, mul_zeros}
use Rattle.linear_algebra.proofs.Blocks.{mul_beside}
use Rattle.linear_algebra.proofs.PartsLaws.{unit_mul}
use Rattle.fp_linear.specs.Matrix.{PlainMatrix}
use Rattle.representations.specs.Quiver.{BoundQuiver}
use Rattle.representations.specs.Rep.{Rep, IsMod}
use Rattle.representations.specs.Hom.{Hom, ◌≫◌, identity}
use Rattle.representations.specs.KernelOf.{IsKernel}
use Rattle.representations.specs.HomSpace.{HomBasis, unflat, unknowns}
use Rattle.representations.specs.Sum.{into_first, onto_second}
use Rattle.representations.proofs.Homs.{compose-at, same-at, identity-at}
use Rattle.projectives.specs.TwoSided.{TwoSided}
use Rattle.auslander_reiten.proofs.IdealFunctional.{seen_member}
use Rattle.local_modules.specs.Local.{IsLocal}
use Rattle.module_types.specs.Presentations.{Presentation, injective_term, nakayama_of, value_on}
use Rattle.claim_conditions.specs.Conditions.{AllHold}
use Rattle.claim_conditions.specs.Families.{AreReduced, HasMatrices}
use Rattle.claim_conditions.specs.SequenceConditions.{SequenceRows, IsNotProjective, IsEndFunctional, IsLeft, around, IsMiddle, AreMaps, conditions_behind_objects}
use Rattle.claim_laws.specs.Pullbacks.{theta_hom, pullback_hom}
use Rattle.claim_laws.proofs.PrintedMaps.{printed_hom, matrices_reduced, exact_zero, exact_kernel_size}
use Rattle.claim_laws.proofs.ResolutionLaws.{PresentationHolds}
use Rattle.claim_laws.proofs.Functionals.{on_row, pairing-value}
use Rattle.claim_laws.proofs.SequenceLaws.{local_presentation, pullback-at}

module _ {q : Gf} {A : BoundQuiver} (T : TwoSided q A) (p : Presentation) where
  pub left_meets : (N : Rep q A.quiver) (matrices : List PlainMatrix) (i : Hom N (injective_term T p.syzygy)) → HasMatrices i matrices → IsKernel i (nakayama_of T p)
      → AreReduced N (injective_term T p.syzygy) i.at → IsLeft T p N matrices
  left_meets N matrices i e k r = record {
    reduced = matrices_reduced i matrices e r;
    inside = record { hom = printed_hom i matrices e; zero = exact_zero i (nakayama_of T p) k.exact _ _ e (λ w. refl) };
    size = exact_kernel_size i (nakayama_of T p) k.exact k.mono _ (λ w. refl);
  }

  module _ (E M : Rep q A.quiver) (m : IsMod A M) (phi : List ℕ) (matrices : List PlainMatrix) (j : Hom E (around T p M)) (e : HasMatrices j matrices) where
    pub middle_meets : IsKernel j (pullback_hom T p M m phi) → AreReduced E (around T p M) j.at → IsMiddle T p E M phi matrices
    middle_meets k r = record {
      reduced = matrices_reduced j matrices e r;
      hom = printed_hom j matrices e;
      inside = exact_zero j (pullback_hom T p M m phi) k.exact _ _ e (pullback-at T p E M m phi matrices);
      size = exact_kernel_size j (pullback_hom T p M m phi) k.exact k.mono _ (pullback-at T p E M m phi matrices);
    }

  -- A functional that is zero under the ideal, and not on the generators themselves.
  module _ (M : Rep q A.quiver) (m : IsMod A M) (l : IsLocal M) (P : PresentationHolds T M p) (n : IsNotProjective T p) (B : HomBasis M M) (phi : List ℕ) where
    pub functional_meets : {r : ℕ} (ideal : Mat q r B.size) → ((i : ℕ) → i < r → value_on T M p.cover phi (unflat M M (row i (ideal · B.basis))) ≡ zeros q 1 1)
        → value_on T M p.cover phi (λ w. one q (M.dim w)) ≢ zeros q 1 1 → IsEndFunctional T p M phi B.basis ideal
    functional_meets ideal kills sees =
        let found = seen_member T (local_presentation T p M m l P n) B (theta_hom T p M m phi) (identity M)
        (λ e. sees (sym (pairing-value T p M m phi P.cover P.is_cover (identity M) (λ w. one q (M.dim w)) (identity-at M)) ∙ e)) in
        record {
          kills = kills;
          member = found.0;
          below = found.1;
          sees = λ e. found.2 (on_row T p M m phi P.cover P.is_cover B (unit q B.size found.0) ∙ ap (λ z. value_on T M p.cover phi (unflat M M z)) (unit_mul found.0 B.basis) ∙ e);
        }

  -- The maps.
  module _ (N E M : Rep q A.quiver) (m : IsMod A M) (s : SequenceRows) (i : Hom N (injective_term T p.syzygy)) (j : Hom E (around T p M)) where
    pub maps_meet : (f : Hom N E) (g : Hom E M) (first second : List PlainMatrix) → HasMatrices i s.left → HasMatrices j s.middle → HasMatrices f first → HasMatrices g second
        → f ≫ j ≡ i ≫ into_first (injective_term T p.syzygy) M → g ≡ j ≫ onto_second (injective_term T p.syzygy) M → AreMaps T p N E M first second s
    unfolding into_first onto_second
    maps_meet f g first second x y z u e k = record {
      first = λ w.
          ap₂ (λ a b. a · b) (sym (z w)) (sym (y w)) ∙ sym (compose-at f j w) ∙ same-at e w ∙ compose-at i (into_first (injective_term T p.syzygy) M) w
          ∙ mul_beside (i.at w) (one q ((injective_term T p.syzygy).dim w)) (zeros q ((injective_term T p.syzygy).dim w) (M.dim w))
          ∙ ap₂ (λ a b. beside a b) (mul_one_mat (i.at w) ∙ x w) (mul_zeros (i.at w));
      second = λ w. sym (u w) ∙ same-at k w ∙ compose-at j (onto_second (injective_term T p.syzygy) M) w
          ∙ ap (λ a. a · stack (zeros q ((injective_term T p.syzygy).dim w) (M.dim w)) (one q (M.dim w))) (y w);
    }

    pub sequence_meets : {n r : ℕ} (basis : Mat q n (unknowns M M)) (ideal : Mat q r n) → IsNotProjective T p → IsEndFunctional T p M s.functional basis ideal
        → HasMatrices i s.left → IsKernel i (nakayama_of T p) → AreReduced N (injective_term T p.syzygy) i.at
        → HasMatrices j s.middle → IsKernel j (pullback_hom T p M m s.functional) → AreReduced E (around T p M) j.at
        → (f : Hom N E) (g : Hom E M) (first second : List PlainMatrix) → HasMatrices f first → HasMatrices g second
        → f ≫ j ≡ i ≫ into_first (injective_term T p.syzygy) M → g ≡ j ≫ onto_second (injective_term T p.syzygy) M
        → AllHold (conditions_behind_objects T p N E M first second basis ideal s)
    sequence_meets basis ideal o h x a r y b t f g first second z u e k =
        (o, (h, (left_meets N s.left i x a r, (middle_meets E M m s.functional s.middle j y b t, (maps_meet f g first second x y z u e k, tt)))))
