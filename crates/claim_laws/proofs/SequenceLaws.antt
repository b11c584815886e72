-- Where the conditions on an almost split sequence hold, over a certified local module and its minimal presentation, it is one.
use Rattle.std.proofs.Common.{ℕ, zero, suc, ◌≡◌, ◌<◌, ◌≤◌, ◌+◌, List, refl, sym, ap, ap₂, ◌∙◌, arith}
use Rattle.linear_algebra.specs.Field.{Gf}
use Rattle.linear_algebra.specs.Ranks.{rank}
use Rattle.linear_algebra.specs.Matrix.{zeros, one, ◌·◌, beside, stack, negative}
use Rattle.linear_algebra.specs.Parts.{unit}
use Rattle.linear_algebra.proofs.MatrixLaws.{mul_one_mat, mul_zeros}
use Rattle.linear_algebra.proofs.Blocks.{mul_beside}
use Rattle.fp_linear.specs.Matrix.{PlainMatrix}
use Rattle.path_algebra.specs.declared.Header.{Header}
use Rattle.representations.specs.Quiver.{BoundQuiver}
use Rattle.representations.specs.Rep.{Rep, IsMod}
use Rattle.representations.specs.Hom.{Hom, Hom-eq, ◌≫◌, negative_hom}
use Rattle.representations.specs.Module.{IsZero}
use Rattle.representations.specs.KernelOf.{IsKernel}
use Rattle.representations.specs.Sum.{sum_family, into_first, onto_second, from_sum}
use Rattle.representations.specs.HomSpace.{HomBasis}
use Rattle.representations.proofs.Homs.{compose-at}
use Rattle.representations.proofs.KernelsBySize.{kernel_by_reduced}
use Rattle.projectives.specs.Families.{projectives}
use Rattle.projectives.specs.TwoSided.{TwoSided}
use Rattle.local_modules.specs.Local.{IsLocal}
use Rattle.local_modules.specs.MatrixAlgebra.{endomorphism_algebra}
use Rattle.local_modules.specs.Certificate.{LocalCertificate}
use Rattle.auslander_reiten.specs.AlmostSplit.{IsAlmostSplit}
use Rattle.auslander_reiten.specs.SequenceData.{LocalPresentation, EndFunctional, SequenceData}
use Rattle.auslander_reiten.proofs.IdealFunctional.{functional_of_certificate}
use Rattle.auslander_reiten.proofs.AlmostSplitSequences.{almost_split}
use Rattle.module_types.specs.declared.Module.{Module}
use Rattle.module_types.specs.declared.TermRows.{TermRows}
use Rattle.module_types.specs.Algebras.{sided_words}
use Rattle.module_types.specs.Readings.{read, read_beside, family_of, IsHom, hom_by}
use Rattle.module_types.specs.TermMatrices.{count, vertex}
use Rattle.module_types.specs.Presentations.{Presentation, injective_term, nakayama_of, pullback}
use Rattle.module_types.proofs.Presentations.{theta-at}
use Rattle.claim_conditions.specs.declared.Residue.{Residue}
use Rattle.claim_conditions.specs.Conditions.{AllHold}
use Rattle.claim_conditions.specs.Modules.{Sides, ModuleHolds, MapHolds}
use Rattle.claim_conditions.specs.HomConditions.{hom_conditions}
use Rattle.claim_conditions.specs.Resolutions.{ResolutionHolds}
use Rattle.claim_conditions.specs.LocalConditions.{local_conditions}
use Rattle.claim_conditions.specs.Translates.{presentation_of}
use Rattle.claim_conditions.specs.TranslateConditions.{embedding_of}
use Rattle.claim_conditions.specs.Sequences.{SequenceHolds}
use Rattle.claim_conditions.specs.SequenceConditions.{SequenceRows, IsNotProjective, IsEndFunctional, IsLeft, around, middle_of, IsMiddle, AreMaps, sequence_conditions}
use Rattle.claim_laws.specs.Pullbacks.{theta_hom, pullback_hom}
use Rattle.claim_laws.proofs.Sides.{hom_at}
use Rattle.claim_laws.proofs.ResolutionLaws.{PresentationHolds, presentation_holds}
use Rattle.claim_laws.proofs.LocalLaws.{endomorphism_basis, certificate_of, local_suffices}
use Rattle.claim_laws.proofs.Functionals.{kills_row, sees_member}

-- A sum of projective modules at vertices is not zero, where there is one.
pub projectives_not_zero : {q : Gf} {A : BoundQuiver} (T : TwoSided q A) (k : ℕ) (v : ℕ → ℕ) → 1 ≤ k → ((j : ℕ) → j < k → v j < A.quiver.vertices) → IsZero (projectives T.words k v) → ⊥
unfolding sum_family
projectives_not_zero T zero v h d z = absurd (omega arith)
projectives_not_zero T (suc k) v h d z =
    let some : T.basis.place (v k) < T.words.count (v k) (v k) = T.basis.place_below (v k) (d k (omega arith)) in
    let none : (projectives T.words k v).dim (v k) + T.words.count (v k) (v k) ≡ zero = z (v k) in
    absurd (omega arith)

module _ {q : Gf} {A : BoundQuiver} (T : TwoSided q A) (p : Presentation) (M : Rep q A.quiver) (m : IsMod A M) (l : IsLocal M) (P : PresentationHolds T M p) (n : IsNotProjective T p) where
  abbrev pub local_presentation : LocalPresentation T M
  local_presentation = record {
    is_module = m;
    local = l;
    k = count p.syzygy;
    v = vertex p.syzygy;
    h = count p.cover;
    u = vertex p.cover;
    d = _;
    c = P.cover;
    presentation = P.is;
    not_projective = projectives_not_zero T (count p.syzygy) (vertex p.syzygy) n P.declared;
  }

  module _ (B : HomBasis M M) (cert : LocalCertificate (endomorphism_algebra B)) (s : SequenceRows) (f : IsEndFunctional T p M s.functional B.basis cert.ideal) where
    abbrev pub end_functional : EndFunctional T local_presentation
    end_functional = functional_of_certificate T local_presentation B (theta_hom T p M m s.functional) cert
        (λ i h. kills_row T p M m s.functional P.cover P.is_cover B cert.ideal f i h)
        (unit q B.size f.member)
        (sees_member T p M m s.functional P.cover P.is_cover B cert.ideal f)

-- The left end.
module _ {q : Gf} {A : BoundQuiver} (T : TwoSided q A) (p : Presentation) (N : Rep q A.quiver) (matrices : List PlainMatrix) (left : IsLeft T p N matrices) where
  abbrev pub left_embedding : Hom N (injective_term T p.syzygy)
  left_embedding = hom_by N (injective_term T p.syzygy) (embedding_of T p N matrices) left.inside.hom

  pub left_kernel : IsKernel left_embedding (nakayama_of T p)
  left_kernel = kernel_by_reduced left_embedding (nakayama_of T p) left.reduced left.inside.zero left.size

-- The middle term.
module _ {q : Gf} {A : BoundQuiver} (T : TwoSided q A) (p : Presentation) (E M : Rep q A.quiver) (m : IsMod A M) (phi : List ℕ) (matrices : List PlainMatrix) where
  pub pullback-at : (w : ℕ) → (pullback_hom T p M m phi).at w ≡ pullback T M p phi w
  unfolding from_sum negative_hom
  pullback-at w = ap (λ z. stack ((nakayama_of T p).at w) (negative z)) (theta-at T M p.cover phi m w)

  module _ (middle : IsMiddle T p E M phi matrices) where
    abbrev pub middle_embedding : Hom E (around T p M)
    middle_embedding = hom_by E (around T p M) (middle_of T p E M phi matrices) middle.hom

    pub middle_kernel : IsKernel middle_embedding (pullback_hom T p M m phi)
    middle_kernel = kernel_by_reduced middle_embedding (pullback_hom T p M m phi) middle.reduced
        (λ w. ap (λ z. middle_embedding.at w · z) (pullback-at w) ∙ middle.inside w)
        (λ w. ap (λ z. E.dim w + rank z) (pullback-at w) ∙ middle.size w)

-- The maps.
module _ {q : Gf} {A : BoundQuiver} (T : TwoSided q A) (p : Presentation) (N E M : Rep q A.quiver) (f g : List PlainMatrix) (s : SequenceRows) (left : IsLeft T p N s.left)
    (middle : IsMiddle T p E M s.functional s.middle) (maps : AreMaps T p N E M f g s) (first : IsHom N E (family_of N E f)) (second : IsHom E M (family_of E M g)) where
  first_is : hom_by N E (family_of N E f) first ≫ hom_by E (around T p M) (middle_of T p E M s.functional s.middle) middle.hom
      ≡ left_embedding T p N s.left left ≫ into_first (injective_term T p.syzygy) M
  unfolding into_first
  first_is = Hom-eq _ _ (λ w.
      compose-at (hom_by N E (family_of N E f) first) (hom_by E (around T p M) (middle_of T p E M s.functional s.middle) middle.hom) w
      ∙ maps.first w
      ∙ sym (compose-at (left_embedding T p N s.left left) (into_first (injective_term T p.syzygy) M) w
      ∙ mul_beside (embedding_of T p N s.left w) (one q ((injective_term T p.syzygy).dim w)) (zeros q ((injective_term T p.syzygy).dim w) (M.dim w))
      ∙ ap₂ (λ a b. beside a b) (mul_one_mat (embedding_of T p N s.left w)) (mul_zeros (embedding_of T p N s.left w))))

  second_is : hom_by E M (family_of E M g) second ≡ hom_by E (around T p M) (middle_of T p E M s.functional s.middle) middle.hom ≫ onto_second (injective_term T p.syzygy) M
  unfolding onto_second
  second_is = Hom-eq _ _ (λ w. maps.second w ∙ sym (compose-at (hom_by E (around T p M) (middle_of T p E M s.functional s.middle) middle.hom) (onto_second (injective_term T p.syzygy) M) w))

  module _ (m : IsMod A M) (l : IsLocal M) (P : PresentationHolds T M p) (n : IsNotProjective T p) (B : HomBasis M M) (cert : LocalCertificate (endomorphism_algebra B))
      (h : IsEndFunctional T p M s.functional B.basis cert.ideal) where
    pub sequence_data : SequenceData T (local_presentation T p M m l P n) (end_functional T p M m l P n B cert s h) (hom_by N E (family_of N E f) first) (hom_by E M (family_of E M g) second)
    sequence_data =
        let i = left_kernel T p N s.left left in
        let j = middle_kernel T p E M m s.functional s.middle middle in
        record {
          i = left_embedding T p N s.left left;
          left = record { presentation = P.is; kernel = record { mono = i.mono; exact = i.exact } };
          j = middle_embedding T p E M m s.functional s.middle middle;
          middle = record { mono = j.mono; exact = j.exact };
          first = first_is;
          second = second_is;
        }

    pub is_almost_split : IsAlmostSplit A (hom_by N E (family_of N E f) first) (hom_by E M (family_of E M g) second)
    is_almost_split = almost_split T (local_presentation T p M m l P n) (end_functional T p M m l P n B cert s h) _ _ sequence_data

-- The claim.
module _ (named other : Type 0) (h : Header) (T : Sides h) (n e a : Module) (f g : List PlainMatrix) (terms : List TermRows) (basis ideal : PlainMatrix) (power : ℕ) (residue : Residue) (s : SequenceRows) where
  pub sequence_suffices : ModuleHolds h a → ResolutionHolds h T a terms 1 → AllHold (hom_conditions h a a basis) → AllHold (local_conditions other h a basis ideal power residue)
      → MapHolds h n e f → MapHolds h e a g → AllHold (sequence_conditions named h T n e a f g terms basis ideal s) → SequenceHolds h n e a f g
  sequence_suffices m R c d x y k =
      let N = read_beside h a n in
      let E = read_beside h a e in
      let M = read h a in
      let p = presentation_of terms in
      let first = hom_at h n e f a.side k.0.1.left x in
      let second = hom_at h e a g a.side k.0.1.middle y in
      record {
        left_side = k.0.1.left;
        middle_side = k.0.1.middle;
        first = hom_by N E (family_of N E f) first;
        first_matrices = λ w. refl;
        second = hom_by E M (family_of E M g) second;
        second_matrices = λ w. refl;
        is = is_almost_split (sided_words a.side T) p N E M f g s k.1.1.1.0 k.1.1.1.1.0 k.1.1.1.1.1.0 first second m (local_suffices h a basis ideal other power residue c d)
            (presentation_holds (sided_words a.side T) M terms R) k.1.0 (endomorphism_basis h a basis c) (certificate_of h a basis ideal other power residue c d) k.1.1.0;
      }
