-- The functional by an ideal: where rows of coordinates span the nilpotent endomorphisms, it is enough that it is zero on these rows; and what is not
-- zero on some endomorphism is not zero on a member of the basis.
use Rattle.std.proofs.Common.{ℕ, ◌<◌, ◌≡◌, ◌≢◌, ◌⊎◌, inl, inr, sym, ap, ◌∙◌, subst}
use Rattle.linear_algebra.specs.Field.{Gf}
use Rattle.linear_algebra.specs.Matrix.{Mat, Row, zeros, ◌·◌}
use Rattle.linear_algebra.specs.Parts.{unit, row}
use Rattle.linear_algebra.specs.LinearMaps.{IsLinear, matrix_of}
use Rattle.linear_algebra.specs.Rank.{IsInSpan}
use Rattle.linear_algebra.proofs.MatrixLaws.{mul_assoc_mat, mul_zeros}
use Rattle.linear_algebra.proofs.PartsLaws.{rows_equal, row-mul, row_zeros, unit_mul}
use Rattle.linear_algebra.proofs.LinearMaps.{mul-matrix_of}
use Rattle.linear_algebra.proofs.Search.{search_or_all}
use Rattle.linear_algebra.proofs.Solving.{equal_or_not}
use Rattle.representations.specs.Quiver.{BoundQuiver}
use Rattle.representations.specs.Rep.{Rep}
use Rattle.representations.specs.Hom.{Hom, ◌≫◌}
use Rattle.representations.specs.Module.{IsIso, IsNilpotent}
use Rattle.representations.specs.HomSpace.{HomBasis}
use Rattle.representations.proofs.Homs.{compose_sum, compose_multiple}
use Rattle.representations.proofs.HomSpace.{coordinates, hom-coordinates, hom_sum, hom_scale}
use Rattle.projectives.specs.TwoSided.{TwoSided}
use Rattle.projectives.specs.Injective.{injectives}
use Rattle.projectives.specs.Pairing.{pairing}
use Rattle.projectives.proofs.Pairing.{pairing-linear_before}
use Rattle.local_modules.specs.Certificate.{LocalCertificate}
use Rattle.local_modules.specs.MatrixAlgebra.{endomorphism_algebra}
use Rattle.local_modules.proofs.CertificateIdeals.{nilpotent_endomorphism_in_ideal}
use Rattle.auslander_reiten.specs.SequenceData.{LocalPresentation, EndFunctional}

module _ {q : Gf} {A : BoundQuiver} (T : TwoSided q A) {M : Rep q A.quiver} (D : LocalPresentation T M) (B : HomBasis M M) (t : Hom M (injectives T D.h D.u)) where
  -- the functional on c and then an endomorphism, in coordinates
  at_element : Row q B.size → Row q 1
  at_element x = pairing T D.h D.u (D.c ≫ B.hom x) t

  at_element_linear : IsLinear at_element
  unfolding at_element
  at_element_linear = record {
    sum = λ x y. ap (λ z. pairing T D.h D.u (D.c ≫ z) t) (hom_sum B x y) ∙ ap (λ z. pairing T D.h D.u z t) (compose_sum D.c (B.hom x) (B.hom y))
        ∙ (pairing-linear_before T D.h D.u M t).of_sum (D.c ≫ B.hom x) (D.c ≫ B.hom y);
    multiple = λ n x. ap (λ z. pairing T D.h D.u (D.c ≫ z) t) (hom_scale B n x) ∙ ap (λ z. pairing T D.h D.u z t) (compose_multiple n D.c (B.hom x))
        ∙ (pairing-linear_before T D.h D.u M t).of_multiple n (D.c ≫ B.hom x);
  }

  module _ {m : ℕ} (ideal : Mat q m B.size) (spans : (x : Row q B.size) → IsNilpotent (B.hom x) → IsInSpan ideal x) (kills : (i : ℕ) → i < m → pairing T D.h D.u (D.c ≫ B.hom (row i ideal)) t ≡ zeros q 1 1) where
    kills_ideal : ideal · matrix_of at_element ≡ zeros q m 1
    unfolding at_element
    kills_ideal = rows_equal (ideal · matrix_of at_element) (zeros q m 1) (λ i h.
        row-mul i ideal (matrix_of at_element) ∙ mul-matrix_of at_element at_element_linear (row i ideal) ∙ kills i h ∙ sym (row_zeros q m 1 i))

    at_nilpotent : (x : Hom M M) → IsNilpotent x → pairing T D.h D.u (D.c ≫ x) t ≡ zeros q 1 1
    unfolding at_element
    at_nilpotent x n =
        let s = spans (coordinates B x) (subst IsNilpotent (sym (hom-coordinates B x)) n) in
        ap (λ z. pairing T D.h D.u (D.c ≫ z) t) (sym (hom-coordinates B x)) ∙ sym (mul-matrix_of at_element at_element_linear (coordinates B x))
        ∙ ap (λ z. z · matrix_of at_element) (sym s.is) ∙ mul_assoc_mat s.by ideal (matrix_of at_element) ∙ ap (λ z. s.by · z) kills_ideal ∙ mul_zeros s.by

    pub at_no_iso : (x : Hom M M) → (IsIso x → ⊥) → IsIso x ⊎ IsNilpotent x → pairing T D.h D.u (D.c ≫ x) t ≡ zeros q 1 1
    at_no_iso x n (inl i) = absurd (n i)
    at_no_iso x n (inr z) = at_nilpotent x z

    -- The functional of t; it unfolds, so that its homomorphism is t.
    abbrev pub functional_of_ideal : (e : Row q B.size) → pairing T D.h D.u (D.c ≫ B.hom e) t ≢ zeros q 1 1 → EndFunctional T D
    functional_of_ideal e s = record { t = t; vanishes = λ x n. at_no_iso x n (D.local.decides x); seen = B.hom e; sees = s }

  -- A member of the basis on which the functional is not zero.
  pub seen_member : (x : Hom M M) → pairing T D.h D.u (D.c ≫ x) t ≢ zeros q 1 1 → (i : ℕ) × (i < B.size) × (pairing T D.h D.u (D.c ≫ B.hom (unit q B.size i)) t ≢ zeros q 1 1)
  unfolding at_element
  seen_member x s = go (search_or_all B.size (λ i. at_element (unit q B.size i) ≢ zeros q 1 1) (λ i. at_element (unit q B.size i) ≡ zeros q 1 1)
      (λ i. elim (equal_or_not (at_element (unit q B.size i)) (zeros q 1 1)) [ inl e ↦ inr e | inr d ↦ inl d ]))
    where
      none : ((i : ℕ) → i < B.size → at_element (unit q B.size i) ≡ zeros q 1 1) → matrix_of at_element ≡ zeros q B.size 1
      none all = rows_equal (matrix_of at_element) (zeros q B.size 1) (λ i h.
          sym (unit_mul i (matrix_of at_element)) ∙ mul-matrix_of at_element at_element_linear (unit q B.size i) ∙ all i h ∙ sym (row_zeros q B.size 1 i))

      go : ((i : ℕ) × (i < B.size) × (at_element (unit q B.size i) ≢ zeros q 1 1)) ⊎ ((i : ℕ) → i < B.size → at_element (unit q B.size i) ≡ zeros q 1 1)
          → (i : ℕ) × (i < B.size) × (at_element (unit q B.size i) ≢ zeros q 1 1)
      go (inl f) = f
      go (inr all) = absurd (s (
          ap (λ z. pairing T D.h D.u (D.c ≫ z) t) (sym (hom-coordinates B x)) ∙ sym (mul-matrix_of at_element at_element_linear (coordinates B x))
          ∙ ap (λ z. coordinates B x · z) (none all) ∙ mul_zeros (coordinates B x)))

  -- By the ideal of a certificate, which has all nilpotent endomorphisms.
  abbrev pub functional_of_certificate : (c : LocalCertificate (endomorphism_algebra B)) → ((i : ℕ) → i < c.count → pairing T D.h D.u (D.c ≫ B.hom (row i c.ideal)) t ≡ zeros q 1 1)
      → (e : Row q B.size) → pairing T D.h D.u (D.c ≫ B.hom e) t ≢ zeros q 1 1 → EndFunctional T D
  functional_of_certificate c kills e s = functional_of_ideal c.ideal (λ x n. nilpotent_endomorphism_in_ideal B c x n) kills e s
