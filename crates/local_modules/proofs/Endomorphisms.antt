-- Members of a matrix algebra and their coordinates: isomorphisms and nilpotent endomorphisms are the invertible and the nilpotent elements; a
-- module is local exactly where its endomorphism algebra has a certificate.
use Rattle.std.proofs.Common.{ℕ, zero, suc, ◌≡◌, ◌≢◌, ◌⊎◌, inl, inr, sym, ap, refl, arith, ◌∙◌, subst}
use Rattle.linear_algebra.specs.Field.{Gf}
use Rattle.linear_algebra.specs.Matrix.{zeros, one, delta-same}
use Rattle.linear_algebra.proofs.MatrixLaws.{zero_scale, one-at}
use Rattle.representations.specs.Quiver.{Quiver}
use Rattle.representations.specs.Rep.{Rep}
use Rattle.representations.specs.Hom.{Hom, ◌≫◌, zero_hom, power}
use Rattle.representations.specs.Module.{IsIso, IsNilpotent, IsZero}
use Rattle.representations.specs.HomSpace.{HomBasis}
use Rattle.representations.proofs.Homs.{power-zero, power-suc, zero_multiple, same-at, identity-at, zero_hom-at}
use Rattle.representations.proofs.HomSpace.{coordinates, hom-coordinates}
use Rattle.local_modules.specs.Algebra.{Algebra, Element, power_in, IsUnitIn, IsNilpotentIn}
use Rattle.local_modules.specs.MatrixAlgebra.{MatrixAlgebra, algebra_of, endomorphisms, endomorphism_algebra}
use Rattle.local_modules.specs.Certificate.{LocalCertificate}
use Rattle.local_modules.specs.Local.{IsLocal}
use Rattle.local_modules.proofs.AlgebraLaws.{power_in-zero, power_in-suc}
use Rattle.local_modules.proofs.ResidueConditions.{certificate_local}
use Rattle.local_modules.proofs.FittingSplitting.{rows_or_none}
use Rattle.local_modules.proofs.Decision.{decide_algebra}

one_not_zero : (n : ℕ) → n ≡ 1 → n ≡ 0 → ⊥
one_not_zero n e z = omega arith

one_nonzero : (q : Gf) (d : ℕ) → d ≢ zero → one q d ≡ zeros q d d → ⊥
unfolding zeros
one_nonzero q zero n e = n refl
one_nonzero q (suc d) n e =
    let unit : (one q (suc d)).at 0 0 ≡ 1 = one-at q (suc d) 0 0 (omega arith) ∙ delta-same 0 in
    let null : (one q (suc d)).at 0 0 ≡ 0 = ap (λ m. m.at 0 0) e in
    one_not_zero ((one q (suc d)).at 0 0) unit null

module _ {q : Gf} {Q : Quiver} {X : Rep q Q} (M : MatrixAlgebra X) where
  abbrev A : Algebra q
  A = algebra_of M

  pub element-zeros : M.element (zeros q 1 M.size) ≡ zero_hom X X
  element-zeros = ap M.element (sym (zero_scale (zeros q 1 M.size))) ∙ M.element_multiple 0 (zeros q 1 M.size) ∙ zero_multiple (M.element (zeros q 1 M.size))

  pub element-power : (x : Element A) (k : ℕ) → M.element (power_in A x k) ≡ power (M.element x) k
  element-power x zero = ap M.element (power_in-zero A x) ∙ M.one_is ∙ sym (power-zero (M.element x))
  element-power x (suc k) = ap M.element (power_in-suc A x k) ∙ M.composite_is x (power_in A x k) ∙ ap (λ f. M.element x ≫ f) (element-power x k) ∙ sym (power-suc (M.element x) k)

  -- The members that are isomorphisms are the invertible elements: their inverses are members.
  pub iso_of_unit : (x : Element A) → IsUnitIn A x → IsIso (M.element x)
  iso_of_unit x i = record {
    inverse = M.element i.inverse;
    right = sym (M.composite_is x i.inverse) ∙ ap M.element i.right ∙ M.one_is;
    left = sym (M.composite_is i.inverse x) ∙ ap M.element i.left ∙ M.one_is;
  }

  pub nilpotent_member : (x : Element A) → IsNilpotentIn A x → IsNilpotent (M.element x)
  nilpotent_member x n = record { exponent = n.exponent; vanishes = sym (element-power x n.exponent) ∙ ap M.element n.vanishes ∙ element-zeros }

  pub nilpotent_of_member : (x : Element A) → IsNilpotent (M.element x) → IsNilpotentIn A x
  nilpotent_of_member x n = record { exponent = n.exponent; vanishes = M.once _ _ (element-power x n.exponent ∙ n.vanishes ∙ sym element-zeros) }

  -- The algebra is not zero where the representation is not.
  pub unit_nonzero : (v : ℕ) → X.dim v ≢ zero → A.unit ≢ zeros q 1 M.size
  unit_nonzero v n e = one_nonzero q (X.dim v) n (sym (identity-at X v) ∙ same-at (sym M.one_is ∙ ap M.element e ∙ element-zeros) v ∙ zero_hom-at X X v)

-- All endomorphisms.
module _ {q : Gf} {Q : Quiver} {X : Rep q Q} (B : HomBasis X X) where
  abbrev E : Algebra q
  E = endomorphism_algebra B

  pub unit_of_iso : (x : Element E) → IsIso (B.hom x) → IsUnitIn E x
  unit_of_iso x i = record {
    inverse = coordinates B i.inverse;
    right = (endomorphisms B).once _ _ ((endomorphisms B).composite_is x (coordinates B i.inverse) ∙ ap (λ f. B.hom x ≫ f) (hom-coordinates B i.inverse) ∙ i.right ∙ sym (endomorphisms B).one_is);
    left = (endomorphisms B).once _ _ ((endomorphisms B).composite_is (coordinates B i.inverse) x ∙ ap (λ f. f ≫ B.hom x) (hom-coordinates B i.inverse) ∙ i.left ∙ sym (endomorphisms B).one_is);
  }

  -- A module that is not zero is local where each element of its endomorphism algebra is invertible or nilpotent.
  pub local_by_elements : (v : ℕ) → X.dim v ≢ zero → ((x : Element E) → IsUnitIn E x ⊎ IsNilpotentIn E x) → IsLocal X
  local_by_elements v n d = record {
    vertex = v;
    nonzero = n;
    decides = λ f. elim (d (coordinates B f)) [
      | inl i ↦ inl (subst IsIso (hom-coordinates B f) (iso_of_unit (endomorphisms B) (coordinates B f) i))
      | inr n ↦ inr (subst IsNilpotent (hom-coordinates B f) (nilpotent_member (endomorphisms B) (coordinates B f) n))
    ];
  }

  pub elements_of_local : IsLocal X → (x : Element E) → IsUnitIn E x ⊎ IsNilpotentIn E x
  elements_of_local l x = elim (l.decides (B.hom x)) [ inl i ↦ inl (unit_of_iso x i) | inr n ↦ inr (nilpotent_of_member (endomorphisms B) x n) ]

  -- A module that is not zero and has a certificate is local.
  pub local_of_certificate : (v : ℕ) → X.dim v ≢ zero → LocalCertificate E → IsLocal X
  local_of_certificate v n c = local_by_elements v n (certificate_local E c)

  -- A local module has a certificate.
  pub certificate_of_local : IsLocal X → LocalCertificate E
  certificate_of_local l = elim (decide_algebra E (unit_nonzero (endomorphisms B) l.vertex l.nonzero)) [
    | inl m ↦ absurd (elim (elements_of_local l m.0) [ inl i ↦ m.1.no_unit i | inr n ↦ m.1.not_nilpotent n ])
    | inr c ↦ c
  ]

-- Each module is zero, or local with a certificate, or has an endomorphism that is neither an isomorphism nor nilpotent.
pub decide : {q : Gf} {Q : Quiver} (X : Rep q Q) (B : HomBasis X X)
    → IsZero X ⊎ (IsLocal X × LocalCertificate (endomorphism_algebra B)) ⊎ ((f : Hom X X) × (IsIso f → ⊥) × (IsNilpotent f → ⊥))
decide X B = elim (rows_or_none X) [
  | inr z ↦ inl z
  | inl v ↦ elim (decide_algebra (endomorphism_algebra B) (unit_nonzero (endomorphisms B) v.vertex v.nonzero)) [
    | inl m ↦ inr (inr (B.hom m.0, (λ i. m.1.no_unit (unit_of_iso B m.0 i)), (λ n. m.1.not_nilpotent (nilpotent_of_member (endomorphisms B) m.0 n))))
    | inr c ↦ inr (inl (local_of_certificate B v.vertex v.nonzero c, c))
  ]
]
