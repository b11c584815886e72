-- The conditions on a local module suffice: the rows of the Hom claim are a basis of its endomorphisms, and the ideal is a certificate of their algebra. And a
-- certificate meets them.
use Rattle.std.proofs.Common.{ℕ, ◌≡◌, ◌⊎◌, inl, inr, sym, subst}
use Rattle.linear_algebra.specs.Field.{Gf}
use Rattle.linear_algebra.specs.Matrix.{Mat, ◌·◌}
use Rattle.linear_algebra.specs.RowForm.{IsRowReduced}
use Rattle.linear_algebra.specs.Typed.{grid_of}
use Rattle.linear_algebra.proofs.Typed.{as_mat-grid_of}
use Rattle.fp_linear.specs.Matrix.{PlainMatrix, plain}
use Rattle.path_algebra.specs.declared.Header.{Header}
use Rattle.representations.specs.HomSpace.{HomBasis}
use Rattle.representations.proofs.HomsBySize.{hom_basis_of_rows}
use Rattle.local_modules.specs.Algebra.{Algebra}
use Rattle.local_modules.specs.MatrixAlgebra.{endomorphism_algebra}
use Rattle.local_modules.specs.Certificate.{LocalCertificate}
use Rattle.local_modules.specs.Subalgebra.{IsIdealOf, IsFrobeniusOf, IsListedOf}
use Rattle.local_modules.specs.Ideal.{IsLeastPower}
use Rattle.local_modules.proofs.Embeddings.{embedded_certificate, certificate_embedded, embedded_subalgebra}
use Rattle.local_modules.proofs.FamilyEmbedding.{endomorphisms_embedded}
use Rattle.local_modules.proofs.Endomorphisms.{local_of_certificate, certificate_of_local}
use Rattle.module_types.specs.declared.Module.{Module}
use Rattle.module_types.specs.Readings.{read}
use Rattle.claim_conditions.specs.declared.Residue.{Residue}
use Rattle.claim_conditions.specs.declared.Residue.TheVariants.{Frobenius, Listed}
use Rattle.claim_conditions.specs.Conditions.{AllHold}
use Rattle.claim_conditions.specs.Homs.{hom_rows}
use Rattle.claim_conditions.specs.HomConditions.{hom_conditions}
use Rattle.claim_conditions.specs.Locals.{LocalHolds}
use Rattle.claim_conditions.specs.LocalConditions.{families_of, ring_rows, ideal_rows, ideal_members, HasForm, local_conditions}
use Rattle.claim_laws.proofs.HomLaws.{hom_suffices}

pub either_form : {q : Gf} (E : Algebra q) {n k : ℕ} (ring : Mat q n E.size) (ideal : Mat q k E.size) (residue : Residue) → HasForm E ring ideal residue → IsFrobeniusOf E ring ideal ⊎ IsListedOf E ring ideal
either_form E ring ideal Frobenius f = inl f
either_form E ring ideal Listed f = inr f

-- the rows of the Hom claim as a basis of the endomorphisms
abbrev pub endomorphism_basis : (h : Header) (m : Module) (basis : PlainMatrix) → AllHold (hom_conditions h m m basis) → HomBasis (read h m) (read h m)
endomorphism_basis h m basis c = hom_basis_of_rows (read h m) (read h m) (hom_rows h m m basis) (hom_suffices h m m basis c).is_basis c.1.0.0 c.1.0.1

module _ (h : Header) (m : Module) (basis ideal : PlainMatrix) (named : Type 0) (power : ℕ) (residue : Residue) (c : AllHold (hom_conditions h m m basis))
    (d : AllHold (local_conditions named h m basis ideal power residue)) where
  abbrev pub certificate_of : LocalCertificate (endomorphism_algebra (endomorphism_basis h m basis c))
  certificate_of = embedded_certificate (endomorphism_algebra (endomorphism_basis h m basis c)) (families_of h m) (ring_rows h m basis) (endomorphisms_embedded (endomorphism_basis h m basis c))
      (ideal_rows h basis ideal) d.1.1.0.pivot d.1.1.0.reduced d.1.1.0.closed power d.1.1.1.0
      (either_form (families_of h m) (ring_rows h m basis) (ideal_members h m basis ideal) residue d.1.1.1.1.0.form)

  pub local_suffices : LocalHolds h m
  local_suffices = local_of_certificate (endomorphism_basis h m basis c) d.1.0.vertex d.1.0.nonzero certificate_of

-- A local module has a certificate that meets them.
by_form : {q : Gf} (E : Algebra q) {n k : ℕ} (ring : Mat q n E.size) (ideal : Mat q k E.size) → IsFrobeniusOf E ring ideal ⊎ IsListedOf E ring ideal → (residue : Residue) × HasForm E ring ideal residue
by_form E ring ideal (inl f) = (Frobenius, f)
by_form E ring ideal (inr f) = (Listed, f)

module _ (h : Header) (m : Module) (basis : PlainMatrix) (named : Type 0) (c : AllHold (hom_conditions h m m basis)) where
  pub local_complete : named → LocalHolds h m → (ideal : PlainMatrix) × (power : ℕ) × (residue : Residue) × AllHold (local_conditions named h m basis ideal power residue)
  local_complete o l =
      let B = endomorphism_basis h m basis c in
      let E = families_of h m in
      let ring = ring_rows h m basis in
      let cert = certificate_of_local B l in
      let k = certificate_embedded (endomorphism_algebra B) E ring (endomorphisms_embedded B) cert in
      let ideal = plain h.field cert.count basis.row_count (grid_of cert.ideal) in
      let same : cert.ideal ≡ ideal_rows h basis ideal = sym (as_mat-grid_of cert.ideal) in
      let form = by_form E ring (cert.ideal · ring) k.2 in (
        ideal,
        cert.power,
        form.0,
        (
          o,
          (
            record { vertex = l.vertex; nonzero = l.nonzero },
            (
              record {
                pivot = cert.pivot;
                reduced = subst (λ (z : Mat h.field cert.count basis.row_count). IsRowReduced z cert.pivot) same cert.reduced;
                closed = subst (λ (z : Mat h.field cert.count basis.row_count). IsIdealOf E ring (z · ring)) same k.0;
              },
              (
                subst (λ (z : Mat h.field cert.count basis.row_count). IsLeastPower E (z · ring) cert.power) same k.1,
                (
                  record {
                    ring = embedded_subalgebra (endomorphism_algebra B) E ring (endomorphisms_embedded B);
                    form = subst (λ (z : Mat h.field cert.count basis.row_count). HasForm E ring (z · ring) form.0) same form.1;
                  },
                  tt,
                ),
              ),
            ),
          ),
        ),
      )
