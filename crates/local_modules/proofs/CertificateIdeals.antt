-- The ideal of a certificate is the set of nilpotent elements; so all certificates of an algebra have the same ideal, and the same power.
use Rattle.std.proofs.Common.{◌≢◌, ◌≡◌, ◌⊎◌, inl, inr, sym, ap, ◌∙◌, arith}
use Rattle.linear_algebra.specs.Field.{Gf}
use Rattle.linear_algebra.specs.Matrix.{Row, zeros}
use Rattle.linear_algebra.specs.Parts.{row}
use Rattle.linear_algebra.specs.Rank.{IsInSpan}
use Rattle.linear_algebra.proofs.Solving.{equal_or_not, in_span_by_rows, in_span_self, row_in_span}
use Rattle.representations.specs.Quiver.{Quiver}
use Rattle.representations.specs.Rep.{Rep}
use Rattle.representations.specs.Hom.{identity}
use Rattle.representations.specs.Module.{IsNilpotent}
use Rattle.representations.specs.HomSpace.{HomBasis}
use Rattle.representations.proofs.HomSpace.{coordinates}
use Rattle.local_modules.specs.Algebra.{Algebra, Element, IsUnitIn, IsNilpotentIn}
use Rattle.local_modules.specs.MatrixAlgebra.{endomorphisms, endomorphism_algebra}
use Rattle.local_modules.specs.Residue.{ResidueRing}
use Rattle.local_modules.specs.Certificate.{LocalCertificate}
use Rattle.local_modules.specs.Local.{IsLocal}
use Rattle.local_modules.proofs.AlgebraLaws.{nilpotent_no_unit, zeros_product}
use Rattle.local_modules.proofs.IdealPowers.{power_same}
use Rattle.local_modules.proofs.ResidueRing.{class_of, Classes, classes_of, residue, class_nilpotent, member_of_class, member_nilpotent}
use Rattle.local_modules.proofs.ResidueConditions.{frobenius_residue, listed_residue}
use Rattle.local_modules.proofs.Endomorphisms.{nilpotent_of_member, nilpotent_member, unit_nonzero}

-- An invertible nilpotent element is zero: the algebra is zero.
unit_nilpotent_zero : {q : Gf} (R : Algebra q) (y : Element R) → IsUnitIn R y → IsNilpotentIn R y → y ≡ zeros q 1 R.size
unit_nilpotent_zero {q} R y i n = elim (equal_or_not R.unit (zeros q 1 R.size)) [
  | inl e ↦ sym (R.unit_product y) ∙ ap (λ z. R.product z y) e ∙ zeros_product R y
  | inr d ↦ absurd (nilpotent_no_unit R d y n i)
]

module _ {q : Gf} (A : Algebra q) (c : LocalCertificate A) where
  abbrev S : ResidueRing A c.ideal
  S = residue A c.ideal c.two_sided

  abbrev C : Classes c.ideal
  C = classes_of S

  zero_or_unit : (y : Element S.ring) → (y ≡ zeros q 1 C.size) ⊎ IsUnitIn S.ring y
  zero_or_unit y = elim c.residue [ inl f ↦ frobenius_residue A c.ideal S f y | inr d ↦ listed_residue A c.ideal S d y ]

  pub nilpotent_in_any_ideal : (x : Element A) → IsNilpotentIn A x → IsInSpan c.ideal x
  nilpotent_in_any_ideal x n = member_of_class A c.ideal C x (elim (zero_or_unit (class_of A c.ideal C x)) [
    | inl z ↦ z
    | inr i ↦ unit_nilpotent_zero S.ring (class_of A c.ideal C x) i (class_nilpotent A c.ideal S x n)
  ])

  pub nilpotent_of_ideal : (x : Element A) → IsInSpan c.ideal x → IsNilpotentIn A x
  nilpotent_of_ideal = member_nilpotent A c.ideal c.power c.least_power.vanishes

-- The unit is no member, where the algebra is not zero.
pub unit_not_in_ideal : {q : Gf} (A : Algebra q) (c : LocalCertificate A) → A.unit ≢ zeros q 1 A.size → IsInSpan c.ideal A.unit → ⊥
unit_not_in_ideal A c d s = nilpotent_no_unit A d A.unit (nilpotent_of_ideal A c A.unit s) (record { inverse = A.unit; right = A.unit_product A.unit; left = A.unit_product A.unit })

-- Two certificates of one algebra.
module _ {q : Gf} (A : Algebra q) (c d : LocalCertificate A) where
  pub ideal_in_any : IsInSpan c.ideal d.ideal
  ideal_in_any = in_span_by_rows c.ideal d.ideal (λ i l.
      nilpotent_in_any_ideal A c (row i d.ideal) (nilpotent_of_ideal A d (row i d.ideal) (row_in_span d.ideal d.ideal i (in_span_self d.ideal))))

pub power_of_any : {q : Gf} (A : Algebra q) (c d : LocalCertificate A) → c.power ≡ d.power
power_of_any A c d =
    let a = c.least_power.least d.power d.least_power.positive (power_same A d.ideal c.ideal (ideal_in_any A d c) (ideal_in_any A c d) d.power d.least_power.vanishes) in
    let b = d.least_power.least c.power c.least_power.positive (power_same A c.ideal d.ideal (ideal_in_any A c d) (ideal_in_any A d c) c.power c.least_power.vanishes) in
    omega (arith, a, b)

-- For endomorphisms of a module.
module _ {q : Gf} {Q : Quiver} {X : Rep q Q} (B : HomBasis X X) (c : LocalCertificate (endomorphism_algebra B)) (x : Row q B.size) where
  pub nilpotent_endomorphism_in_ideal : IsNilpotent (B.hom x) → IsInSpan c.ideal x
  nilpotent_endomorphism_in_ideal n = nilpotent_in_any_ideal (endomorphism_algebra B) c x (nilpotent_of_member (endomorphisms B) x n)

  pub endomorphism_of_ideal : IsInSpan c.ideal x → IsNilpotent (B.hom x)
  endomorphism_of_ideal s = nilpotent_member (endomorphisms B) x (nilpotent_of_ideal (endomorphism_algebra B) c x s)

pub identity_not_in_ideal : {q : Gf} {Q : Quiver} {X : Rep q Q} (B : HomBasis X X) (c : LocalCertificate (endomorphism_algebra B)) → IsLocal X → IsInSpan c.ideal (coordinates B (identity X)) → ⊥
identity_not_in_ideal B c l = unit_not_in_ideal (endomorphism_algebra B) c (unit_nonzero (endomorphisms B) l.vertex l.nonzero)
