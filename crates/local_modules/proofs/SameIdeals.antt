-- The same ideal by other rows: what the residue ring is, and the least power, depend on the span alone.
use Rattle.std.proofs.Common.{ℕ, inl, inr}
use Rattle.linear_algebra.specs.Field.{Gf}
use Rattle.linear_algebra.specs.Matrix.{Mat}
use Rattle.linear_algebra.specs.Rank.{IsInSpan}
use Rattle.linear_algebra.specs.RowForm.{IsRowReduced}
use Rattle.linear_algebra.proofs.Solving.{in_span_trans}
use Rattle.local_modules.specs.Algebra.{Algebra, Element}
use Rattle.local_modules.specs.Ideal.{IsLeastPower, IsFrobeniusField, IsListedDivisionRing, IsCommutativeModulo, IsUnitModulo}
use Rattle.local_modules.specs.Certificate.{LocalCertificate}
use Rattle.local_modules.proofs.IdealPowers.{two_sided_same, power_same}

module _ {q : Gf} (A : Algebra q) {k l : ℕ} (I : Mat q k A.size) (J : Mat q l A.size) (forth : IsInSpan I J) (back : IsInSpan J I) where
  over : (x : Element A) → IsInSpan I x → IsInSpan J x
  over x s = in_span_trans J I x back s

  under : (x : Element A) → IsInSpan J x → IsInSpan I x
  under x s = in_span_trans I J x forth s

  pub commutative_same : IsCommutativeModulo A I → IsCommutativeModulo A J
  commutative_same h x y = over _ (h x y)

  pub frobenius_same : IsFrobeniusField A I → IsFrobeniusField A J
  frobenius_same f = record {
    commutative = λ x y. over _ (f.commutative x y);
    injective = λ x y s. over _ (f.injective x y (under _ s));
    fixed = f.fixed;
    fixed_nonzero = λ s. f.fixed_nonzero (under _ s);
    is_fixed = over _ f.is_fixed;
    all_fixed = λ y s. let m = f.all_fixed y (under _ s) in (m.0, over _ m.1);
  }

  unit_same : (x : Element A) → IsUnitModulo A I x → IsUnitModulo A J x
  unit_same x u = record { inverse = u.inverse; right = over _ u.right; left = over _ u.left }

  pub listed_same : IsListedDivisionRing A I → IsListedDivisionRing A J
  listed_same d = record {
    not_commutative = λ h. d.not_commutative (λ x y. under _ (h x y));
    inverses = λ x n. unit_same x (d.inverses x (λ s. n (over _ s)));
  }

  pub least_same : (s : ℕ) → IsLeastPower A I s → IsLeastPower A J s
  least_same s p = record {
    positive = p.positive;
    vanishes = power_same A I J forth back s p.vanishes;
    least = λ t b v. p.least t b (power_same A J I back forth t v);
  }

-- Rows in reduced row form with the span of a certificate's ideal are the ideal of a certificate, with the same power. Its residue ring has the first form
-- where it is commutative, and else the second.
module _ {q : Gf} (A : Algebra q) (c : LocalCertificate A) {l : ℕ} (J : Mat q l A.size) (forth : IsInSpan c.ideal J) (back : IsInSpan J c.ideal) where
  abbrev pub certificate_by : (pivot : ℕ → ℕ) → IsRowReduced J pivot → LocalCertificate A
  certificate_by pivot reduced = record {
    count = l;
    ideal = J;
    pivot = pivot;
    reduced = reduced;
    two_sided = two_sided_same A c.ideal J forth back c.two_sided;
    power = c.power;
    least_power = least_same A c.ideal J forth back c.power c.least_power;
    residue = elim c.residue [ inl f ↦ inl (frobenius_same A c.ideal J forth back f) | inr d ↦ inr (listed_same A c.ideal J forth back d) ];
  }

  pub frobenius_if_commutative : IsCommutativeModulo A J → IsFrobeniusField A J
  frobenius_if_commutative h = elim c.residue [
    | inl f ↦ frobenius_same A c.ideal J forth back f
    | inr d ↦ absurd (d.not_commutative (commutative_same A J c.ideal back forth h))
  ]

  pub listed_if_not : (IsCommutativeModulo A J → ⊥) → IsListedDivisionRing A J
  listed_if_not n = elim c.residue [
    | inl f ↦ absurd (n (commutative_same A c.ideal J forth back f.commutative))
    | inr d ↦ listed_same A c.ideal J forth back d
  ]
