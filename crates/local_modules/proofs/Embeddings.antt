-- An algebra in another one: what holds of spaces of elements of the larger, by rows, holds in the smaller in its coordinates, and back.
use Rattle.std.proofs.Common.{ℕ, zero, suc, ◌<◌, ◌≤◌, ◌≡◌, ◌⊎◌, inl, inr, sym, ap, ap₂, ◌∙◌, subst, arith}
use Rattle.std.proofs.lemmas.Bool.{cases_lt}
use Rattle.linear_algebra.specs.Field.{Gf, order}
use Rattle.linear_algebra.specs.Matrix.{Mat, zeros, ◌⊟◌, ◌⊙◌, ◌·◌}
use Rattle.linear_algebra.specs.Rank.{IsInSpan}
use Rattle.linear_algebra.specs.RowForm.{IsRowReduced}
use Rattle.linear_algebra.proofs.MatrixLaws.{mul_assoc_mat, zeros_mul, sub_mul_mat, scale_mul}
use Rattle.linear_algebra.proofs.Solving.{in_span_mul, in_span_image}
use Rattle.local_modules.specs.Algebra.{Algebra, Element, power_in, product_in}
use Rattle.local_modules.specs.Ideal.{IsTwoSided, PowerVanishes, IsLeastPower, IsCongruent, IsCommutativeModulo, IsFrobeniusField, IsUnitModulo, IsListedDivisionRing}
use Rattle.local_modules.specs.Certificate.{LocalCertificate}
use Rattle.local_modules.specs.Subalgebra.{IsSubalgebra, IsEmbedding, IsIdealOf, CommutesModulo, IsFrobeniusOf, IsUnitOf, IsListedOf}
use Rattle.local_modules.proofs.AlgebraLaws.{power_in-zero, power_in-suc, product_in-none, product_in-last, product_in-same}

not_both : (i s : ℕ) → i < s → s ≤ i → ⊥
not_both i s k l = omega arith

module _ {q : Gf} (A E : Algebra q) (f : Mat q A.size E.size) (e : IsEmbedding A E f) where
  pub embedded_power : (x : Element A) (s : ℕ) → power_in A x s · f ≡ power_in E (x · f) s
  embedded_power x zero = ap (λ z. z · f) (power_in-zero A x) ∙ e.unit ∙ sym (power_in-zero E (x · f))
  embedded_power x (suc s) =
      ap (λ z. z · f) (power_in-suc A x s) ∙ e.product x (power_in A x s) ∙ ap (E.product (x · f)) (embedded_power x s) ∙ sym (power_in-suc E (x · f) s)

  pub embedded_products : (h : ℕ → Element A) (s : ℕ) → product_in A h s · f ≡ product_in E (λ i. h i · f) s
  embedded_products h zero = ap (λ z. z · f) (product_in-none A h) ∙ e.unit ∙ sym (product_in-none E (λ i. h i · f))
  embedded_products h (suc s) =
      ap (λ z. z · f) (product_in-last A h s) ∙ e.product (product_in A h s) (h s) ∙ ap (λ z. E.product z (h s · f)) (embedded_products h s)
      ∙ sym (product_in-last E (λ i. h i · f) s)

  -- The rows of f span a subalgebra.
  pub embedded_subalgebra : IsSubalgebra E f
  embedded_subalgebra = record {
    has_unit = record { by = A.unit; is = e.unit };
    has_products = λ x y s t. record { by = A.product s.by t.by; is = e.product s.by t.by ∙ ap₂ E.product s.is t.is };
  }

  module _ {k : ℕ} (I : Mat q k A.size) where
    pub inside_of : (x : Element A) → IsInSpan (I · f) (x · f) → IsInSpan I x
    inside_of x s = record { by = s.by; is = e.once _ _ (mul_assoc_mat s.by I f ∙ s.is) }

    pub inside : (x : Element A) → IsInSpan I x → IsInSpan (I · f) (x · f)
    inside x s = in_span_image I x f s

    pub congruent : (x y : Element A) → IsCongruent I x y → IsCongruent (I · f) (x · f) (y · f)
    congruent x y s = subst (IsInSpan (I · f)) (sub_mul_mat x y f) (inside (x ⊟ y) s)

    pub congruent_of : (x y : Element A) → IsCongruent (I · f) (x · f) (y · f) → IsCongruent I x y
    congruent_of x y s = inside_of (x ⊟ y) (subst (IsInSpan (I · f)) (sym (sub_mul_mat x y f)) s)

    -- what f takes into the span of I comes from a member
    member_of : (y : Element E) → IsInSpan (I · f) y → (x : Element A) × IsInSpan I x × (x · f ≡ y)
    member_of y s = (s.by · I, in_span_mul I s.by, mul_assoc_mat s.by I f ∙ s.is)

    -- Ideals.
    pub embedded_ideal : IsIdealOf E f (I · f) → IsTwoSided A I
    embedded_ideal c = record {
      left = λ a x s. inside_of _ (subst (IsInSpan (I · f)) (sym (e.product a x)) (c.left (a · f) (x · f) (in_span_mul f a) (inside x s)));
      right = λ a x s. inside_of _ (subst (IsInSpan (I · f)) (sym (e.product x a)) (c.right (a · f) (x · f) (in_span_mul f a) (inside x s)));
    }

    pub ideal_embedded : IsTwoSided A I → IsIdealOf E f (I · f)
    ideal_embedded c = record {
      left = λ a x s t. let m = member_of x t in subst (IsInSpan (I · f)) (e.product s.by m.0 ∙ ap₂ E.product s.is m.2) (inside _ (c.left s.by m.0 m.1));
      right = λ a x s t. let m = member_of x t in subst (IsInSpan (I · f)) (e.product m.0 s.by ∙ ap₂ E.product m.2 s.is) (inside _ (c.right s.by m.0 m.1));
    }

    -- Powers of ideals.
    pub embedded_vanishing : (s : ℕ) → PowerVanishes E (I · f) s → PowerVanishes A I s
    embedded_vanishing s p h m = e.once _ _ (embedded_products h s ∙ p (λ i. h i · f) (λ i l. inside (h i) (m i l)) ∙ sym (zeros_mul f))

    module _ (s : ℕ) (h : ℕ → Element E) (m : (i : ℕ) → i < s → IsInSpan (I · f) (h i)) where
      unfoldable back_by : (i : ℕ) → (i < s) ⊎ (s ≤ i) → Element A
      back_by i (inl l) = (m i l).by · I
      back_by i (inr l) = zeros q 1 A.size

      back_is : (i : ℕ) (d : (i < s) ⊎ (s ≤ i)) → i < s → back_by i d · f ≡ h i
      unfolding back_by
      back_is i (inl l) k = mul_assoc_mat (m i l).by I f ∙ (m i l).is
      back_is i (inr l) k = absurd (not_both i s k l)

      back_inside : (i : ℕ) (d : (i < s) ⊎ (s ≤ i)) → i < s → IsInSpan I (back_by i d)
      unfolding back_by
      back_inside i (inl l) k = in_span_mul I (m i l).by
      back_inside i (inr l) k = absurd (not_both i s k l)

      unfoldable back : ℕ → Element A
      back i = back_by i (cases_lt i s)

      vanishing_back : PowerVanishes A I s → product_in E h s ≡ zeros q 1 E.size
      unfolding back
      vanishing_back p =
          sym (product_in-same E (λ i. back i · f) h s (λ i l. back_is i (cases_lt i s) l)) ∙ sym (embedded_products back s)
          ∙ ap (λ z. z · f) (p back (λ i l. back_inside i (cases_lt i s) l)) ∙ zeros_mul f

    pub vanishing_embedded : (s : ℕ) → PowerVanishes A I s → PowerVanishes E (I · f) s
    vanishing_embedded s p h m = vanishing_back s h m p

    pub embedded_least : (s : ℕ) → IsLeastPower E (I · f) s → IsLeastPower A I s
    embedded_least s l = record { positive = l.positive; vanishes = embedded_vanishing s l.vanishes; least = λ t a p. l.least t a (vanishing_embedded t p) }

    pub least_embedded : (s : ℕ) → IsLeastPower A I s → IsLeastPower E (I · f) s
    least_embedded s l = record { positive = l.positive; vanishes = vanishing_embedded s l.vanishes; least = λ t a p. l.least t a (embedded_vanishing t p) }

    -- Residue rings.
    pub embedded_commutes : CommutesModulo E f (I · f) → IsCommutativeModulo A I
    embedded_commutes c x y = congruent_of _ _
        (subst (λ z. IsCongruent (I · f) z (A.product y x · f)) (sym (e.product x y)) (subst (IsCongruent (I · f) (E.product (x · f) (y · f))) (sym (e.product y x))
        (c (x · f) (y · f) (in_span_mul f x) (in_span_mul f y))))

    pub commutes_embedded : IsCommutativeModulo A I → CommutesModulo E f (I · f)
    commutes_embedded c x y s t =
        subst (λ z. IsCongruent (I · f) (E.product z y) (E.product y z)) s.is (subst (λ z. IsCongruent (I · f) (E.product (s.by · f) z) (E.product z (s.by · f))) t.is
        (subst (λ z. IsCongruent (I · f) z (E.product (t.by · f) (s.by · f))) (e.product s.by t.by)
        (subst (IsCongruent (I · f) (A.product s.by t.by · f)) (e.product t.by s.by) (congruent _ _ (c s.by t.by)))))

    power_same : (x y : Element A) (s t : ℕ) → IsCongruent (I · f) (power_in E (x · f) s) (power_in E (y · f) t) → IsCongruent I (power_in A x s) (power_in A y t)
    power_same x y s t c = congruent_of _ _
        (subst (λ z. IsCongruent (I · f) z (power_in A y t · f)) (sym (embedded_power x s)) (subst (IsCongruent (I · f) (power_in E (x · f) s)) (sym (embedded_power y t)) c))

    same_power : (x y : Element A) (s t : ℕ) → IsCongruent I (power_in A x s) (power_in A y t) → IsCongruent (I · f) (power_in E (x · f) s) (power_in E (y · f) t)
    same_power x y s t c =
        subst (λ z. IsCongruent (I · f) z (power_in E (y · f) t)) (embedded_power x s) (subst (IsCongruent (I · f) (power_in A x s · f)) (embedded_power y t) (congruent _ _ c))

    fixed_same : (x : Element A) (s : ℕ) → IsCongruent (I · f) (power_in E (x · f) s) (x · f) → IsCongruent I (power_in A x s) x
    fixed_same x s c = congruent_of _ _ (subst (λ z. IsCongruent (I · f) z (x · f)) (sym (embedded_power x s)) c)

    same_fixed : (x : Element A) (s : ℕ) → IsCongruent I (power_in A x s) x → IsCongruent (I · f) (power_in E (x · f) s) (x · f)
    same_fixed x s c = subst (λ z. IsCongruent (I · f) z (x · f)) (embedded_power x s) (congruent _ _ c)

    multiple_same : (x y : Element A) → (c : ℕ) × IsCongruent (I · f) (y · f) (c ⊙ (x · f)) → (c : ℕ) × IsCongruent I y (c ⊙ x)
    multiple_same x y s = (s.0, congruent_of y (s.0 ⊙ x) (subst (IsCongruent (I · f) (y · f)) (sym (scale_mul s.0 x f)) s.1))

    same_multiple : (x y : Element A) → (c : ℕ) × IsCongruent I y (c ⊙ x) → (c : ℕ) × IsCongruent (I · f) (y · f) (c ⊙ (x · f))
    same_multiple x y s = (s.0, subst (IsCongruent (I · f) (y · f)) (scale_mul s.0 x f) (congruent y (s.0 ⊙ x) s.1))

    pub embedded_frobenius : IsFrobeniusOf E f (I · f) → IsFrobeniusField A I
    embedded_frobenius h = record {
      commutative = embedded_commutes h.commutative;
      injective = λ x y c. congruent_of x y (h.injective (x · f) (y · f) (in_span_mul f x) (in_span_mul f y) (same_power x y (order q) (order q) c));
      fixed = h.fixed_inside.by;
      fixed_nonzero = λ s. h.fixed_nonzero (subst (IsInSpan (I · f)) h.fixed_inside.is (inside _ s));
      is_fixed = fixed_same _ (order q) (subst (λ z. IsCongruent (I · f) (power_in E z (order q)) z) (sym h.fixed_inside.is) h.is_fixed);
      all_fixed = λ y c. multiple_same h.fixed_inside.by y
          (subst (λ z. (d : ℕ) × IsCongruent (I · f) (y · f) (d ⊙ z)) (sym h.fixed_inside.is) (h.all_fixed (y · f) (in_span_mul f y) (same_fixed y (order q) c)));
    }

    pub frobenius_embedded : IsFrobeniusField A I → IsFrobeniusOf E f (I · f)
    frobenius_embedded h = record {
      commutative = commutes_embedded h.commutative;
      injective = λ x y s t c. subst (λ z. IsCongruent (I · f) z y) s.is (subst (IsCongruent (I · f) (s.by · f)) t.is
          (congruent _ _ (h.injective s.by t.by (power_same s.by t.by (order q) (order q)
          (subst (λ z. IsCongruent (I · f) (power_in E z (order q)) (power_in E (t.by · f) (order q))) (sym s.is)
          (subst (λ z. IsCongruent (I · f) (power_in E x (order q)) (power_in E z (order q))) (sym t.is) c))))));
      fixed = h.fixed · f;
      fixed_inside = in_span_mul f h.fixed;
      fixed_nonzero = λ s. h.fixed_nonzero (inside_of h.fixed s);
      is_fixed = same_fixed h.fixed (order q) h.is_fixed;
      all_fixed = λ y s c. subst (λ z. (d : ℕ) × IsCongruent (I · f) z (d ⊙ (h.fixed · f))) s.is (same_multiple h.fixed s.by
          (h.all_fixed s.by (fixed_same s.by (order q) (subst (λ z. IsCongruent (I · f) (power_in E z (order q)) z) (sym s.is) c))));
    }

    pub embedded_unit : (x : Element A) → IsUnitOf E f (I · f) (x · f) → IsUnitModulo A I x
    embedded_unit x u = record {
      inverse = u.inside.by;
      right = congruent_of _ _ (subst (λ z. IsCongruent (I · f) z (A.unit · f)) (sym (e.product x u.inside.by ∙ ap (E.product (x · f)) u.inside.is))
          (subst (IsCongruent (I · f) (E.product (x · f) u.inverse)) (sym e.unit) u.right));
      left = congruent_of _ _ (subst (λ z. IsCongruent (I · f) z (A.unit · f)) (sym (e.product u.inside.by x ∙ ap (λ z. E.product z (x · f)) u.inside.is))
          (subst (IsCongruent (I · f) (E.product u.inverse (x · f))) (sym e.unit) u.left));
    }

    pub unit_embedded : (x : Element A) → IsUnitModulo A I x → IsUnitOf E f (I · f) (x · f)
    unit_embedded x u = record {
      inverse = u.inverse · f;
      inside = in_span_mul f u.inverse;
      right = subst (λ z. IsCongruent (I · f) z E.unit) (e.product x u.inverse) (subst (IsCongruent (I · f) (A.product x u.inverse · f)) e.unit (congruent _ _ u.right));
      left = subst (λ z. IsCongruent (I · f) z E.unit) (e.product u.inverse x) (subst (IsCongruent (I · f) (A.product u.inverse x · f)) e.unit (congruent _ _ u.left));
    }

    pub embedded_listed : IsListedOf E f (I · f) → IsListedDivisionRing A I
    embedded_listed h = record {
      not_commutative = λ c. h.not_commutative (commutes_embedded c);
      inverses = λ x n. embedded_unit x (h.inverses (x · f) (in_span_mul f x) (λ s. n (inside_of x s)));
    }

    pub listed_embedded : IsListedDivisionRing A I → IsListedOf E f (I · f)
    listed_embedded h = record {
      not_commutative = λ c. h.not_commutative (embedded_commutes c);
      inverses = λ x s n. subst (IsUnitOf E f (I · f)) s.is (unit_embedded s.by (h.inverses s.by (λ z. n (subst (IsInSpan (I · f)) s.is (inside s.by z)))));
    }

    -- Certificates.
    abbrev pub embedded_certificate : (pivot : ℕ → ℕ) → IsRowReduced I pivot → IsIdealOf E f (I · f) → (s : ℕ) → IsLeastPower E (I · f) s
        → IsFrobeniusOf E f (I · f) ⊎ IsListedOf E f (I · f) → LocalCertificate A
    embedded_certificate pivot reduced ideal s least residue = record {
      count = k;
      ideal = I;
      pivot = pivot;
      reduced = reduced;
      two_sided = embedded_ideal ideal;
      power = s;
      least_power = embedded_least s least;
      residue = elim residue [ inl h ↦ inl (embedded_frobenius h) | inr h ↦ inr (embedded_listed h) ];
    }

  -- and back: the ideal of a certificate, as elements of E
  pub certificate_embedded : (c : LocalCertificate A)
      → IsIdealOf E f (c.ideal · f) × IsLeastPower E (c.ideal · f) c.power × (IsFrobeniusOf E f (c.ideal · f) ⊎ IsListedOf E f (c.ideal · f))
  certificate_embedded c = (
    ideal_embedded c.ideal c.two_sided,
    least_embedded c.ideal c.power c.least_power,
    elim c.residue [ inl h ↦ inl (frobenius_embedded c.ideal h) | inr h ↦ inr (listed_embedded c.ideal h) ],
  )
