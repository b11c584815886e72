-- The decision: an algebra that is not zero has a certificate that it is local, or an element that is neither invertible nor nilpotent.
use Rattle.std.proofs.Common.{ℕ, zero, suc, ◌+◌, ◌*◌, ◌<◌, ◌≤◌, ◌≡◌, ◌≢◌, ◌⊎◌, inl, inr, sym, ap, ◌∙◌, arith, subst}
use Rattle.std.proofs.lemmas.Bool.{cases_lt}
use Rattle.linear_algebra.specs.Field.{Gf, order}
use Rattle.linear_algebra.specs.Matrix.{Mat, zeros, ◌⊟◌, ◌⊙◌}
use Rattle.linear_algebra.specs.Rank.{IsInSpan}
use Rattle.linear_algebra.specs.RowForm.{IsRowReduced, ReducedForm}
use Rattle.linear_algebra.proofs.MatrixLaws.{sub_eq_zeros}
use Rattle.linear_algebra.proofs.RowForm.{reduced_form, reduced_independent}
use Rattle.linear_algebra.proofs.Steinitz.{through_none, steinitz}
use Rattle.linear_algebra.proofs.Families.{in_span_zeros}
use Rattle.linear_algebra.proofs.Subspaces.{inclusion_size, inclusion_equal}
use Rattle.linear_algebra.proofs.Search.{search_or_all}
use Rattle.linear_algebra.proofs.Solving.{equal_or_not, in_span_trans}
use Rattle.local_modules.specs.Algebra.{Algebra, Element, power_in, product_in, IsUnitIn, IsNilpotentIn, IsMixed}
use Rattle.local_modules.specs.Ideal.{IsTwoSided, PowerVanishes, IsFrobeniusField, IsListedDivisionRing}
use Rattle.local_modules.specs.Residue.{ResidueRing}
use Rattle.local_modules.specs.Certificate.{LocalCertificate}
use Rattle.local_modules.proofs.AlgebraLaws.{zeros_product, product_zeros, product_in-one, nilpotent_no_unit, classify}
use Rattle.local_modules.proofs.ResidueRing.{class_of, lift_of, class-lift, class_difference, class_multiple, class_of_member, member_of_class, Classes, classes_of, residue, ring_unit, class_unit, class_nilpotent, member_nilpotent, nilpotent_of_class}
use Rattle.local_modules.proofs.FrobeniusFields.{power_of_unit, reduced_ring}
use Rattle.local_modules.proofs.FixedElements.{shifts_not_all_units, fixed_or_scalars, root_or_injective}
use Rattle.local_modules.proofs.Commutative.{commutative_or_not}
use Rattle.local_modules.proofs.ResidueConditions.{frobenius_modulo}
use Rattle.local_modules.proofs.ResidueRanks.{listed_of_units}
use Rattle.local_modules.proofs.NilIdeals.{nil_right_ideal}
use Rattle.local_modules.proofs.IdealGrowth.{enlarged, enlarged-has, enlarged-has_element, enlarged-two_sided, enlarged_power}
use Rattle.local_modules.proofs.IdealPowers.{least_power, two_sided_same, power_same}
use Rattle.local_modules.proofs.SearchRows.{search_rows}

-- A two-sided ideal by rows in reduced row form, some power of which is zero.
pub record NilpotentIdeal {q : Gf} (A : Algebra q) : Type 0 where
  pub count : ℕ
  pub ideal : Mat q count A.size
  pub pivot : ℕ → ℕ
  pub reduced : IsRowReduced ideal pivot
  pub two_sided : IsTwoSided A ideal
  pub power : ℕ
  pub vanishes : PowerVanishes A ideal power

module _ {q : Gf} (A : Algebra q) where
  -- the zero ideal
  pub zero_ideal : NilpotentIdeal A
  zero_ideal = record {
    count = 0;
    ideal = zeros q 0 A.size;
    pivot = λ i. 0;
    reduced = record {
      inside = λ i h. absurd (omega arith);
      one = λ i h. absurd (omega arith);
      before = λ i j h k. absurd (omega arith);
      further = λ i k h l. absurd (omega arith);
      cleared = λ i k h l n. absurd (omega arith);
    };
    two_sided = record {
      left = λ a x s. subst (IsInSpan (zeros q 0 A.size)) (sym (ap (A.product a) (none x s) ∙ product_zeros A a)) (in_span_zeros 1 (zeros q 0 A.size));
      right = λ a x s. subst (IsInSpan (zeros q 0 A.size)) (sym (ap (λ z. A.product z a) (none x s) ∙ zeros_product A a)) (in_span_zeros 1 (zeros q 0 A.size));
    };
    power = 1;
    vanishes = λ h m. product_in-one A h ∙ none (h 0) (m 0 (omega arith));
  }
    where
      none : (x : Element A) → IsInSpan (zeros q 0 A.size) x → x ≡ zeros q 1 A.size
      none x s = sym s.is ∙ through_none s.by (zeros q 0 A.size)

  -- An element that is neither invertible nor nilpotent.
  abbrev pub HasMixed : Type 0
  HasMixed = (x : Element A) × IsMixed A x

  module _ (nonzero : A.unit ≢ zeros q 1 A.size) (J : NilpotentIdeal A) where
    -- A larger ideal.
    abbrev pub Larger : Type 0
    Larger = (K : NilpotentIdeal A) × (J.count < K.count)

    abbrev pub S : ResidueRing A J.ideal
    S = residue A J.ideal J.two_sided

    abbrev pub C : Classes J.ideal
    C = classes_of S

    abbrev pub R : Algebra q
    R = S.ring

    -- A nilpotent element that is not in the ideal makes it larger, or gives an element of neither kind.
    pub larger_by : (x : Element A) → (IsInSpan J.ideal x → ⊥) → ((y : ℕ → Element A) → product_in A (λ i. A.product x (y i)) A.size ≡ zeros q 1 A.size) → Larger
    larger_by x n nil = go (reduced_form (enlarged A J.ideal J.two_sided x))
      where
        go : ReducedForm (enlarged A J.ideal J.two_sided x) → Larger
        go F = (
          record {
            count = F.size;
            ideal = F.rows;
            pivot = F.pivot;
            reduced = F.reduced;
            two_sided = two_sided_same A (enlarged A J.ideal J.two_sided x) F.rows F.spanned F.spans (enlarged-two_sided A J.ideal J.two_sided x);
            power = A.size * J.power;
            vanishes = power_same A (enlarged A J.ideal J.two_sided x) F.rows F.spanned F.spans (A.size * J.power) (enlarged_power A J.ideal J.two_sided x A.size nil J.power J.vanishes);
          },
          strict F,
        )
          where
            strict : (F : ReducedForm (enlarged A J.ideal J.two_sided x)) → J.count < F.size
            strict F =
                let within : IsInSpan F.rows J.ideal = in_span_trans F.rows (enlarged A J.ideal J.two_sided x) J.ideal F.spans (enlarged-has A J.ideal J.two_sided x) in
                let independent = reduced_independent J.ideal J.pivot J.reduced in
                let size = inclusion_size J.ideal F.rows independent within in
                elim (cases_lt J.count F.size) [
                  | inl l ↦ l
                  | inr l ↦
                      let same : J.count ≡ F.size = omega arith in
                      absurd (n (in_span_trans J.ideal F.rows x (inclusion_equal J.ideal F.rows same independent within)
                      (in_span_trans F.rows (enlarged A J.ideal J.two_sided x) x F.spans (enlarged-has_element A J.ideal J.two_sided x))))
                ]

    pub grow : (x : Element A) → IsNilpotentIn A x → (IsInSpan J.ideal x → ⊥) → HasMixed ⊎ Larger
    grow x p n = elim (nil_right_ideal A x nonzero p) [
      | inl nil ↦ inr (larger_by x n nil)
      | inr m ↦ inl (A.product x m.0, m.1)
    ]

    pub lift_not_member : (y : Element R) → y ≢ zeros q 1 C.size → IsInSpan J.ideal (lift_of A J.ideal C y) → ⊥
    lift_not_member y n s = n (sym (class-lift A J.ideal C y) ∙ class_of_member A J.ideal C (lift_of A J.ideal C y) s)

    -- The residue ring is not zero.
    pub residue_nonzero : R.unit ≢ zeros q 1 C.size
    residue_nonzero e = nilpotent_no_unit A nonzero A.unit (member_nilpotent A J.ideal J.power J.vanishes A.unit (member_of_class A J.ideal C A.unit (ring_unit A J.ideal S ∙ e)))
        (record { inverse = A.unit; right = A.unit_product A.unit; left = A.unit_product A.unit })

    pub certificate : IsFrobeniusField A J.ideal ⊎ IsListedDivisionRing A J.ideal → LocalCertificate A
    certificate r = let s = least_power A J.ideal J.power J.vanishes in record {
      count = J.count;
      ideal = J.ideal;
      pivot = J.pivot;
      reduced = J.reduced;
      two_sided = J.two_sided;
      power = s.0;
      least_power = s.1;
      residue = r;
    }

    -- The commutative case.
    module _ (commutes : (x y : Element R) → R.product x y ≡ R.product y x) where
      pub root_case : (y : Element R) → y ≢ zeros q 1 C.size → power_in R y (order q) ≡ zeros q 1 C.size → HasMixed ⊎ Larger
      root_case y n e = grow (lift_of A J.ideal C y)
          (nilpotent_of_class A J.ideal S J.power J.vanishes (lift_of A J.ideal C y)
          (record { exponent = order q; vanishes = ap (λ z. power_in R z (order q)) (class-lift A J.ideal C y) ∙ e }))
          (lift_not_member y n)

      module _ (injective : (x y : Element R) → power_in R x (order q) ≡ power_in R y (order q) → x ≡ y) where
        unfoldable pub shifted : Element R → ℕ → Element A
        shifted y c = lift_of A J.ideal C y ⊟ c ⊙ A.unit

        class-shifted : (y : Element R) (c : ℕ) → class_of A J.ideal C (shifted y c) ≡ y ⊟ c ⊙ R.unit
        unfolding shifted
        class-shifted y c = class_difference A J.ideal C (lift_of A J.ideal C y) (c ⊙ A.unit) ∙ simp (class-lift A J.ideal C y, class_multiple A J.ideal C c A.unit, ring_unit A J.ideal S)

        pub fixed_case : (y : Element R) → power_in R y (order q) ≡ y → ((c : ℕ) → c < order q → y ≢ c ⊙ R.unit) → HasMixed
        fixed_case y e n = elim (search_or_all (order q) (λ c. IsMixed A (shifted y c)) (λ c. IsUnitIn A (shifted y c) ⊎ IsNilpotentIn A (shifted y c)) kinds) [
          | inl f ↦ (shifted y f.0, f.2)
          | inr k ↦ absurd (shifts_not_all_units R y (λ c l. unit c l (k c l)) residue_nonzero e)
        ]
          where
            kinds : (c : ℕ) → IsMixed A (shifted y c) ⊎ (IsUnitIn A (shifted y c) ⊎ IsNilpotentIn A (shifted y c))
            kinds c = elim (classify A (shifted y c)) [ inl i ↦ inr (inl i) | inr m ↦ elim m [ inl p ↦ inr (inr p) | inr x ↦ inl x ] ]

            unit : (c : ℕ) → c < order q → IsUnitIn A (shifted y c) ⊎ IsNilpotentIn A (shifted y c) → IsUnitIn R (y ⊟ c ⊙ R.unit)
            unit c l (inl i) = subst (IsUnitIn R) (class-shifted y c) (class_unit A J.ideal S (shifted y c) i)
            unit c l (inr p) = absurd (n c l (sub_eq_zeros y (c ⊙ R.unit) (reduced_ring R injective (y ⊟ c ⊙ R.unit) (subst (IsNilpotentIn R) (class-shifted y c) (class_nilpotent A J.ideal S (shifted y c) p)))))

        pub injective_case : HasMixed ⊎ LocalCertificate A
        injective_case = elim (fixed_or_scalars R) [
          | inl f ↦ inl (fixed_case f.0 f.1 f.2)
          | inr all ↦ inr (certificate (inl (frobenius_modulo A J.ideal S commutes injective R.unit residue_nonzero (power_of_unit R (order q)) all)))
        ]

      pub commutative_case : HasMixed ⊎ Larger ⊎ LocalCertificate A
      commutative_case = elim (root_or_injective R commutes) [
        | inl f ↦ elim (root_case f.0 f.1 f.2) [ inl m ↦ inl m | inr l ↦ inr (inl l) ]
        | inr i ↦ elim (injective_case i) [ inl m ↦ inl m | inr c ↦ inr (inr c) ]
      ]

    -- The other case: all elements are tried.
    unfoldable pub IsNoUnit : Element R → Type 0
    IsNoUnit y = (y ≢ zeros q 1 C.size) × (IsNilpotentIn A (lift_of A J.ideal C y) ⊎ IsMixed A (lift_of A J.ideal C y))

    unfoldable pub IsZeroOrUnit : Element R → Type 0
    IsZeroOrUnit y = (y ≡ zeros q 1 C.size) ⊎ IsUnitIn A (lift_of A J.ideal C y)

    unit_or_not : (y : Element R) → IsNoUnit y ⊎ IsZeroOrUnit y
    unfolding IsNoUnit IsZeroOrUnit
    unit_or_not y = elim (equal_or_not y (zeros q 1 C.size)) [
      | inl z ↦ inr (inl z)
      | inr n ↦ elim (classify A (lift_of A J.ideal C y)) [ inl i ↦ inr (inr i) | inr m ↦ inl (n, m) ]
    ]

    pub no_unit_case : (y : Element R) → IsNoUnit y → HasMixed ⊎ Larger
    unfolding IsNoUnit
    no_unit_case y o = elim o.1 [ inl p ↦ grow (lift_of A J.ideal C y) p (lift_not_member y o.0) | inr m ↦ inl (lift_of A J.ideal C y, m) ]

    pub other_case : (((x y : Element R) → R.product x y ≡ R.product y x) → ⊥) → HasMixed ⊎ Larger ⊎ LocalCertificate A
    unfolding IsNoUnit IsZeroOrUnit
    other_case n = elim (search_rows C.size IsNoUnit IsZeroOrUnit unit_or_not) [
      | inl s ↦ elim (no_unit_case s.0 s.1) [ inl m ↦ inl m | inr l ↦ inr (inl l) ]
      | inr all ↦ inr (inr (certificate (inr (listed_of_units A J.ideal S n (λ y. unit_class y (all y))))))
    ]
      where
        unit_class : (y : Element R) → IsZeroOrUnit y → (y ≡ zeros q 1 C.size) ⊎ IsUnitIn R y
        unit_class y (inl z) = inl z
        unit_class y (inr i) = inr (subst (IsUnitIn R) (class-lift A J.ideal C y) (class_unit A J.ideal S (lift_of A J.ideal C y) i))

    pub step : HasMixed ⊎ Larger ⊎ LocalCertificate A
    step = elim (commutative_or_not R) [ inl c ↦ commutative_case c | inr n ↦ other_case (λ c. n.2 (c n.0 n.1)) ]

  module _ (nonzero : A.unit ≢ zeros q 1 A.size) where
    ideal_size : (J : NilpotentIdeal A) → J.count ≤ A.size
    ideal_size J = let i = reduced_independent J.ideal J.pivot J.reduced in steinitz J.ideal i.inverse i.is

    loop : (fuel : ℕ) (J : NilpotentIdeal A) → A.size ≤ fuel + J.count → HasMixed ⊎ LocalCertificate A
    loop zero J h = elim (step nonzero J) [
      | inl m ↦ inl m
      | inr r ↦ elim r [ inl l ↦ absurd (let a = l.1 in let b = ideal_size l.0 in omega arith) | inr c ↦ inr c ]
    ]
    loop (suc fuel) J h = elim (step nonzero J) [
      | inl m ↦ inl m
      | inr r ↦ elim r [ inl l ↦ loop fuel l.0 (let a = l.1 in omega arith) | inr c ↦ inr c ]
    ]

    -- An algebra that is not zero has an element that is neither invertible nor nilpotent, or a certificate that it is local.
    pub decide_algebra : HasMixed ⊎ LocalCertificate A
    decide_algebra = loop A.size zero_ideal (omega arith)
