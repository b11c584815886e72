-- The radical of the endomorphism ring of a sum of local modules that are pairwise apart is an ideal, and a power of it is zero.
use Rattle.std.proofs.Common.{ℕ, zero, suc, ◌≢◌, ◌+◌, ◌-◌, ◌<◌, ◌≡◌, ◌⊎◌, inl, inr, sym, ap, ap₂, ◌∙◌, arith, subst}
use mathlib.Core.Path.{fun_ext}
use Rattle.std.proofs.lemmas.Bool.{cases_lt, cases_eq}
use Rattle.linear_algebra.specs.Field.{Gf}
use Rattle.linear_algebra.specs.Matrix.{Mat, Row, zeros, one, ◌⊞◌, ◌·◌, negative}
use Rattle.linear_algebra.specs.Parts.{row}
use Rattle.linear_algebra.specs.BlockFamilies.{total}
use Rattle.linear_algebra.specs.Families.{combine, IsCombination, ordered_product, HasFixedRow}
use Rattle.linear_algebra.specs.LinearMaps.{IsLinear}
use Rattle.linear_algebra.proofs.MatrixLaws.{mul_assoc_mat, zeros_mul, mul_one_mat, mul_add_mat, mul_negative, add_negative}
use Rattle.linear_algebra.proofs.Blocks.{no_rows}
use Rattle.linear_algebra.proofs.BlockFamilies.{total_grows}
use Rattle.linear_algebra.proofs.Families.{combine_in_span}
use Rattle.linear_algebra.proofs.LinearMaps.{mul_rows, linear_combine}
use Rattle.linear_algebra.proofs.NilOrFixed.{nil_or_fixed}
use Rattle.linear_algebra.proofs.Search.{search_or_all}
use Rattle.linear_algebra.proofs.Solving.{zeros_not_one, in_span_self, row_in_span}
use Rattle.representations.specs.Quiver.{Quiver}
use Rattle.representations.specs.Rep.{Rep}
use Rattle.representations.specs.Hom.{Hom, Hom-eq, ◌≫◌, ◌⊕◌, identity, zero_hom, negative_hom, multiple, sum_of}
use Rattle.representations.specs.Module.{IsIso, IsNilpotent}
use Rattle.representations.specs.Sum.{sum_family}
use Rattle.representations.specs.HomSpace.{HomBasis}
use Rattle.representations.proofs.Homs.{compose-at, identity-at, zero_hom-at, sum-at, multiple-at, negative-at, same-at, compose_assoc, compose_identity, compose_zero, zero_compose, compose_sum, sum_compose, identity_compose, sum_negative, compose_multiple, multiple_compose, compose_negative, negative_compose, compose_sum_of, sum_of_compose}
use Rattle.representations.proofs.HomSpace.{hom_basis, coordinates, hom-coordinates, hom_sum, hom_scale}
use Rattle.projectives.specs.Families.{family_in}
use Rattle.projectives.specs.Components.{family_out}
use Rattle.projectives.proofs.Components.{in-out, whole}
use Rattle.local_modules.specs.Local.{IsLocal}
use Rattle.local_modules.specs.Isomorphic.{Isomorphic}
use Rattle.local_modules.specs.RadicalOfSum.{AreLocalAndApart, part, IsRadical, composite_of}
use Rattle.local_modules.proofs.LocalRings.{identity_not_zero, never_both, nilpotent_sum, nilpotent_multiple, nilpotent_after, nilpotent_before, iso_identity, iso_minus_nilpotent, both_iso}
use Rattle.local_modules.proofs.Comparing.{zero_nilpotent, nilpotent_sum_of, hom-zeros}
use Rattle.local_modules.proofs.ApartSums.{apart_nilpotent, diagonal_iso}
use Rattle.local_modules.proofs.DecidedSpaces.{Spanning, spanning_rows}

module _ {q : Gf} {Q : Quiver} (n : ℕ) (Y : ℕ → Rep q Q) where
  abbrev S : Rep q Q
  S = sum_family n Y

  part_sum : (x y : Hom S S) (k l : ℕ) → part n Y (x ⊕ y) k l ≡ part n Y x k l ⊕ part n Y y k l
  part_sum x y k l = ap (λ z. z ≫ family_out n Y l) (compose_sum (family_in n Y k) x y) ∙ sum_compose (family_in n Y k ≫ x) (family_in n Y k ≫ y) (family_out n Y l)

  part_multiple : (c : ℕ) (x : Hom S S) (k l : ℕ) → part n Y (multiple c x) k l ≡ multiple c (part n Y x k l)
  part_multiple c x k l = ap (λ z. z ≫ family_out n Y l) (compose_multiple c (family_in n Y k) x) ∙ multiple_compose c (family_in n Y k ≫ x) (family_out n Y l)

  part_negative : (x : Hom S S) (k l : ℕ) → part n Y (negative_hom x) k l ≡ negative_hom (part n Y x k l)
  part_negative x k l = ap (λ z. z ≫ family_out n Y l) (compose_negative (family_in n Y k) x) ∙ negative_compose (family_in n Y k ≫ x) (family_out n Y l)

  part_zero : (k l : ℕ) → part n Y (zero_hom S S) k l ≡ zero_hom (Y k) (Y l)
  part_zero k l = ap (λ z. z ≫ family_out n Y l) (compose_zero (family_in n Y k) S) ∙ zero_compose (Y k) (family_out n Y l)

  part_identity : (k : ℕ) → k < n → part n Y (identity S) k k ≡ identity (Y k)
  part_identity k l = ap (λ z. z ≫ family_out n Y k) (compose_identity (family_in n Y k)) ∙ in-out n Y k l

  -- the components of a composite
  pub part_composite : (x y : Hom S S) (k l : ℕ) → part n Y (x ≫ y) k l ≡ sum_of n (λ j. part n Y x k j ≫ part n Y y j l)
  part_composite x y k l =
      ap (λ z. z ≫ family_out n Y l) (sym (compose_assoc (family_in n Y k) x y) ∙ ap (λ z. z ≫ y) (sym (compose_identity (family_in n Y k ≫ x)) ∙ ap (λ z. family_in n Y k ≫ x ≫ z) (sym (whole n Y))
      ∙ compose_sum_of n (family_in n Y k ≫ x) (λ j. family_out n Y j ≫ family_in n Y j))
      ∙ sum_of_compose n (λ j. family_in n Y k ≫ x ≫ (family_out n Y j ≫ family_in n Y j)) y)
      ∙ sum_of_compose n (λ j. family_in n Y k ≫ x ≫ (family_out n Y j ≫ family_in n Y j) ≫ y) (family_out n Y l)
      ∙ ap (sum_of n) (fun_ext term)
    where
      term : (j : ℕ) → family_in n Y k ≫ x ≫ (family_out n Y j ≫ family_in n Y j) ≫ y ≫ family_out n Y l ≡ part n Y x k j ≫ part n Y y j l
      term j =
          ap (λ z. z ≫ y ≫ family_out n Y l) (sym (compose_assoc (family_in n Y k ≫ x) (family_out n Y j) (family_in n Y j)))
          ∙ ap (λ z. z ≫ family_out n Y l) (compose_assoc (part n Y x k j) (family_in n Y j) y) ∙ compose_assoc (part n Y x k j) (family_in n Y j ≫ y) (family_out n Y l)

  -- so many members of the radical make a product that is zero
  unfoldable pub radical_exponent : ℕ
  radical_exponent = total Q.vertices S.dim

  module _ (C : AreLocalAndApart n Y) where
    L : (k : ℕ) → k < n → IsLocal (Y k)
    L = C.local

    -- ---- the radical is an ideal

    pub radical_zero : IsRadical C (zero_hom S S)
    radical_zero k l = subst IsNilpotent (sym (part_zero k k)) (zero_nilpotent (Y k))

    pub radical_sum : (x y : Hom S S) → IsRadical C x → IsRadical C y → IsRadical C (x ⊕ y)
    radical_sum x y r s k l = subst IsNilpotent (sym (part_sum x y k k)) (nilpotent_sum (L k l) (part n Y x k k) (part n Y y k k) (r k l) (s k l))

    pub radical_multiple : (c : ℕ) (x : Hom S S) → IsRadical C x → IsRadical C (multiple c x)
    radical_multiple c x r k l = subst IsNilpotent (sym (part_multiple c x k k)) (nilpotent_multiple (L k l) c (part n Y x k k) (r k l))

    pub radical_after : (x y : Hom S S) → IsRadical C x → IsRadical C (x ≫ y)
    radical_after x y r k l = subst IsNilpotent (sym (part_composite x y k k)) (nilpotent_sum_of (L k l) n (λ j. part n Y x k j ≫ part n Y y j k) term)
      where
        term : (j : ℕ) → j < n → IsNilpotent (part n Y x k j ≫ part n Y y j k)
        term j m = elim (cases_eq k j) [
          | inl e ↦ subst (λ i. IsNilpotent (part n Y x k i ≫ part n Y y i k)) e (nilpotent_after (L k l) (part n Y x k k) (part n Y y k k) (r k l))
          | inr d ↦ apart_nilpotent n Y C k j l m d (part n Y x k j) (part n Y y j k)
        ]

    pub radical_before : (y x : Hom S S) → IsRadical C x → IsRadical C (y ≫ x)
    radical_before y x r k l = subst IsNilpotent (sym (part_composite y x k k)) (nilpotent_sum_of (L k l) n (λ j. part n Y y k j ≫ part n Y x j k) term)
      where
        term : (j : ℕ) → j < n → IsNilpotent (part n Y y k j ≫ part n Y x j k)
        term j m = elim (cases_eq k j) [
          | inl e ↦ subst (λ i. IsNilpotent (part n Y y k i ≫ part n Y x i k)) e (nilpotent_before (L k l) (part n Y y k k) (part n Y x k k) (r k l))
          | inr d ↦ apart_nilpotent n Y C k j l m d (part n Y y k j) (part n Y x j k)
        ]

    decide_radical : (x : Hom S S) → IsRadical C x ⊎ (IsRadical C x → ⊥)
    decide_radical x = elim (search_or_all n (λ k. (k < n) × IsIso (part n Y x k k)) (λ k. k < n → IsNilpotent (part n Y x k k)) decide_part) [
      | inl found ↦ inr (λ r. never_both (L found.0 found.1) (part n Y x found.0 found.0) (r found.0 found.1) found.2.1)
      | inr all ↦ inl (λ k l. all k l l)
    ]
      where
        decide_part : (k : ℕ) → ((k < n) × IsIso (part n Y x k k)) ⊎ (k < n → IsNilpotent (part n Y x k k))
        decide_part k = elim (cases_lt k n) [
          | inr past ↦ inr (λ l. absurd (omega (arith, l, past)))
          | inl l ↦ elim ((L k l).decides (part n Y x k k)) [ inl i ↦ inl (l, i) | inr z ↦ inr (λ m. z) ]
        ]

    -- the identity less a member is an isomorphism
    pub identity_minus_radical : (x : Hom S S) → IsRadical C x → IsIso (identity S ⊕ negative_hom x)
    identity_minus_radical x r = diagonal_iso n Y C (identity S ⊕ negative_hom x) (λ k l. subst IsIso
        (sym (part_sum (identity S) (negative_hom x) k k ∙ ap₂ (λ a b. a ⊕ b) (part_identity k l) (part_negative x k k)))
        (iso_minus_nilpotent (L k l) (identity (Y k)) (part n Y x k k) (iso_identity (Y k)) (r k l)))

    -- and each x is a member for which the identity less x ≫ y is an isomorphism whatever y is
    module _ (x : Hom S S) (inverts : (y : Hom S S) → IsIso (identity S ⊕ negative_hom (x ≫ y))) (k : ℕ) (l : k < n) (i : IsIso (part n Y x k k)) where
      abbrev back : Hom S S
      back = family_out n Y k ≫ (i.inverse ≫ family_in n Y k)

      fixed : family_in n Y k ≫ (x ≫ back) ≡ family_in n Y k
      fixed =
          sym (compose_assoc (family_in n Y k) x back) ∙ sym (compose_assoc (family_in n Y k ≫ x) (family_out n Y k) (i.inverse ≫ family_in n Y k))
          ∙ sym (compose_assoc (part n Y x k k) i.inverse (family_in n Y k)) ∙ ap (λ z. z ≫ family_in n Y k) i.right ∙ identity_compose (family_in n Y k)

      none : family_in n Y k ≫ (identity S ⊕ negative_hom (x ≫ back)) ≡ zero_hom (Y k) S
      none =
          compose_sum (family_in n Y k) (identity S) (negative_hom (x ≫ back))
          ∙ ap₂ (λ a b. a ⊕ b) (compose_identity (family_in n Y k)) (compose_negative (family_in n Y k) (x ≫ back) ∙ ap negative_hom fixed) ∙ sum_negative (family_in n Y k)

      gone : family_in n Y k ≡ zero_hom (Y k) S
      gone =
          let j = inverts back in
          sym (compose_identity (family_in n Y k)) ∙ ap (λ z. family_in n Y k ≫ z) (sym j.right)
          ∙ sym (compose_assoc (family_in n Y k) (identity S ⊕ negative_hom (x ≫ back)) j.inverse) ∙ ap (λ z. z ≫ j.inverse) none ∙ zero_compose (Y k) j.inverse

      no_part_iso : ⊥
      no_part_iso = identity_not_zero (L k l).vertex (L k l).nonzero (sym (in-out n Y k l) ∙ ap (λ z. z ≫ family_out n Y k) gone ∙ zero_compose (Y k) (family_out n Y k))

    pub radical_of_inverses : (x : Hom S S) → ((y : Hom S S) → IsIso (identity S ⊕ negative_hom (x ≫ y))) → IsRadical C x
    radical_of_inverses x inverts k l = elim ((L k l).decides (part n Y x k k)) [ inl i ↦ absurd (no_part_iso x inverts k l i) | inr z ↦ z ]

    -- ---- and a power of it is zero

    abbrev B : HomBasis S S
    B = hom_basis S S

    abbrev Member : Row q B.size → Type 0
    Member c = IsRadical C (B.hom c)

    R : Spanning Member
    R = spanning_rows Member (subst (IsRadical C) (sym (hom-zeros B)) radical_zero)
        (λ x y r s. subst (IsRadical C) (sym (hom_sum B x y)) (radical_sum (B.hom x) (B.hom y) r s))
        (λ c x r. subst (IsRadical C) (sym (hom_scale B c x)) (radical_multiple c (B.hom x) r))
        (λ x. decide_radical (B.hom x))

    module _ (v : ℕ) where
      at_v_linear : IsLinear (λ (c : Row q B.size). (B.hom c).at v)
      at_v_linear = record {
        sum = λ c d. same-at (hom_sum B c d) v ∙ sum-at (B.hom c) (B.hom d) v;
        multiple = λ m c. same-at (hom_scale B m c) v ∙ multiple-at m (B.hom c) v;
      }

      -- the matrices at v of the spanning members
      unfoldable matrices : ℕ → Mat q (S.dim v) (S.dim v)
      matrices i = (B.hom (row i R.rows)).at v

      combination : (c : ℕ → ℕ) → combine R.size c matrices ≡ (B.hom (combine R.size c (λ i. row i R.rows))).at v
      unfolding matrices
      combination c = sym (linear_combine (λ (c : Row q B.size). (B.hom c).at v) at_v_linear R.size c (λ i. row i R.rows))

      member_at : (x : Hom S S) → IsRadical C x → IsCombination R.size matrices (x.at v)
      member_at x r =
          let s = R.spans (coordinates B x) (subst (IsRadical C) (sym (hom-coordinates B x)) r) in
          record {
            coefficients = s.by.at 0;
            is = combination (s.by.at 0) ∙ ap (λ c. (B.hom c).at v) (sym (mul_rows s.by R.rows) ∙ s.is) ∙ same-at (hom-coordinates B x) v;
          }

      row_member : (i : ℕ) → IsRadical C (B.hom (row i R.rows))
      row_member i =
          let s = row_in_span R.rows R.rows i (in_span_self R.rows) in
          subst Member s.is (R.inside s.by)

      closed : (i j : ℕ) → i < R.size → j < R.size → IsCombination R.size matrices (matrices i · matrices j)
      unfolding matrices
      closed i j k l = subst (IsCombination R.size matrices) (compose-at (B.hom (row i R.rows)) (B.hom (row j R.rows)) v)
          (member_at (B.hom (row i R.rows) ≫ B.hom (row j R.rows)) (radical_after (B.hom (row i R.rows)) (B.hom (row j R.rows)) (row_member i)))

      -- no member fixes a row that is not zero
      none_fixed : (f : HasFixedRow R.size matrices) → (x : Hom S S) → IsRadical C x → x.at v ≡ f.element → ⊥
      none_fixed f x r e = zeros_not_one q (sym (zeros_mul f.functional) ∙ ap (λ z. z · f.functional) (sym gone) ∙ f.nonzero)
        where
          i : IsIso (identity S ⊕ negative_hom x)
          i = identity_minus_radical x r

          fixed_by : f.fixed · x.at v ≡ f.fixed
          fixed_by = ap (λ z. f.fixed · z) e ∙ f.is_fixed

          killed : f.fixed · (identity S ⊕ negative_hom x).at v ≡ zeros q 1 (S.dim v)
          killed =
              ap (λ z. f.fixed · z) (sum-at (identity S) (negative_hom x) v ∙ ap₂ (λ a b. a ⊞ b) (identity-at S v) (negative-at x v))
              ∙ mul_add_mat f.fixed (one q (S.dim v)) (negative (x.at v))
              ∙ ap₂ (λ a b. a ⊞ b) (mul_one_mat f.fixed) (mul_negative f.fixed (x.at v) ∙ ap negative fixed_by)
              ∙ add_negative f.fixed

          gone : f.fixed ≡ zeros q 1 (S.dim v)
          gone =
              sym (mul_one_mat f.fixed) ∙ ap (λ z. f.fixed · z) (sym (identity-at S v) ∙ same-at (sym i.right) v ∙ compose-at (identity S ⊕ negative_hom x) i.inverse v)
              ∙ sym (mul_assoc_mat f.fixed ((identity S ⊕ negative_hom x).at v) (i.inverse.at v)) ∙ ap (λ z. z · i.inverse.at v) killed ∙ zeros_mul (i.inverse.at v)

      fixed_impossible : HasFixedRow R.size matrices → ⊥
      fixed_impossible f =
          let c = f.in_family.coefficients in
          let s = combine_in_span R.rows R.size c (λ i. row i R.rows) (λ i l. row_in_span R.rows R.rows i (in_span_self R.rows)) in
          none_fixed f (B.hom (combine R.size c (λ i. row i R.rows))) (subst Member s.is (R.inside s.by)) (sym (combination c) ∙ f.in_family.is)

      composite_at : (h : ℕ → Hom S S) (k : ℕ) → (composite_of h k).at v ≡ ordered_product (λ i. (h i).at v) k
      unfolding composite_of ordered_product
      composite_at h zero = identity-at S v
      composite_at h (suc k) = compose-at (composite_of h k) (h k) v ∙ ap (λ z. z · (h k).at v) (composite_at h k)

      vanish_at : (h : ℕ → Hom S S) → ((i : ℕ) → i < S.dim v → IsRadical C (h i)) → (composite_of h (S.dim v)).at v ≡ zeros q (S.dim v) (S.dim v)
      vanish_at h r = composite_at h (S.dim v) ∙ elim (nil_or_fixed R.size matrices closed) [
        | inl z ↦ z (λ i. (h i).at v) (λ i l. member_at (h i) (r i l))
        | inr f ↦ absurd (fixed_impossible f)
      ]

      -- more factors
      vanish_more : (k : ℕ) (h : ℕ → Hom S S) → ((i : ℕ) → i < S.dim v + k → IsRadical C (h i)) → (composite_of h (S.dim v + k)).at v ≡ zeros q (S.dim v) (S.dim v)
      unfolding composite_of
      vanish_more zero h r = let e : S.dim v + 0 ≡ S.dim v = omega arith in ap (λ m. (composite_of h m).at v) e ∙ vanish_at h (λ i l. r i (omega (arith, l)))
      vanish_more (suc k) h r =
          let e : S.dim v + suc k ≡ suc (S.dim v + k) = omega arith in
          ap (λ m. (composite_of h m).at v) e ∙ compose-at (composite_of h (S.dim v + k)) (h (S.dim v + k)) v
          ∙ ap (λ z. z · (h (S.dim v + k)).at v) (vanish_more k h (λ i l. r i (omega (arith, l)))) ∙ zeros_mul ((h (S.dim v + k)).at v)

    -- Each product of so many members is zero.
    pub radical_power : (h : ℕ → Hom S S) → ((i : ℕ) → i < radical_exponent → IsRadical C (h i)) → composite_of h radical_exponent ≡ zero_hom S S
    unfolding radical_exponent
    radical_power h r = Hom-eq _ _ (λ v. elim (cases_lt v Q.vertices) [
      | inl l ↦
          let more = total_grows S.dim Q.vertices v l in
          let k = total Q.vertices S.dim - S.dim v in
          let e : S.dim v + k ≡ total Q.vertices S.dim = omega (arith, more) in
          ap (λ m. (composite_of h m).at v) (sym e) ∙ vanish_more v k h (λ i b. r i (omega (arith, b, e))) ∙ sym (zero_hom-at S S v)
      | inr past ↦ subst (λ d. (a b : Mat q d d) → a ≡ b) (sym (S.past v past)) no_rows ((composite_of h (total Q.vertices S.dim)).at v) ((zero_hom S S).at v)
    ])

    pub radical_vanishes : (m : ℕ) × ((h : ℕ → Hom S S) → ((i : ℕ) → i < m → IsRadical C (h i)) → composite_of h m ≡ zero_hom S S)
    radical_vanishes = (radical_exponent, radical_power)

-- Local modules are pairwise apart where no two of them are isomorphic.
pub pairwise_apart : {q : Gf} {Q : Quiver} (n : ℕ) (Y : ℕ → Rep q Q) → ((k : ℕ) → k < n → IsLocal (Y k)) → ((k l : ℕ) → k < n → l < n → k ≢ l → Isomorphic (Y k) (Y l) → ⊥) → AreLocalAndApart n Y
pairwise_apart n Y L other = record {
  local = L;
  apart = λ k l a b d f g i. other k l a b d (record { forth = f; iso = (both_iso (L k a) (L l b) f g i).0 });
}
