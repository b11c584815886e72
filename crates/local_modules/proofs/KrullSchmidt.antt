-- The Krull-Schmidt theorem: two lists of local modules with isomorphic direct sums match. (Assem, Simson, Skowroński, volume 1, chapter I, 4.)
use Rattle.std.proofs.Common.{ℕ, zero, suc, ◌≡◌, ◌≢◌, ◌<◌, ◌≤◌, inl, inr, refl, sym, ap, ap₂, ◌∙◌, subst, arith, cond, ltb}
use Rattle.std.proofs.lemmas.Bool.{cases_lt, cases_eq, cond-true, cond-false, lt-ltb, le-ltb}
use Rattle.linear_algebra.specs.Field.{Gf}
use Rattle.linear_algebra.proofs.Blocks.{no_columns}
use Rattle.representations.specs.Quiver.{Quiver}
use Rattle.representations.specs.Rep.{Rep}
use Rattle.representations.specs.Hom.{Hom, Hom-eq, ◌≫◌, ◌⊕◌, identity, zero_hom, sum_of}
use Rattle.representations.specs.Module.{IsIso}
use Rattle.representations.specs.Sum.{sum_family, zero_rep}
use Rattle.representations.proofs.Homs.{compose_assoc, compose_identity, identity_compose, zero_compose, sum_comm, sum_assoc, sum_of-same, compose_sum_of, sum_of_compose}
use Rattle.representations.proofs.Biproducts.{sum_of-none, sum_of-suc}
use Rattle.representations.proofs.SumFamilies.{from_family, into_family, family_through, family_back, compose_into_family, from_family_compose, from_family-same, from_family-zeros, into_family-same, into_family-zeros}
use Rattle.projectives.specs.Families.{family_in}
use Rattle.projectives.specs.Components.{family_out}
use Rattle.projectives.proofs.Components.{in-out, in-out_other, whole}
use Rattle.local_modules.specs.Local.{IsLocal}
use Rattle.local_modules.specs.Isomorphic.{Isomorphic, Matching}
use Rattle.local_modules.proofs.LocalRings.{identity_not_zero, both_iso, iso_identity}
use Rattle.local_modules.proofs.Comparing.{iso_among}
use Rattle.local_modules.proofs.TwoParts.{TwoParts, of_sum, transported_parts, exchanged}

-- the numbers other than k, in order
pub skip : ℕ → ℕ → ℕ
skip k i = cond (ltb i k) i (suc i)

pub skip-below : (k i : ℕ) → i < k → skip k i ≡ i
unfolding skip
skip-below k i l = cond-true (ltb i k) i (suc i) (lt-ltb i k l)

pub skip-above : (k i : ℕ) → k ≤ i → skip k i ≡ suc i
unfolding skip
skip-above k i l = cond-false (ltb i k) i (suc i) (le-ltb i k l)

-- below, above or not: three facts by cases
pub skip_other : (k i : ℕ) → skip k i ≢ k
skip_other k i e = elim (cases_lt i k) [
  | inl l ↦ omega (arith, l, skip-below k i l, e)
  | inr l ↦ omega (arith, l, skip-above k i l, e)
]

pub skip_limit : (n k i : ℕ) → k < suc n → i < n → skip k i < suc n
skip_limit n k i b l = elim (cases_lt i k) [
  | inl c ↦ omega (arith, c, b, skip-below k i c)
  | inr c ↦ omega (arith, l, skip-above k i c)
]

pub skip_once : (k i j : ℕ) → skip k i ≡ skip k j → i ≡ j
skip_once k i j e = elim (cases_lt i k) [
  | inl a ↦ elim (cases_lt j k) [
    | inl b ↦ omega (arith, e, skip-below k i a, skip-below k j b)
    | inr b ↦ absurd (omega (arith, e, a, b, skip-below k i a, skip-above k j b))
  ]
  | inr a ↦ elim (cases_lt j k) [
    | inl b ↦ absurd (omega (arith, e, a, b, skip-above k i a, skip-below k j b))
    | inr b ↦ omega (arith, e, skip-above k i a, skip-above k j b)
  ]
]

module _ {q : Gf} {Q : Quiver} where
  -- a sum, with one member taken out
  pub sum_of-skip : {X Y : Rep q Q} (n k : ℕ) → k < suc n → (f : ℕ → Hom X Y) → sum_of n (λ j. f (skip k j)) ⊕ f k ≡ sum_of (suc n) f
  sum_of-skip {X} {Y} zero k b f =
      let e : k ≡ 0 = omega (arith, b) in
      ap₂ (λ x y. x ⊕ y) (sum_of-none (λ j. f (skip k j)) ∙ sym (sum_of-none f)) (ap f e) ∙ sym (sum_of-suc 0 f)
  sum_of-skip (suc n) k b f = elim (cases_eq k (suc n)) [
    | inl e ↦ ap₂ (λ x y. x ⊕ y) (sum_of-same (suc n) (λ j. f (skip k j)) f (λ j l. ap f (skip-below k j (omega (arith, l, e))))) (ap f e) ∙ sym (sum_of-suc (suc n) f)
    | inr d ↦
        ap (λ x. x ⊕ f k) (sum_of-suc n (λ j. f (skip k j)) ∙ ap (λ x. sum_of n (λ j. f (skip k j)) ⊕ x) (ap f (skip-above k n (omega (arith, b, d)))))
        ∙ sum_assoc (sum_of n (λ j. f (skip k j))) (f (suc n)) (f k)
        ∙ ap (λ x. sum_of n (λ j. f (skip k j)) ⊕ x) (sum_comm (f (suc n)) (f k))
        ∙ sym (sum_assoc (sum_of n (λ j. f (skip k j))) (f k) (f (suc n)))
        ∙ ap (λ x. x ⊕ f (suc n)) (sum_of-skip n k (omega (arith, b, d)) f)
        ∙ sym (sum_of-suc (suc n) f)
  ]

  -- a sum of a family is the sum of the others and of one member
  unfoldable pub without : (n : ℕ) (Y : ℕ → Rep q Q) (k : ℕ) → k < suc n → TwoParts (sum_family (suc n) Y) (sum_family n (λ j. Y (skip k j))) (Y k)
  without n Y k b = record {
    in_first = from_family n others (λ j. family_in (suc n) Y (skip k j));
    out_first = into_family n others (λ j. family_out (suc n) Y (skip k j));
    in_second = family_in (suc n) Y k;
    out_second = family_out (suc n) Y k;
    first = family_back n others (λ j. family_in (suc n) Y (skip k j)) (λ j. family_out (suc n) Y (skip k j))
        (λ i l. in-out (suc n) Y (skip k i) (skip_limit n k i b l))
        (λ i j l m d. in-out_other (suc n) Y (skip k i) (skip k j) (skip_limit n k i b l) (λ e. d (skip_once k i j e)));
    second = in-out (suc n) Y k b;
    first_second = from_family_compose n others (λ j. family_in (suc n) Y (skip k j)) (family_out (suc n) Y k)
        ∙ from_family-same n others _ (λ j. zero_hom (others j) (Y k)) (λ j l. in-out_other (suc n) Y (skip k j) k (skip_limit n k j b l) (skip_other k j))
        ∙ from_family-zeros (Y k) n others;
    second_first = compose_into_family n others (family_in (suc n) Y k) (λ j. family_out (suc n) Y (skip k j))
        ∙ into_family-same n others _ (λ j. zero_hom (Y k) (others j)) (λ j l. in-out_other (suc n) Y k (skip k j) b (λ e. skip_other k j (sym e)))
        ∙ into_family-zeros (Y k) n others;
    whole = ap (λ z. z ⊕ family_out (suc n) Y k ≫ family_in (suc n) Y k) (family_through n others (λ j. family_out (suc n) Y (skip k j)) (λ j. family_in (suc n) Y (skip k j)))
        ∙ sum_of-skip n k b (λ j. family_out (suc n) Y j ≫ family_in (suc n) Y j) ∙ whole (suc n) Y;
  }
    where
      others : ℕ → Rep q Q
      others j = Y (skip k j)

  last_of : (m : ℕ) (X : ℕ → Rep q Q) → TwoParts (sum_family (suc m) X) (sum_family m X) (X m)
  unfolding sum_family
  last_of m X = of_sum (sum_family m X) (X m)

  -- A local part goes isomorphically to a part of each other list of local modules with this sum.
  record Partner {A B X : Rep q Q} (s : TwoParts A B X) (n : ℕ) (Y : ℕ → Rep q Q) (f : Hom A (sum_family n Y)) : Type 0 where
    place : ℕ
    below : place < n
    iso : IsIso (s.in_second ≫ f ≫ family_out n Y place)

  partner : {A B X : Rep q Q} (s : TwoParts A B X) (n : ℕ) (Y : ℕ → Rep q Q) (f : Hom A (sum_family n Y)) → IsIso f → IsLocal X → ((k : ℕ) → k < n → IsLocal (Y k)) → Partner s n Y f
  partner {A} {B} {X} s n Y f i L K =
      let found = iso_among L n (λ k. s.in_second ≫ f ≫ family_out n Y k ≫ (family_in n Y k ≫ i.inverse ≫ s.out_second)) (subst IsIso (sym total) (iso_identity X)) in
      record {
        place = found.0;
        below = found.1;
        iso = (both_iso L (K found.0 found.1) (s.in_second ≫ f ≫ family_out n Y found.0) (family_in n Y found.0 ≫ i.inverse ≫ s.out_second) found.2).0;
      }
    where
      term : (k : ℕ) → s.in_second ≫ f ≫ family_out n Y k ≫ (family_in n Y k ≫ i.inverse ≫ s.out_second) ≡ (s.in_second ≫ f ≫ (family_out n Y k ≫ family_in n Y k)) ≫ (i.inverse ≫ s.out_second)
      term k = ap (λ z. s.in_second ≫ f ≫ family_out n Y k ≫ z) (compose_assoc (family_in n Y k) i.inverse s.out_second)
          ∙ sym (compose_assoc (s.in_second ≫ f ≫ family_out n Y k) (family_in n Y k) (i.inverse ≫ s.out_second))
          ∙ ap (λ z. z ≫ (i.inverse ≫ s.out_second)) (compose_assoc (s.in_second ≫ f) (family_out n Y k) (family_in n Y k))

      total : sum_of n (λ k. s.in_second ≫ f ≫ family_out n Y k ≫ (family_in n Y k ≫ i.inverse ≫ s.out_second)) ≡ identity X
      total =
          sum_of-same n _ _ (λ k l. term k)
          ∙ sym (sum_of_compose n (λ k. s.in_second ≫ f ≫ (family_out n Y k ≫ family_in n Y k)) (i.inverse ≫ s.out_second))
          ∙ ap (λ z. z ≫ (i.inverse ≫ s.out_second)) (sym (compose_sum_of n (s.in_second ≫ f) (λ k. family_out n Y k ≫ family_in n Y k)) ∙ ap (λ z. s.in_second ≫ f ≫ z) (whole n Y) ∙ compose_identity (s.in_second ≫ f))
          ∙ compose_assoc s.in_second f (i.inverse ≫ s.out_second)
          ∙ ap (λ z. s.in_second ≫ z) (sym (compose_assoc f i.inverse s.out_second) ∙ ap (λ z. z ≫ s.out_second) i.right ∙ identity_compose s.out_second) ∙ s.second

  -- homomorphisms into the zero module, and so a local module is no part of it
  into_none : (X : Rep q Q) (f g : Hom X (zero_rep q Q)) → f ≡ g
  into_none X f g = Hom-eq f g (λ v. no_columns (f.at v) (g.at v))

  no_local_part : {A X : Rep q Q} → IsLocal X → (f : Hom X A) (g : Hom A X) → f ≫ g ≡ identity X → (h : Hom A (zero_rep q Q)) → IsIso h → ⊥
  no_local_part {A} {X} L f g e h i =
      let through : f ≡ (f ≫ h) ≫ i.inverse = sym (compose_identity f) ∙ ap (λ z. f ≫ z) (sym i.right) ∙ sym (compose_assoc f h i.inverse) in
      identity_not_zero L.vertex L.nonzero
      (sym e ∙ ap (λ z. z ≫ g) (through ∙ ap (λ z. z ≫ i.inverse) (into_none X (f ≫ h) (zero_hom X (zero_rep q Q))) ∙ zero_compose X i.inverse) ∙ zero_compose X g)

  -- one part more
  one_more : (m n : ℕ) (X Y : ℕ → Rep q Q) (k : ℕ) → k < suc n → Isomorphic (X m) (Y k) → Matching m X n (λ j. Y (skip k j)) → Matching (suc m) X (suc n) Y
  one_more m n X Y k b s r = record {
    count = ap suc r.count;
    place = place;
    below = λ i l. elim (cases_lt i m) [
      | inl c ↦ subst (λ p. p < suc n) (sym (place-old i c)) (skip_limit n k (r.place i) b (r.below i c))
      | inr c ↦ subst (λ p. p < suc n) (sym (place-new i c)) b
    ];
    different = λ i j l o e. elim (cases_lt i m) [
      | inl c ↦ elim (cases_lt j m) [
        | inl d ↦ r.different i j c d (skip_once k (r.place i) (r.place j) (sym (place-old i c) ∙ e ∙ place-old j d))
        | inr d ↦ absurd (skip_other k (r.place i) (sym (place-old i c) ∙ e ∙ place-new j d))
      ]
      | inr c ↦ elim (cases_lt j m) [
        | inl d ↦ absurd (skip_other k (r.place j) (sym (place-old j d) ∙ sym e ∙ place-new i c))
        | inr d ↦ omega (arith, l, o, c, d)
      ]
    ];
    same = λ i l. elim (cases_lt i m) [
      | inl c ↦ subst (λ p. Isomorphic (X i) (Y p)) (sym (place-old i c)) (r.same i c)
      | inr c ↦
          let e : i ≡ m = omega (arith, l, c) in
          subst (λ p. Isomorphic (X i) (Y p)) (sym (place-new i c)) (subst (λ j. Isomorphic (X j) (Y k)) (sym e) s)
    ];
  }
    where
      place : ℕ → ℕ
      place i = cond (ltb i m) (skip k (r.place i)) k

      place-old : (i : ℕ) → i < m → place i ≡ skip k (r.place i)
      place-old i l = cond-true (ltb i m) (skip k (r.place i)) k (lt-ltb i m l)

      place-new : (i : ℕ) → m ≤ i → place i ≡ k
      place-new i l = cond-false (ltb i m) (skip k (r.place i)) k (le-ltb i m l)

  -- The theorem.
  pub krull_schmidt : (m n : ℕ) (X Y : ℕ → Rep q Q) → ((i : ℕ) → i < m → IsLocal (X i)) → ((i : ℕ) → i < n → IsLocal (Y i))
      → (f : Hom (sum_family m X) (sum_family n Y)) → IsIso f → Matching m X n Y
  unfolding sum_family transported_parts without
  krull_schmidt zero zero X Y L K f i = record { count = refl; place = λ j. j; below = λ j l. l; different = λ j k l o e. e; same = λ j l. absurd (omega (arith, l)) }
  krull_schmidt zero (suc n) X Y L K f i = absurd (no_local_part (K n (omega arith)) (family_in (suc n) Y n) (family_out (suc n) Y n) (in-out (suc n) Y n (omega arith))
      i.inverse (record { inverse = f; right = i.left; left = i.right }))
  krull_schmidt (suc m) zero X Y L K f i = absurd (no_local_part (L m (omega arith)) (family_in (suc m) X m) (family_out (suc m) X m) (in-out (suc m) X m (omega arith)) f i)
  krull_schmidt (suc m) (suc n) X Y L K f i =
      let s = last_of m X in
      let p = partner s (suc n) Y f i (L m (omega arith)) K in
      let rest = exchanged (transported_parts f i s) (without n Y p.place p.below) p.iso in
      one_more m n X Y p.place p.below (record { forth = s.in_second ≫ f ≫ family_out (suc n) Y p.place; iso = p.iso })
      (krull_schmidt m n X (λ j. Y (skip p.place j)) (λ j l. L j (omega (arith, l))) (λ j l. K (skip p.place j) (skip_limit n p.place j p.below l)) rest.forth rest.iso)
