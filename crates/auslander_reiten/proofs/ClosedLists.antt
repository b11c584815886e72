-- A closed list has each local module, up to isomorphism.
use Rattle.std.proofs.Common.{ℕ, zero, suc, ◌+◌, ◌<◌, ◌≡◌, ◌≢◌, ◌⊎◌, inl, inr, sym, ap, ◌∙◌, arith, subst}
use Rattle.std.proofs.lemmas.Bool.{cases_lt, cases_eq}
use Rattle.linear_algebra.specs.Field.{Gf}
use Rattle.linear_algebra.specs.Matrix.{zeros, transpose, ◌·◌}
use Rattle.linear_algebra.specs.Parts.{unit, unit_column}
use Rattle.linear_algebra.proofs.MatrixLaws.{mul_zeros, zeros_mul, transpose_zeros, transpose_transpose}
use Rattle.linear_algebra.proofs.PartsLaws.{unit_unit}
use Rattle.linear_algebra.proofs.Search.{search_or_all}
use Rattle.linear_algebra.proofs.Solving.{zeros_not_one}
use Rattle.representations.specs.Quiver.{Quiver, BoundQuiver, opposite_algebra}
use Rattle.representations.specs.Rep.{Rep, IsMod}
use Rattle.representations.specs.Hom.{Hom, ◌≫◌, identity, zero_hom}
use Rattle.representations.specs.Module.{IsIso, IsSplitEpi}
use Rattle.representations.specs.Dual.{dual}
use Rattle.representations.specs.Sum.{sum_family}
use Rattle.representations.proofs.Homs.{zero_hom-at, same-at, compose_assoc, compose_identity, identity_compose, compose_zero, zero_compose, compose_sum_of, sum_of_compose}
use Rattle.representations.proofs.Biproducts.{sum_of-zeros}
use Rattle.representations.proofs.Duals.{IsMod-dual}
use Rattle.projectives.specs.Words.{projective}
use Rattle.projectives.specs.Projective.{generator}
use Rattle.projectives.specs.Families.{family_in}
use Rattle.projectives.specs.Components.{family_out}
use Rattle.projectives.specs.TwoSided.{TwoSided, other}
use Rattle.projectives.specs.Injective.{injective, turn}
use Rattle.projectives.specs.Yoneda.{yoneda}
use Rattle.projectives.proofs.Yoneda.{generator-yoneda}
use Rattle.projectives.proofs.Turning.{turn-at}
use Rattle.projectives.proofs.Components.{in-out, in-out_other, whole}
use Rattle.local_modules.specs.Local.{IsLocal}
use Rattle.local_modules.specs.Isomorphic.{Isomorphic, AreApart}
use Rattle.local_modules.specs.RadicalOfSum.{AreLocalAndApart, part, IsRadical, composite_of}
use Rattle.local_modules.proofs.LocalRings.{iso_identity, iso_compose, both_iso, zero_no_iso}
use Rattle.local_modules.proofs.Comparing.{isomorphic_or_apart, isomorphic_not_apart}
use Rattle.local_modules.proofs.RadicalOfSum.{radical_exponent, radical_power}
use Rattle.auslander_reiten.specs.AlmostSplit.{Lifts, IsAlmostSplit}
use Rattle.auslander_reiten.specs.ClosedList.{IsRightAlmostSplit, IsListed, ListedSource, IsClosedList}

-- ---- a module that is not zero at a vertex has a homomorphism to the injective module there that is not zero

module _ {q : Gf} {A : BoundQuiver} (T : TwoSided q A) (X : Rep q A.quiver) (M : IsMod A X) (v : ℕ) (nonzero : X.dim v ≢ zero) where
  row_to_injective : Hom (projective (other T) v) (dual X)
  row_to_injective = yoneda (opposite_algebra A) (other T) T.opposite_basis (dual X) (IsMod-dual A X M) v (unit q (X.dim v) 0)

  to_injective : Hom X (injective T v)
  to_injective = turn row_to_injective

  to_injective_nonzero : to_injective ≡ zero_hom X (injective T v) → ⊥
  unfolding to_injective row_to_injective
  to_injective_nonzero e = zeros_not_one q (
      sym (zeros_mul (unit_column q (X.dim v) 0)) ∙ ap (λ z. z · unit_column q (X.dim v) 0) (sym none)
      ∙ unit_unit q (X.dim v) 0 (omega (arith, nonzero)))
    where
      back : row_to_injective.at v ≡ zeros q ((other T).count v v) (X.dim v)
      back =
          sym (transpose_transpose (row_to_injective.at v)) ∙ ap transpose (sym (turn-at X (projective (other T) v) row_to_injective v) ∙ same-at e v ∙ zero_hom-at X (injective T v) v)
          ∙ transpose_zeros q (X.dim v) ((other T).count v v)

      none : unit q (X.dim v) 0 ≡ zeros q 1 (X.dim v)
      none =
          sym (generator-yoneda (opposite_algebra A) (other T) T.opposite_basis (dual X) (IsMod-dual A X M) v (unit q (X.dim v) 0))
          ∙ ap (λ z. generator (opposite_algebra A) (other T) T.opposite_basis v · z) back ∙ mul_zeros (generator (opposite_algebra A) (other T) T.opposite_basis v)

-- ---- one factor more in front of a composite

unfoldable before_all : {q : Gf} {Q : Quiver} {S : Rep q Q} → Hom S S → (ℕ → Hom S S) → ℕ → Hom S S
before_all j h zero = j
before_all j h (suc i) = h i

composite-before : {q : Gf} {Q : Quiver} {S : Rep q Q} (j : Hom S S) (h : ℕ → Hom S S) (m : ℕ) → composite_of (before_all j h) (suc m) ≡ j ≫ composite_of h m
unfolding composite_of before_all
composite-before j h zero = identity_compose j ∙ sym (compose_identity j)
composite-before j h (suc m) = ap (λ z. z ≫ h m) (composite-before j h m) ∙ compose_assoc j (composite_of h m) (h m)

module _ {q : Gf} {A : BoundQuiver} (T : TwoSided q A) (n : ℕ) (Y : ℕ → Rep q A.quiver) (C : IsClosedList T n Y) where
  abbrev S : Rep q A.quiver
  S = sum_family n Y

  pairwise : AreLocalAndApart n Y
  pairwise = record { local = C.local; apart = C.apart }

  -- ---- what goes through a right almost split homomorphism is in the radical

  module _ {E : Rep q A.quiver} (k : ℕ) (l : k < n) (g : Hom E (Y k)) (R : IsRightAlmostSplit A g) (u : Hom S E) where
    through : Hom S S
    through = u ≫ g ≫ family_in n Y k

    no_iso : (a : ℕ) (b : a < n) → (k ≡ a) ⊎ (k ≢ a) → IsIso (part n Y through a a) → ⊥
    unfolding through
    no_iso a b (inl e) i = subst (λ a. (b : a < n) → IsIso (part n Y (u ≫ g ≫ family_in n Y k) a a) → ⊥) e here b i
      where
        here : (b : k < n) → IsIso (part n Y (u ≫ g ≫ family_in n Y k) k k) → ⊥
        here b i = R.not_split (record {
          section = i.inverse ≫ (family_in n Y k ≫ u);
          is = compose_assoc i.inverse (family_in n Y k ≫ u) g ∙ ap (λ z. i.inverse ≫ z) (sym component) ∙ i.left;
        })
          where
            component : part n Y (u ≫ g ≫ family_in n Y k) k k ≡ family_in n Y k ≫ u ≫ g
            component =
                ap (λ z. z ≫ family_out n Y k) (sym (compose_assoc (family_in n Y k) (u ≫ g) (family_in n Y k)) ∙ ap (λ z. z ≫ family_in n Y k) (sym (compose_assoc (family_in n Y k) u g)))
                ∙ compose_assoc (family_in n Y k ≫ u ≫ g) (family_in n Y k) (family_out n Y k) ∙ ap (λ z. family_in n Y k ≫ u ≫ g ≫ z) (in-out n Y k b)
                ∙ compose_identity (family_in n Y k ≫ u ≫ g)
    no_iso a b (inr d) i = zero_no_iso (C.local a b).vertex (C.local a b).nonzero (subst IsIso none i)
      where
        none : part n Y (u ≫ g ≫ family_in n Y k) a a ≡ zero_hom (Y a) (Y a)
        none =
            ap (λ z. z ≫ family_out n Y a) (sym (compose_assoc (family_in n Y a) (u ≫ g) (family_in n Y k)))
            ∙ compose_assoc (family_in n Y a ≫ (u ≫ g)) (family_in n Y k) (family_out n Y a) ∙ ap (λ z. family_in n Y a ≫ (u ≫ g) ≫ z) (in-out_other n Y k a l d)
            ∙ compose_zero (family_in n Y a ≫ (u ≫ g)) (Y a)

    through_radical : IsRadical pairwise through
    through_radical a b = elim ((C.local a b).decides (part n Y through a a)) [ inl i ↦ absurd (no_iso a b (cases_eq k a) i) | inr z ↦ z ]

  -- ---- a local module that is apart from all members

  module _ (X : Rep q A.quiver) (X_mod : IsMod A X) (L : IsLocal X) (apart : (k : ℕ) → k < n → AreApart X (Y k)) where
    never_split : (k : ℕ) → k < n → (h : Hom X (Y k)) → IsSplitEpi h → ⊥
    never_split k l h s =
        let both = both_iso (C.local k l) L s.section h (subst IsIso (sym s.is) (iso_identity (Y k))) in
        isomorphic_not_apart (record { forth = h; iso = both.1 }) (apart k l)

    -- Where all homomorphisms to S, and then one member of the radical more, are zero, so they are without it.
    abbrev VanishesAfter : ℕ → Type 0
    VanishesAfter m = (H : Hom X S) (h : ℕ → Hom S S) → ((i : ℕ) → i < m → IsRadical pairwise (h i)) → H ≫ composite_of h m ≡ zero_hom X S

    module _ (m : ℕ) (next : VanishesAfter (suc m)) (h : ℕ → Hom S S) (radical : (i : ℕ) → i < m → IsRadical pairwise (h i)) where
      abbrev c : Hom S S
      c = composite_of h m

      -- through one listed part of the source
      one_part : {Z : Rep q A.quiver} (k : ℕ) (l : k < n) (s : ListedSource A n Y (Y k)) (p : IsListed n Y Z) (y : Hom X Z) (i : Hom Z s.source)
          → y ≫ i ≫ s.g ≫ family_in n Y k ≫ c ≡ zero_hom X S
      unfolding before_all through
      one_part {Z} k l s p y i =
          ap (λ z. z ≫ s.g ≫ family_in n Y k ≫ c) split
          ∙ ap (λ z. z ≫ family_in n Y k ≫ c) (compose_assoc G u s.g) ∙ ap (λ z. z ≫ c) (compose_assoc G (u ≫ s.g) (family_in n Y k))
          ∙ compose_assoc G (u ≫ s.g ≫ family_in n Y k) c ∙ ap (λ z. G ≫ z) (sym (composite-before (u ≫ s.g ≫ family_in n Y k) h m))
          ∙ next G (before_all (u ≫ s.g ≫ family_in n Y k) h) members
        where
          G : Hom X S
          G = y ≫ p.same.forth ≫ family_in n Y p.member

          u : Hom S s.source
          u = family_out n Y p.member ≫ (p.same.iso.inverse ≫ i)

          split : y ≫ i ≡ G ≫ u
          split = sym (
              compose_assoc (y ≫ p.same.forth) (family_in n Y p.member) u
              ∙ ap (λ z. y ≫ p.same.forth ≫ z) (sym (compose_assoc (family_in n Y p.member) (family_out n Y p.member) (p.same.iso.inverse ≫ i))
              ∙ ap (λ z. z ≫ (p.same.iso.inverse ≫ i)) (in-out n Y p.member p.below) ∙ identity_compose (p.same.iso.inverse ≫ i))
              ∙ sym (compose_assoc (y ≫ p.same.forth) p.same.iso.inverse i)
              ∙ ap (λ z. z ≫ i) (compose_assoc y p.same.forth p.same.iso.inverse ∙ ap (λ z. y ≫ z) p.same.iso.right ∙ compose_identity y))

          members : (t : ℕ) → t < suc m → IsRadical pairwise (before_all (u ≫ s.g ≫ family_in n Y k) h t)
          members zero b = through_radical k l s.g s.almost_split u
          members (suc t) b = radical t (omega (arith, b))

      -- through one member of the list
      one_member : (H : Hom X S) (k : ℕ) → k < n → H ≫ (family_out n Y k ≫ family_in n Y k) ≫ c ≡ zero_hom X S
      one_member H k l =
          ap (λ z. z ≫ c) (sym (compose_assoc H (family_out n Y k) (family_in n Y k)) ∙ ap (λ z. z ≫ family_in n Y k) (sym lifted.is))
          ∙ ap (λ z. z ≫ s.g ≫ family_in n Y k ≫ c) (sym (compose_identity lifted.lift) ∙ ap (λ z. lifted.lift ≫ z) (sym s.parts.sum)
          ∙ compose_sum_of s.parts.count lifted.lift (λ i. (s.parts.summand i).projection ≫ (s.parts.summand i).injection))
          ∙ ap (λ z. z ≫ family_in n Y k ≫ c) (sum_of_compose s.parts.count _ s.g) ∙ ap (λ z. z ≫ c) (sum_of_compose s.parts.count _ (family_in n Y k)) ∙ sum_of_compose s.parts.count _ c
          ∙ sum_of-zeros s.parts.count _ (λ i b.
          ap (λ z. z ≫ s.g ≫ family_in n Y k ≫ c) (sym (compose_assoc lifted.lift (s.parts.summand i).projection (s.parts.summand i).injection))
          ∙ one_part k l s (s.listed i b) (lifted.lift ≫ (s.parts.summand i).projection) (s.parts.summand i).injection)
        where
          s : ListedSource A n Y (Y k)
          s = C.source k l

          lifted : Lifts s.g (H ≫ family_out n Y k)
          lifted = s.almost_split.lifts X X_mod (H ≫ family_out n Y k) (never_split k l (H ≫ family_out n Y k))

      without_it : (H : Hom X S) → H ≫ c ≡ zero_hom X S
      without_it H =
          ap (λ z. z ≫ c) (sym (compose_identity H) ∙ ap (λ z. H ≫ z) (sym (whole n Y)) ∙ compose_sum_of n H (λ k. family_out n Y k ≫ family_in n Y k))
          ∙ sum_of_compose n _ c ∙ sum_of-zeros n _ (λ k l. one_member H k l)

    vanishes : (fuel m : ℕ) → m + fuel ≡ radical_exponent n Y → VanishesAfter m
    vanishes zero m e H h r =
        let same : m ≡ radical_exponent n Y = omega (arith, e) in
        ap (λ z. H ≫ composite_of h z) same ∙ ap (λ z. H ≫ z) (radical_power n Y pairwise h (λ i l. r i (omega (arith, l, same)))) ∙ compose_zero H S
    vanishes (suc fuel) m e H h r = without_it m (vanishes fuel (suc m) (omega (arith, e))) h r H

    all_zero : (H : Hom X S) → H ≡ zero_hom X S
    unfolding composite_of
    all_zero H = sym (compose_identity H) ∙ vanishes (radical_exponent n Y) 0 (omega arith) H (λ i. identity S) (λ i l. absurd (omega (arith, l)))

    -- and that is impossible
    impossible : ⊥
    impossible = elim (cases_lt L.vertex A.quiver.vertices) [
      | inr past ↦ L.nonzero (X.past L.vertex past)
      | inl inside ↦
          let p = C.injective_listed L.vertex inside in
          to_injective_nonzero T X X_mod L.vertex L.nonzero (from_zero (to_injective T X X_mod L.vertex L.nonzero) p)
    ]
      where
        from_zero : {Z : Rep q A.quiver} (f : Hom X Z) (p : IsListed n Y Z) → f ≡ zero_hom X Z
        from_zero {Z} f p =
            sym (compose_identity f) ∙ ap (λ z. f ≫ z) (sym p.same.iso.right) ∙ sym (compose_assoc f p.same.forth p.same.iso.inverse)
            ∙ ap (λ z. z ≫ p.same.iso.inverse) (sym (compose_identity (f ≫ p.same.forth)) ∙ ap (λ z. f ≫ p.same.forth ≫ z) (sym (in-out n Y p.member p.below))
            ∙ sym (compose_assoc (f ≫ p.same.forth) (family_in n Y p.member) (family_out n Y p.member))
            ∙ ap (λ z. z ≫ family_out n Y p.member) (all_zero (f ≫ p.same.forth ≫ family_in n Y p.member)) ∙ zero_compose X (family_out n Y p.member))
            ∙ zero_compose X p.same.iso.inverse

  -- ---- completeness

  pub closed_list_is_complete : (X : Rep q A.quiver) → IsMod A X → IsLocal X → IsListed n Y X
  closed_list_is_complete X X_mod L = elim (search_or_all n (λ k. (k < n) × Isomorphic X (Y k)) (λ k. k < n → AreApart X (Y k)) decided) [
    | inl found ↦ record { member = found.0; below = found.1; same = found.2.1 }
    | inr all ↦ absurd (impossible X X_mod L (λ k l. all k l l))
  ]
    where
      decided : (k : ℕ) → ((k < n) × Isomorphic X (Y k)) ⊎ (k < n → AreApart X (Y k))
      decided k = elim (cases_lt k n) [
        | inr past ↦ inr (λ l. absurd (omega (arith, l, past)))
        | inl l ↦ elim (isomorphic_or_apart L (C.local k l)) [ inl i ↦ inl (l, i) | inr a ↦ inr (λ b. a) ]
      ]

  -- by one member only
  pub listed_once : (X : Rep q A.quiver) (a b : IsListed n Y X) → a.member ≡ b.member
  listed_once X a b = elim (cases_eq a.member b.member) [
    | inl e ↦ e
    | inr d ↦ absurd (isomorphic_not_apart (record {
      forth = a.same.iso.inverse ≫ b.same.forth;
      iso = iso_compose a.same.iso.inverse b.same.forth (record { inverse = a.same.forth; right = a.same.iso.left; left = a.same.iso.right }) b.same.iso;
    }) (C.apart a.member b.member a.below b.below d))
  ]

-- The right half of an almost split sequence.
pub right_half : {q : Gf} {A : BoundQuiver} {L E M : Rep q A.quiver} (f : Hom L E) (g : Hom E M) → IsAlmostSplit A f g → IsRightAlmostSplit A g
right_half f g s = record { source_module = s.middle_module; target_module = s.right_module; not_split = s.not_split; lifts = s.lifts }
