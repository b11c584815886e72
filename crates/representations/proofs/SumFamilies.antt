-- A sum of a family: homomorphisms out of it and into it, its decomposition, and that each decomposition makes it isomorphic to such a sum.
use Rattle.std.proofs.Common.{ℕ, zero, suc, ◌+◌, ◌<◌, ◌≡◌, ◌≢◌, inl, inr, refl, sym, ap, ap₂, ◌∙◌, arith, not-suc-le-zero}
use Rattle.std.proofs.lemmas.Bool.{cases_eq}
use Rattle.linear_algebra.specs.Field.{Gf}
use Rattle.linear_algebra.proofs.Blocks.{no_rows}
use Rattle.representations.specs.Quiver.{Quiver}
use Rattle.representations.specs.Rep.{Rep}
use Rattle.representations.specs.Hom.{Hom, Hom-eq, ◌≫◌, identity, zero_hom, ◌⊕◌, sum_of}
use Rattle.representations.specs.Module.{IsIso, Summand, Orthogonal, Biproduct}
use Rattle.representations.specs.Sum.{zero_rep, sum_rep, sum_family, into_first, into_second, onto_first, onto_second, from_sum, into_sum}
use Rattle.representations.proofs.Homs.{compose_assoc, compose_identity, identity_compose, compose_zero, zero_compose, sum_zero, zero_sum, compose_sum, sum_compose}
use Rattle.representations.proofs.Sums.{first_first, second_second, first_second, second_first, whole_sum, first_from_sum, second_from_sum, from_sum_unique, from_sum_by_parts, into_sum_by_parts}
use Rattle.representations.proofs.Biproducts.{join_parts-count, join_parts-first, join_parts-second, carried-count, carried-part, no_parts, one_part, join_parts, carried, with_sum}

-- Homomorphisms out of a sum of a family, and into it.
unfoldable pub from_family : {q : Gf} {Q : Quiver} {Z : Rep q Q} (k : ℕ) (X : ℕ → Rep q Q) → ((i : ℕ) → Hom (X i) Z) → Hom (sum_family k X) Z
unfolding sum_family
from_family {q} {Q} {Z} zero X f = zero_hom (zero_rep q Q) Z
from_family (suc k) X f = from_sum (from_family k X f) (f k)

unfoldable pub into_family : {q : Gf} {Q : Quiver} {Z : Rep q Q} (k : ℕ) (X : ℕ → Rep q Q) → ((i : ℕ) → Hom Z (X i)) → Hom Z (sum_family k X)
unfolding sum_family
into_family {q} {Q} {Z} zero X f = zero_hom Z (zero_rep q Q)
into_family (suc k) X f = into_sum (into_family k X f) (f k)

module _ {q : Gf} {Q : Quiver} where
  -- Into a sum and out of it: the sum of what goes through the parts.
  sum_through : {U V X Y : Rep q Q} (f : Hom U X) (g : Hom U Y) (h : Hom X V) (k : Hom Y V) → into_sum f g ≫ from_sum h k ≡ f ≫ h ⊕ g ≫ k
  sum_through {U} {V} {X} {Y} f g h k =
      ap (λ z. z ≫ from_sum h k) (into_sum_by_parts f g) ∙ sum_compose (f ≫ into_first X Y) (g ≫ into_second X Y) (from_sum h k)
      ∙ ap₂ (λ a b. a ⊕ b)
      (compose_assoc f (into_first X Y) (from_sum h k) ∙ ap (λ z. f ≫ z) (first_from_sum h k))
      (compose_assoc g (into_second X Y) (from_sum h k) ∙ ap (λ z. g ≫ z) (second_from_sum h k))

  pub compose_into_sum : {U V X Y : Rep q Q} (h : Hom U V) (f : Hom V X) (g : Hom V Y) → h ≫ into_sum f g ≡ into_sum (h ≫ f) (h ≫ g)
  compose_into_sum {U} {V} {X} {Y} h f g =
      ap (λ z. h ≫ z) (into_sum_by_parts f g) ∙ compose_sum h (f ≫ into_first X Y) (g ≫ into_second X Y)
      ∙ ap₂ (λ a b. a ⊕ b) (sym (compose_assoc h f (into_first X Y))) (sym (compose_assoc h g (into_second X Y)))
      ∙ sym (into_sum_by_parts (h ≫ f) (h ≫ g))

  pub from_sum_compose : {U V X Y : Rep q Q} (f : Hom X U) (g : Hom Y U) (h : Hom U V) → from_sum f g ≫ h ≡ from_sum (f ≫ h) (g ≫ h)
  from_sum_compose {U} {V} {X} {Y} f g h =
      ap (λ z. z ≫ h) (from_sum_by_parts f g) ∙ sum_compose (onto_first X Y ≫ f) (onto_second X Y ≫ g) h
      ∙ ap₂ (λ a b. a ⊕ b) (compose_assoc (onto_first X Y) f h) (compose_assoc (onto_second X Y) g h)
      ∙ sym (from_sum_by_parts (f ≫ h) (g ≫ h))

  pub family_through : {U V : Rep q Q} (k : ℕ) (X : ℕ → Rep q Q) (f : (i : ℕ) → Hom U (X i)) (g : (i : ℕ) → Hom (X i) V) → into_family k X f ≫ from_family k X g ≡ sum_of k (λ i. f i ≫ g i)
  unfolding into_family from_family sum_family sum_of
  family_through {U} {V} zero X f g = compose_zero (zero_hom U (zero_rep q Q)) V
  family_through (suc k) X f g = sum_through (into_family k X f) (f k) (from_family k X g) (g k) ∙ ap (λ z. z ⊕ f k ≫ g k) (family_through k X f g)

  -- A homomorphism into the family after one out of another.
  pub compose_into_family : {U V : Rep q Q} (k : ℕ) (X : ℕ → Rep q Q) (h : Hom U V) (f : (i : ℕ) → Hom V (X i)) → h ≫ into_family k X f ≡ into_family k X (λ i. h ≫ f i)
  unfolding into_family sum_family
  compose_into_family {U} {V} zero X h f = compose_zero h (zero_rep q Q)
  compose_into_family (suc k) X h f = compose_into_sum h (into_family k X f) (f k) ∙ ap (λ z. into_sum z (h ≫ f k)) (compose_into_family k X h f)

  pub from_family_compose : {U V : Rep q Q} (k : ℕ) (X : ℕ → Rep q Q) (f : (i : ℕ) → Hom (X i) U) (h : Hom U V) → from_family k X f ≫ h ≡ from_family k X (λ i. f i ≫ h)
  unfolding from_family sum_family
  from_family_compose {U} {V} zero X f h = zero_compose (zero_rep q Q) h
  from_family_compose (suc k) X f h = from_sum_compose (from_family k X f) (f k) h ∙ ap (λ z. from_sum z (f k ≫ h)) (from_family_compose k X f h)

  pub from_family-same : {V : Rep q Q} (k : ℕ) (X : ℕ → Rep q Q) (f g : (i : ℕ) → Hom (X i) V) → ((i : ℕ) → i < k → f i ≡ g i) → from_family k X f ≡ from_family k X g
  unfolding from_family
  from_family-same zero X f g h = refl
  from_family-same (suc k) X f g h = ap₂ from_sum (from_family-same k X f g (λ i l. h i (omega arith))) (h k (omega arith))

  pub from_family-zeros : (V : Rep q Q) (k : ℕ) (X : ℕ → Rep q Q) → from_family k X (λ i. zero_hom (X i) V) ≡ zero_hom (sum_family k X) V
  unfolding from_family sum_family
  from_family-zeros V zero X = refl
  from_family-zeros V (suc k) X =
      ap (λ z. from_sum z (zero_hom (X k) V)) (from_family-zeros V k X) ∙ from_sum_by_parts (zero_hom (sum_family k X) V) (zero_hom (X k) V)
      ∙ ap₂ (λ a b. a ⊕ b) (compose_zero (onto_first (sum_family k X) (X k)) V) (compose_zero (onto_second (sum_family k X) (X k)) V)
      ∙ sum_zero (zero_hom (sum_rep (sum_family k X) (X k)) V)

  pub into_family-same : {U : Rep q Q} (k : ℕ) (X : ℕ → Rep q Q) (f g : (i : ℕ) → Hom U (X i)) → ((i : ℕ) → i < k → f i ≡ g i) → into_family k X f ≡ into_family k X g
  unfolding into_family
  into_family-same zero X f g h = refl
  into_family-same (suc k) X f g h = ap₂ into_sum (into_family-same k X f g (λ i l. h i (omega arith))) (h k (omega arith))

  pub into_family-zeros : (U : Rep q Q) (k : ℕ) (X : ℕ → Rep q Q) → into_family k X (λ i. zero_hom U (X i)) ≡ zero_hom U (sum_family k X)
  unfolding into_family sum_family
  into_family-zeros U zero X = refl
  into_family-zeros U (suc k) X =
      ap (λ z. into_sum z (zero_hom U (X k))) (into_family-zeros U k X) ∙ into_sum_by_parts (zero_hom U (sum_family k X)) (zero_hom U (X k))
      ∙ ap₂ (λ a b. a ⊕ b) (zero_compose U (into_first (sum_family k X) (X k))) (zero_compose U (into_second (sum_family k X) (X k)))
      ∙ sum_zero (zero_hom U (sum_rep (sum_family k X) (X k)))

  -- Out of a sum and back into it is the identity, where the parts are orthogonal to one another.
  sum_back : {P Y Z : Rep q Q} (a : Hom P Z) (b : Hom Y Z) (c : Hom Z P) (d : Hom Z Y) → a ≫ c ≡ identity P → a ≫ d ≡ zero_hom P Y → b ≫ c ≡ zero_hom Y P → b ≫ d ≡ identity Y
      → from_sum a b ≫ into_sum c d ≡ identity (sum_rep P Y)
  sum_back {P} {Y} {Z} a b c d s o p t =
      sym (from_sum_unique P Y (from_sum a b ≫ into_sum c d))
      ∙ ap₂ from_sum
      (sym (compose_assoc (into_first P Y) (from_sum a b) (into_sum c d)) ∙ ap (λ z. z ≫ into_sum c d) (first_from_sum a b)
      ∙ compose_into_sum a c d ∙ ap₂ into_sum s o ∙ into_sum_by_parts (identity P) (zero_hom P Y)
      ∙ ap₂ (λ x y. x ⊕ y) (identity_compose (into_first P Y)) (zero_compose P (into_second P Y)) ∙ sum_zero (into_first P Y))
      (sym (compose_assoc (into_second P Y) (from_sum a b) (into_sum c d)) ∙ ap (λ z. z ≫ into_sum c d) (second_from_sum a b)
      ∙ compose_into_sum b c d ∙ ap₂ into_sum p t ∙ into_sum_by_parts (zero_hom Y P) (identity Y)
      ∙ ap₂ (λ x y. x ⊕ y) (zero_compose Y (into_first P Y)) (identity_compose (into_second P Y)) ∙ zero_sum (into_second P Y))
      ∙ sym (ap₂ from_sum (compose_identity (into_first P Y)) (compose_identity (into_second P Y)))
      ∙ from_sum_unique P Y (identity (sum_rep P Y))

  pub family_back : {Z : Rep q Q} (k : ℕ) (X : ℕ → Rep q Q) (f : (i : ℕ) → Hom (X i) Z) (g : (i : ℕ) → Hom Z (X i))
      → ((i : ℕ) → i < k → f i ≫ g i ≡ identity (X i)) → ((i j : ℕ) → i < k → j < k → i ≢ j → f i ≫ g j ≡ zero_hom (X i) (X j))
      → from_family k X f ≫ into_family k X g ≡ identity (sum_family k X)
  unfolding from_family into_family sum_family
  family_back zero X f g s o = Hom-eq _ _ (λ v. no_rows _ _)
  family_back (suc k) X f g s o = sum_back (from_family k X f) (f k) (into_family k X g) (g k)
      (family_back k X f g (λ i l. s i (omega arith)) (λ i j l m d. o i j (omega arith) (omega arith) d))
      (from_family_compose k X f (g k) ∙ from_family-same k X (λ i. f i ≫ g k) (λ i. zero_hom (X i) (X k)) (λ i l. o i k (omega arith) (omega arith) (omega arith))
      ∙ from_family-zeros (X k) k X)
      (compose_into_family k X (f k) g ∙ into_family-same k X (λ i. f k ≫ g i) (λ i. zero_hom (X k) (X i)) (λ i l. o k i (omega arith) (omega arith) (omega arith))
      ∙ into_family-zeros (X k) k X)
      (s k (omega arith))

-- From a decomposition, the whole is isomorphic to the sum of its parts.
pub sum_of_parts : {q : Gf} {Q : Quiver} {Z : Rep q Q} (B : Biproduct Z) → IsIso (from_family B.count (λ i. (B.summand i).part) (λ i. (B.summand i).injection))
sum_of_parts B = record {
  inverse = into_family B.count (λ i. (B.summand i).part) (λ i. (B.summand i).projection);
  right = family_back B.count (λ i. (B.summand i).part) (λ i. (B.summand i).injection) (λ i. (B.summand i).projection) B.same B.other;
  left = family_through B.count (λ i. (B.summand i).part) (λ i. (B.summand i).projection) (λ i. (B.summand i).injection) ∙ B.sum;
}

-- The sum of a family, decomposed.
module _ {q : Gf} {Q : Quiver} (X Y : Rep q Q) where
  first_summand : Biproduct X → Orthogonal (onto_first X Y ≫ into_first X Y)
  first_summand B = with_sum (ap (λ z. z ≫ into_first X Y) (compose_identity (onto_first X Y)))
      (carried (record { part = X; injection = into_first X Y; projection = onto_first X Y }) (first_first X Y) B)

  apart_first : onto_first X Y ≫ into_first X Y ≫ (onto_second X Y ≫ into_second X Y) ≡ zero_hom (sum_rep X Y) (sum_rep X Y)
  apart_first =
      compose_assoc (onto_first X Y) (into_first X Y) (onto_second X Y ≫ into_second X Y)
      ∙ ap (λ z. onto_first X Y ≫ z) (sym (compose_assoc (into_first X Y) (onto_second X Y) (into_second X Y)) ∙ ap (λ z. z ≫ into_second X Y) (first_second X Y) ∙ zero_compose X (into_second X Y))
      ∙ compose_zero (onto_first X Y) (sum_rep X Y)

  apart_second : onto_second X Y ≫ into_second X Y ≫ (onto_first X Y ≫ into_first X Y) ≡ zero_hom (sum_rep X Y) (sum_rep X Y)
  apart_second =
      compose_assoc (onto_second X Y) (into_second X Y) (onto_first X Y ≫ into_first X Y)
      ∙ ap (λ z. onto_second X Y ≫ z) (sym (compose_assoc (into_second X Y) (onto_first X Y) (into_first X Y)) ∙ ap (λ z. z ≫ into_first X Y) (second_first X Y) ∙ zero_compose Y (into_first X Y))
      ∙ compose_zero (onto_second X Y) (sum_rep X Y)

  -- a decomposition of X, and Y
  pub and_part : Biproduct X → Biproduct (sum_rep X Y)
  and_part B = with_sum (whole_sum X Y)
      (join_parts (first_summand B) (one_part (record { part = Y; injection = into_second X Y; projection = onto_second X Y }) (second_second X Y)) apart_first apart_second)

pub family_parts : {q : Gf} {Q : Quiver} (k : ℕ) (X : ℕ → Rep q Q) → Biproduct (sum_family k X)
unfolding sum_family
family_parts {q} {Q} zero X = with_sum (Hom-eq _ _ (λ v. no_rows _ _)) (no_parts (zero_rep q Q))
family_parts (suc k) X = and_part (sum_family k X) (X k) (family_parts k X)

-- Its parts are those of X, and then Y.
module _ {q : Gf} {Q : Quiver} (X Y : Rep q Q) (B : Biproduct X) where
  upper_count : (first_summand X Y B).count ≡ B.count
  unfolding first_summand with_sum
  upper_count = carried-count (record { part = X; injection = into_first X Y; projection = onto_first X Y }) (first_first X Y) B

  pub and_part-count : (and_part X Y B).count ≡ B.count + 1
  unfolding and_part with_sum one_part
  and_part-count =
      join_parts-count (first_summand X Y B) (one_part (record { part = Y; injection = into_second X Y; projection = onto_second X Y }) (second_second X Y)) (apart_first X Y) (apart_second X Y)
      ∙ ap (λ n. n + 1) upper_count

  pub and_part-first : (j : ℕ) → j < B.count → ((and_part X Y B).summand j).part ≡ (B.summand j).part
  unfolding and_part with_sum first_summand
  and_part-first j h =
      ap (λ (s : Summand (sum_rep X Y)). s.part)
      (join_parts-first (first_summand X Y B) (one_part (record { part = Y; injection = into_second X Y; projection = onto_second X Y }) (second_second X Y)) (apart_first X Y) (apart_second X Y) j (omega (arith, upper_count)))
      ∙ carried-part (record { part = X; injection = into_first X Y; projection = onto_first X Y }) (first_first X Y) B j

  pub and_part-last : (j : ℕ) → j ≡ B.count → ((and_part X Y B).summand j).part ≡ Y
  unfolding and_part with_sum one_part
  and_part-last j e =
      let place : j ≡ (first_summand X Y B).count + 0 = omega (arith, upper_count) in
      ap (λ j. ((and_part X Y B).summand j).part) place
      ∙ ap (λ (s : Summand (sum_rep X Y)). s.part)
      (join_parts-second (first_summand X Y B) (one_part (record { part = Y; injection = into_second X Y; projection = onto_second X Y }) (second_second X Y)) (apart_first X Y) (apart_second X Y) 0)

pub family_parts-count : {q : Gf} {Q : Quiver} (k : ℕ) (X : ℕ → Rep q Q) → (family_parts k X).count ≡ k
unfolding family_parts with_sum no_parts
family_parts-count zero X = refl
family_parts-count (suc k) X = let one_more = and_part-count (sum_family k X) (X k) (family_parts k X) in let before = family_parts-count k X in omega arith

pub family_parts-part : {q : Gf} {Q : Quiver} (k : ℕ) (X : ℕ → Rep q Q) (i : ℕ) → i < k → ((family_parts k X).summand i).part ≡ X i
unfolding family_parts
family_parts-part zero X i h = absurd (not-suc-le-zero h)
family_parts-part (suc k) X i h = elim (cases_eq i k) [
  | inl e ↦ and_part-last (sum_family k X) (X k) (family_parts k X) i (e ∙ sym (family_parts-count k X)) ∙ ap X (sym e)
  | inr d ↦ and_part-first (sum_family k X) (X k) (family_parts k X) i (omega (arith, family_parts-count k X)) ∙ family_parts-part k X i (omega arith)
]
