-- Modules as sums of two parts, and the exchange of parts: where a second part of one splitting goes isomorphically to the second part of another,
-- the first parts are isomorphic.
use Rattle.std.proofs.Common.{◌≡◌, sym, ap, ap₂, ◌∙◌}
use Rattle.linear_algebra.specs.Field.{Gf}
use Rattle.representations.specs.Quiver.{Quiver}
use Rattle.representations.specs.Rep.{Rep}
use Rattle.representations.specs.Hom.{Hom, ◌≫◌, ◌⊕◌, identity, zero_hom, negative_hom}
use Rattle.representations.specs.Module.{IsIso}
use Rattle.representations.specs.Sum.{sum_rep, into_first, into_second, onto_first, onto_second}
use Rattle.representations.proofs.Homs.{compose_assoc, compose_identity, identity_compose, sum_assoc, sum_zero, zero_sum, negative_add_hom, compose_sum, sum_compose, compose_negative, negative_compose}
use Rattle.representations.proofs.Sums.{first_first, second_second, first_second, second_first, whole_sum}
use Rattle.local_modules.specs.Isomorphic.{Isomorphic}

module _ {q : Gf} {Q : Quiver} where
  -- A is the sum of B and X
  pub record TwoParts (A B X : Rep q Q) : Type 0 where
    pub in_first : Hom B A
    pub out_first : Hom A B
    pub in_second : Hom X A
    pub out_second : Hom A X
    pub first : in_first ≫ out_first ≡ identity B
    pub second : in_second ≫ out_second ≡ identity X
    pub first_second : in_first ≫ out_second ≡ zero_hom B X
    pub second_first : in_second ≫ out_first ≡ zero_hom X B
    pub whole : out_first ≫ in_first ⊕ out_second ≫ in_second ≡ identity A

  pub of_sum : (B X : Rep q Q) → TwoParts (sum_rep B X) B X
  of_sum B X = record {
    in_first = into_first B X;
    out_first = onto_first B X;
    in_second = into_second B X;
    out_second = onto_second B X;
    first = first_first B X;
    second = second_second B X;
    first_second = Rattle.representations.proofs.Sums.first_second B X;
    second_first = Rattle.representations.proofs.Sums.second_first B X;
    whole = whole_sum B X;
  }

  -- along an isomorphism
  unfoldable pub transported_parts : {A A' B X : Rep q Q} (f : Hom A A') → IsIso f → TwoParts A B X → TwoParts A' B X
  transported_parts {A} {A'} {B} {X} f i p = record {
    in_first = p.in_first ≫ f;
    out_first = i.inverse ≫ p.out_first;
    in_second = p.in_second ≫ f;
    out_second = i.inverse ≫ p.out_second;
    first = across p.in_first p.out_first ∙ p.first;
    second = across p.in_second p.out_second ∙ p.second;
    first_second = across p.in_first p.out_second ∙ p.first_second;
    second_first = across p.in_second p.out_first ∙ p.second_first;
    whole = ap₂ (λ a b. a ⊕ b) (around p.out_first p.in_first) (around p.out_second p.in_second)
        ∙ sym (compose_sum i.inverse ((p.out_first ≫ p.in_first) ≫ f) ((p.out_second ≫ p.in_second) ≫ f))
        ∙ ap (λ z. i.inverse ≫ z) (sym (sum_compose (p.out_first ≫ p.in_first) (p.out_second ≫ p.in_second) f) ∙ ap (λ z. z ≫ f) p.whole ∙ identity_compose f) ∙ i.left;
  }
    where
      across : {Y Z : Rep q Q} (g : Hom Y A) (h : Hom A Z) → (g ≫ f) ≫ (i.inverse ≫ h) ≡ g ≫ h
      across g h = compose_assoc g f (i.inverse ≫ h) ∙ ap (λ z. g ≫ z) (sym (compose_assoc f i.inverse h) ∙ ap (λ z. z ≫ h) i.right ∙ identity_compose h)

      around : {Y : Rep q Q} (h : Hom A Y) (g : Hom Y A) → (i.inverse ≫ h) ≫ (g ≫ f) ≡ i.inverse ≫ ((h ≫ g) ≫ f)
      around h g = compose_assoc i.inverse h (g ≫ f) ∙ ap (λ z. i.inverse ≫ z) (sym (compose_assoc h g f))

  -- what is c added to zero
  cancel_left : {X Y : Rep q Q} (c d : Hom X Y) → c ⊕ d ≡ zero_hom X Y → d ≡ negative_hom c
  cancel_left {X} {Y} c d e = sym (zero_sum d) ∙ ap (λ z. z ⊕ d) (sym (negative_add_hom c)) ∙ sum_assoc (negative_hom c) c d ∙ ap (λ z. negative_hom c ⊕ z) e ∙ sum_zero (negative_hom c)

  -- The exchange: u is the component from B to C less what goes through the second parts.
  module _ {A B C X Y : Rep q Q} (s : TwoParts A B X) (t : TwoParts A C Y) (i : IsIso (s.in_second ≫ t.out_second)) where
    a : Hom B C
    a = s.in_first ≫ t.out_first

    b : Hom B Y
    b = s.in_first ≫ t.out_second

    c : Hom X C
    c = s.in_second ≫ t.out_first

    p : Hom X Y
    p = s.in_second ≫ t.out_second

    a' : Hom C B
    a' = t.in_first ≫ s.out_first

    b' : Hom C X
    b' = t.in_first ≫ s.out_second

    c' : Hom Y B
    c' = t.in_second ≫ s.out_first

    u : Hom B C
    u = a ⊕ negative_hom (b ≫ (i.inverse ≫ c))

    -- what goes from Z to W through the two parts of a splitting
    through : {Z W D E : Rep q Q} (r : TwoParts A D E) (f : Hom Z A) (g : Hom A W) → (f ≫ r.out_first) ≫ (r.in_first ≫ g) ⊕ (f ≫ r.out_second) ≫ (r.in_second ≫ g) ≡ f ≫ g
    through r f g =
        ap₂ (λ x y. x ⊕ y) (regroup f r.out_first r.in_first g) (regroup f r.out_second r.in_second g)
        ∙ sym (sum_compose (f ≫ (r.out_first ≫ r.in_first)) (f ≫ (r.out_second ≫ r.in_second)) g)
        ∙ ap (λ z. z ≫ g) (sym (compose_sum f (r.out_first ≫ r.in_first) (r.out_second ≫ r.in_second)) ∙ ap (λ z. f ≫ z) r.whole ∙ compose_identity f)
      where
        regroup : {Z V W : Rep q Q} (f : Hom Z A) (x : Hom A V) (y : Hom V A) (g : Hom A W) → (f ≫ x) ≫ (y ≫ g) ≡ (f ≫ (x ≫ y)) ≫ g
        regroup f x y g = sym (compose_assoc (f ≫ x) y g) ∙ ap (λ z. z ≫ g) (compose_assoc f x y)

    c'_is : c' ≡ negative_hom (i.inverse ≫ (c ≫ a'))
    unfolding c' c p a'
    c'_is =
        sym (identity_compose (t.in_second ≫ s.out_first)) ∙ ap (λ z. z ≫ (t.in_second ≫ s.out_first)) (sym i.left)
        ∙ compose_assoc i.inverse (s.in_second ≫ t.out_second) (t.in_second ≫ s.out_first)
        ∙ ap (λ z. i.inverse ≫ z) (cancel_left ((s.in_second ≫ t.out_first) ≫ (t.in_first ≫ s.out_first)) ((s.in_second ≫ t.out_second) ≫ (t.in_second ≫ s.out_first))
        (through t s.in_second s.out_first ∙ s.second_first))
        ∙ compose_negative i.inverse ((s.in_second ≫ t.out_first) ≫ (t.in_first ≫ s.out_first))

    b'_is : b' ≡ negative_hom ((a' ≫ b) ≫ i.inverse)
    unfolding b' b p a'
    b'_is =
        sym (compose_identity (t.in_first ≫ s.out_second)) ∙ ap (λ z. (t.in_first ≫ s.out_second) ≫ z) (sym i.right)
        ∙ sym (compose_assoc (t.in_first ≫ s.out_second) (s.in_second ≫ t.out_second) i.inverse)
        ∙ ap (λ z. z ≫ i.inverse) (cancel_left ((t.in_first ≫ s.out_first) ≫ (s.in_first ≫ t.out_second)) ((t.in_first ≫ s.out_second) ≫ (s.in_second ≫ t.out_second))
        (through s t.in_first t.out_second ∙ t.first_second))
        ∙ negative_compose ((t.in_first ≫ s.out_first) ≫ (s.in_first ≫ t.out_second)) i.inverse

    u_a' : u ≫ a' ≡ identity B
    unfolding u a a' b c'
    u_a' =
        sum_compose a (negative_hom (b ≫ (i.inverse ≫ c))) a'
        ∙ ap (λ z. a ≫ a' ⊕ z) (negative_compose (b ≫ (i.inverse ≫ c)) a' ∙ ap negative_hom (compose_assoc b (i.inverse ≫ c) a' ∙ ap (λ z. b ≫ z) (compose_assoc i.inverse c a'))
        ∙ sym (compose_negative b (i.inverse ≫ (c ≫ a'))) ∙ ap (λ z. b ≫ z) (sym c'_is))
        ∙ whole_b
      where
        whole_b : a ≫ a' ⊕ b ≫ c' ≡ identity B
        whole_b = through t s.in_first s.out_first ∙ s.first

    a'_u : a' ≫ u ≡ identity C
    unfolding u a a' b' c
    a'_u =
        compose_sum a' a (negative_hom (b ≫ (i.inverse ≫ c)))
        ∙ ap (λ z. a' ≫ a ⊕ z) (compose_negative a' (b ≫ (i.inverse ≫ c)) ∙ ap negative_hom (sym (compose_assoc a' b (i.inverse ≫ c)) ∙ sym (compose_assoc (a' ≫ b) i.inverse c))
        ∙ sym (negative_compose ((a' ≫ b) ≫ i.inverse) c) ∙ ap (λ z. z ≫ c) (sym b'_is))
        ∙ whole_c
      where
        whole_c : a' ≫ a ⊕ b' ≫ c ≡ identity C
        whole_c = through s t.in_first t.out_first ∙ t.first

    pub exchanged : Isomorphic B C
    exchanged = record { forth = u; iso = record { inverse = a'; right = u_a'; left = a'_u } }
