-- Decompositions: joining orthogonal families, carrying them into a larger representation, refining a part, permuting the parts, going over an
-- isomorphism, and from direct sums and back.
use Rattle.std.proofs.Common.{ℕ, zero, suc, ◌+◌, ◌-◌, ◌<◌, ◌≤◌, ◌≡◌, ◌≢◌, cond, ltb, inl, inr, refl, sym, ap, ap₂, ◌∙◌, arith, subst, lt-ltb, le-ltb, not-suc-le-zero}
use Rattle.std.proofs.lemmas.Bool.{cases_lt, cases_eq, cond-true, cond-false}
use Rattle.linear_algebra.specs.Field.{Gf}
use Rattle.representations.specs.Quiver.{Quiver}
use Rattle.representations.specs.Rep.{Rep}
use Rattle.representations.specs.Hom.{Hom, ◌≫◌, identity, zero_hom, ◌⊕◌, sum_of}
use Rattle.representations.specs.Module.{IsIso, Summand, summand_of, Orthogonal, Biproduct}
use Rattle.representations.proofs.Homs.{compose_assoc, compose_identity, identity_compose, compose_zero, zero_compose, sum_zero, zero_sum, sum_assoc, compose_sum_of, sum_of_compose, sum_of-same}

-- Sums of families of homomorphisms.
module _ {q : Gf} {Q : Quiver} {X Y : Rep q Q} where
  pub sum_of-none : (f : ℕ → Hom X Y) → sum_of 0 f ≡ zero_hom X Y
  unfolding sum_of
  sum_of-none f = refl

  pub sum_of-suc : (k : ℕ) (f : ℕ → Hom X Y) → sum_of (suc k) f ≡ sum_of k f ⊕ f k
  unfolding sum_of
  sum_of-suc k f = refl

  pub sum_of-zeros : (k : ℕ) (f : ℕ → Hom X Y) → ((i : ℕ) → i < k → f i ≡ zero_hom X Y) → sum_of k f ≡ zero_hom X Y
  unfolding sum_of
  sum_of-zeros zero f h = refl
  sum_of-zeros (suc k) f h = ap₂ (λ a b. a ⊕ b) (sum_of-zeros k f (λ i l. h i (omega arith))) (h k (omega arith)) ∙ sum_zero (zero_hom X Y)

  pub sum_of-add : (j k : ℕ) (f : ℕ → Hom X Y) → sum_of (j + k) f ≡ sum_of j f ⊕ sum_of k (λ i. f (j + i))
  unfolding sum_of
  sum_of-add j zero f = let same : j + 0 ≡ j = omega arith in ap (λ n. sum_of n f) same ∙ sym (sum_zero (sum_of j f))
  sum_of-add j (suc k) f =
      let same : j + suc k ≡ suc (j + k) = omega arith in
      ap (λ n. sum_of n f) same ∙ ap (λ z. z ⊕ f (j + k)) (sum_of-add j k f) ∙ sum_assoc (sum_of j f) (sum_of k (λ i. f (j + i))) (f (j + k))

  pub sum_of-single : (k i : ℕ) (f : ℕ → Hom X Y) → i < k → ((j : ℕ) → j < k → j ≢ i → f j ≡ zero_hom X Y) → sum_of k f ≡ f i
  unfolding sum_of
  sum_of-single zero i f h z = absurd (not-suc-le-zero h)
  sum_of-single (suc k) i f h z = elim (cases_eq i k) [
    | inl last ↦ ap₂ (λ a b. a ⊕ b) (sum_of-zeros k f (λ j l. z j (omega arith) (omega arith))) (ap f (sym last)) ∙ zero_sum (f i)
    | inr other ↦ ap₂ (λ a b. a ⊕ b) (sum_of-single k i f (omega arith) (λ j l d. z j (omega arith) d)) (z k (omega arith) (λ e. other (sym e))) ∙ sum_zero (f i)
  ]

-- The idempotent of a summand.
pub idempotent : {q : Gf} {Q : Quiver} {X : Rep q Q} → Summand X → Hom X X
idempotent s = s.projection ≫ s.injection

-- The members of an orthogonal family and the sum of their idempotents.
module _ {q : Gf} {Q : Quiver} {X : Rep q Q} {e : Hom X X} (B : Orthogonal e) where
  pub idempotents_other : (i j : ℕ) → i < B.count → j < B.count → i ≢ j → idempotent (B.summand i) ≫ idempotent (B.summand j) ≡ zero_hom X X
  unfolding idempotent
  idempotents_other i j h k d =
      let s = B.summand i in
      let t = B.summand j in
      compose_assoc s.projection s.injection (t.projection ≫ t.injection)
      ∙ ap (λ z. s.projection ≫ z) (sym (compose_assoc s.injection t.projection t.injection) ∙ ap (λ z. z ≫ t.injection) (B.other i j h k d) ∙ zero_compose s.part t.injection)
      ∙ compose_zero s.projection X

  pub idempotent_again : (i : ℕ) → i < B.count → idempotent (B.summand i) ≫ idempotent (B.summand i) ≡ idempotent (B.summand i)
  unfolding idempotent
  idempotent_again i h =
      let s = B.summand i in
      compose_assoc s.projection s.injection (s.projection ≫ s.injection)
      ∙ ap (λ z. s.projection ≫ z) (sym (compose_assoc s.injection s.projection s.injection) ∙ ap (λ z. z ≫ s.injection) (B.same i h) ∙ identity_compose s.injection)

  pub sum_is : sum_of B.count (λ i. idempotent (B.summand i)) ≡ e
  unfolding idempotent
  sum_is = B.sum

  -- an injection, and then the sum; the sum, and then a projection
  pub injection_whole : (i : ℕ) → i < B.count → (B.summand i).injection ≫ e ≡ (B.summand i).injection
  injection_whole i h =
      let s = B.summand i in
      ap (λ z. s.injection ≫ z) (sym B.sum) ∙ compose_sum_of B.count s.injection (λ j. (B.summand j).projection ≫ (B.summand j).injection)
      ∙ sum_of-single B.count i (λ j. s.injection ≫ ((B.summand j).projection ≫ (B.summand j).injection)) h
      (λ j l d. sym (compose_assoc s.injection (B.summand j).projection (B.summand j).injection) ∙ ap (λ z. z ≫ (B.summand j).injection) (B.other i j h l (λ c. d (sym c))) ∙ zero_compose s.part (B.summand j).injection)
      ∙ sym (compose_assoc s.injection s.projection s.injection) ∙ ap (λ z. z ≫ s.injection) (B.same i h) ∙ identity_compose s.injection

  pub whole_projection : (i : ℕ) → i < B.count → e ≫ (B.summand i).projection ≡ (B.summand i).projection
  whole_projection i h =
      let s = B.summand i in
      ap (λ z. z ≫ s.projection) (sym B.sum) ∙ sum_of_compose B.count (λ j. (B.summand j).projection ≫ (B.summand j).injection) s.projection
      ∙ sum_of-single B.count i (λ j. (B.summand j).projection ≫ (B.summand j).injection ≫ s.projection) h
      (λ j l d. compose_assoc (B.summand j).projection (B.summand j).injection s.projection ∙ ap (λ z. (B.summand j).projection ≫ z) (B.other j i l h d) ∙ compose_zero (B.summand j).projection s.part)
      ∙ compose_assoc s.projection s.injection s.projection ∙ ap (λ z. s.projection ≫ z) (B.same i h) ∙ compose_identity s.projection

-- The same family, with its sum written otherwise.
unfoldable pub with_sum : {q : Gf} {Q : Quiver} {X : Rep q Q} {e d : Hom X X} → e ≡ d → Orthogonal e → Orthogonal d
with_sum h B = record { count = B.count; summand = B.summand; same = B.same; other = B.other; sum = B.sum ∙ h }

-- One summand is an orthogonal family, and so is none.
unfoldable pub no_parts : {q : Gf} {Q : Quiver} (X : Rep q Q) → Orthogonal (zero_hom X X)
no_parts X = record {
  count = 0;
  summand = λ i. record { part = X; injection = identity X; projection = identity X };
  same = λ i h. absurd (not-suc-le-zero h);
  other = λ i j h k d. absurd (not-suc-le-zero h);
  sum = sum_of-none (λ i. identity X ≫ identity X);
}

unfoldable pub one_part : {q : Gf} {Q : Quiver} {X : Rep q Q} (s : Summand X) → s.injection ≫ s.projection ≡ identity s.part → Orthogonal (s.projection ≫ s.injection)
one_part {X = X} s e = record {
  count = 1;
  summand = λ i. s;
  same = λ i h. e;
  other = λ i j h k d. absurd (d (omega arith));
  sum = sum_of-suc 0 (λ i. s.projection ≫ s.injection) ∙ ap (λ z. z ⊕ s.projection ≫ s.injection) (sum_of-none (λ i. s.projection ≫ s.injection)) ∙ zero_sum (s.projection ≫ s.injection);
}

-- The first n members of one family, and then another.
joined : {q : Gf} {Q : Quiver} {X : Rep q Q} → ℕ → (ℕ → Summand X) → (ℕ → Summand X) → ℕ → Summand X
joined n S T j = cond (ltb j n) (S j) (T (j - n))

module _ {q : Gf} {Q : Quiver} {X : Rep q Q} (n : ℕ) (S T : ℕ → Summand X) where
  joined-first : (j : ℕ) → j < n → S j ≡ joined n S T j
  unfolding joined
  joined-first j h = sym (cond-true (ltb j n) (S j) (T (j - n)) (lt-ltb j n h))

  joined-second : (j : ℕ) → n ≤ j → T (j - n) ≡ joined n S T j
  unfolding joined
  joined-second j h = sym (cond-false (ltb j n) (S j) (T (j - n)) (le-ltb j n h))

-- Two orthogonal families whose sums annihilate one another, as one.
module _ {q : Gf} {Q : Quiver} {X : Rep q Q} {e d : Hom X X} (B : Orthogonal e) (C : Orthogonal d) where
  meets_zero : e ≫ d ≡ zero_hom X X → (i j : ℕ) → i < B.count → j < C.count → (B.summand i).injection ≫ (C.summand j).projection ≡ zero_hom (B.summand i).part (C.summand j).part
  meets_zero z i j h k =
      let s = B.summand i in
      let t = C.summand j in
      ap₂ (λ a b. a ≫ b) (sym (injection_whole B i h)) (sym (whole_projection C j k))
      ∙ compose_assoc s.injection e (d ≫ t.projection)
      ∙ ap (λ y. s.injection ≫ y) (sym (compose_assoc e d t.projection) ∙ ap (λ y. y ≫ t.projection) z ∙ zero_compose X t.projection)
      ∙ compose_zero s.injection t.part

pub join_parts : {q : Gf} {Q : Quiver} {X : Rep q Q} {e d : Hom X X} → Orthogonal e → Orthogonal d → e ≫ d ≡ zero_hom X X → d ≫ e ≡ zero_hom X X → Orthogonal (e ⊕ d)
join_parts {q} {Q} {X} {e} {d} B C y z = record {
  count = B.count + C.count;
  summand = both;
  same = same;
  other = other;
  sum =
      sum_of-add B.count C.count (λ i. (both i).projection ≫ (both i).injection)
      ∙ ap₂ (λ a b. a ⊕ b)
      (sum_of-same B.count _ _ (λ i h. ap (λ (s : Summand X). s.projection ≫ s.injection) (sym (joined-first B.count B.summand C.summand i h))) ∙ B.sum)
      (sum_of-same C.count _ _ (λ i h. ap (λ (s : Summand X). s.projection ≫ s.injection) (sym (second i))) ∙ C.sum);
}
  where
    both : ℕ → Summand X
    both = joined B.count B.summand C.summand

    second : (i : ℕ) → C.summand i ≡ both (B.count + i)
    second i = let same : i ≡ B.count + i - B.count = omega arith in ap C.summand same ∙ joined-second B.count B.summand C.summand (B.count + i) (omega arith)

    IsSame : Summand X → Type 0
    IsSame s = s.injection ≫ s.projection ≡ identity s.part

    IsOther : Summand X → Summand X → Type 0
    IsOther s t = s.injection ≫ t.projection ≡ zero_hom s.part t.part

    same : (i : ℕ) → i < B.count + C.count → IsSame (both i)
    same i h = elim (cases_lt i B.count) [
      | inl l ↦ subst IsSame (joined-first B.count B.summand C.summand i l) (B.same i l)
      | inr l ↦ subst IsSame (joined-second B.count B.summand C.summand i l) (C.same (i - B.count) (omega arith))
    ]

    other : (i j : ℕ) → i < B.count + C.count → j < B.count + C.count → i ≢ j → IsOther (both i) (both j)
    other i j h k n = elim (cases_lt i B.count) [
      | inl l ↦ subst (λ s. IsOther s (both j)) (joined-first B.count B.summand C.summand i l) (elim (cases_lt j B.count) [
        | inl m ↦ subst (IsOther (B.summand i)) (joined-first B.count B.summand C.summand j m) (B.other i j l m n)
        | inr m ↦ subst (IsOther (B.summand i)) (joined-second B.count B.summand C.summand j m) (meets_zero B C y i (j - B.count) l (omega arith))
      ])
      | inr l ↦ subst (λ s. IsOther s (both j)) (joined-second B.count B.summand C.summand i l) (elim (cases_lt j B.count) [
        | inl m ↦ subst (IsOther (C.summand (i - B.count))) (joined-first B.count B.summand C.summand j m) (meets_zero C B z (i - B.count) j (omega arith) m)
        | inr m ↦ subst (IsOther (C.summand (i - B.count))) (joined-second B.count B.summand C.summand j m) (C.other (i - B.count) (j - B.count) (omega arith) (omega arith) (λ c. n (omega arith)))
      ])
    ]

-- Summands of a summand.
pub carried : {q : Gf} {Q : Quiver} {X : Rep q Q} (s : Summand X) → s.injection ≫ s.projection ≡ identity s.part → {e : Hom s.part s.part} → Orthogonal e → Orthogonal (s.projection ≫ e ≫ s.injection)
carried {q} {Q} {X} s u {e} B = record {
  count = B.count;
  summand = λ i. record { part = (B.summand i).part; injection = (B.summand i).injection ≫ s.injection; projection = s.projection ≫ (B.summand i).projection };
  same = λ i h. inner (B.summand i).injection (B.summand i).projection ∙ B.same i h;
  other = λ i j h k d. inner (B.summand i).injection (B.summand j).projection ∙ B.other i j h k d;
  sum =
      sum_of-same B.count _ (λ i. s.projection ≫ ((B.summand i).projection ≫ (B.summand i).injection) ≫ s.injection) (λ i h. outer (B.summand i).projection (B.summand i).injection)
      ∙ sym (sum_of_compose B.count (λ i. s.projection ≫ ((B.summand i).projection ≫ (B.summand i).injection)) s.injection)
      ∙ ap (λ z. z ≫ s.injection) (sym (compose_sum_of B.count s.projection (λ i. (B.summand i).projection ≫ (B.summand i).injection)) ∙ ap (λ z. s.projection ≫ z) B.sum);
}
  where
    inner : {V W : Rep q Q} (f : Hom V s.part) (g : Hom s.part W) → f ≫ s.injection ≫ (s.projection ≫ g) ≡ f ≫ g
    inner f g =
        compose_assoc f s.injection (s.projection ≫ g)
        ∙ ap (λ z. f ≫ z) (sym (compose_assoc s.injection s.projection g) ∙ ap (λ z. z ≫ g) u ∙ identity_compose g)

    outer : {W : Rep q Q} (g : Hom s.part W) (f : Hom W s.part) → s.projection ≫ g ≫ (f ≫ s.injection) ≡ s.projection ≫ (g ≫ f) ≫ s.injection
    outer g f = compose_assoc s.projection g (f ≫ s.injection) ∙ ap (λ z. s.projection ≫ z) (sym (compose_assoc g f s.injection)) ∙ sym (compose_assoc s.projection (g ≫ f) s.injection)

pub carried-count : {q : Gf} {Q : Quiver} {X : Rep q Q} (s : Summand X) (u : s.injection ≫ s.projection ≡ identity s.part) {e : Hom s.part s.part} (B : Orthogonal e) → (carried s u B).count ≡ B.count
unfolding carried
carried-count s u B = refl

pub carried-part : {q : Gf} {Q : Quiver} {X : Rep q Q} (s : Summand X) (u : s.injection ≫ s.projection ≡ identity s.part) {e : Hom s.part s.part} (B : Orthogonal e) (j : ℕ) → ((carried s u B).summand j).part ≡ (B.summand j).part
unfolding carried
carried-part s u B j = refl

-- A decomposition goes over an isomorphism.
pub transported : {q : Gf} {Q : Quiver} {X Y : Rep q Q} (f : Hom X Y) → IsIso f → Biproduct X → Biproduct Y
transported {X = X} f i B =
    with_sum (ap (λ z. z ≫ f) (compose_identity i.inverse) ∙ i.left) (carried (record { part = X; injection = f; projection = i.inverse }) i.right B)

-- The first k parts, and the others.
pub first_parts : {q : Gf} {Q : Quiver} {X : Rep q Q} {e : Hom X X} (B : Orthogonal e) (k : ℕ) → k ≤ B.count → Orthogonal (sum_of k (λ i. idempotent (B.summand i)))
unfolding idempotent
first_parts B k h = record { count = k; summand = B.summand; same = λ i l. B.same i (omega arith); other = λ i j l m d. B.other i j (omega arith) (omega arith) d; sum = refl }

pub other_parts : {q : Gf} {Q : Quiver} {X : Rep q Q} {e : Hom X X} (B : Orthogonal e) (k : ℕ) → Orthogonal (sum_of (B.count - k) (λ i. idempotent (B.summand (k + i))))
unfolding idempotent
other_parts B k = record {
  count = B.count - k;
  summand = λ i. B.summand (k + i);
  same = λ i l. B.same (k + i) (omega arith);
  other = λ i j l m d. B.other (k + i) (k + j) (omega arith) (omega arith) (λ e. d (omega arith));
  sum = refl;
}

-- Sums of idempotents of different parts annihilate one another.
pub sums_apart : {q : Gf} {Q : Quiver} {X : Rep q Q} (m n : ℕ) (f g : ℕ → Hom X X) → ((i j : ℕ) → i < m → j < n → f i ≫ g j ≡ zero_hom X X) → sum_of m f ≫ sum_of n g ≡ zero_hom X X
sums_apart {X = X} m n f g h =
    sum_of_compose m f (sum_of n g)
    ∙ sum_of-zeros m (λ i. f i ≫ sum_of n g) (λ i l. compose_sum_of n (f i) g ∙ sum_of-zeros n (λ j. f i ≫ g j) (λ j k. h i j l k))

-- A part that is itself decomposed, in its place.
module _ {q : Gf} {Q : Quiver} {X : Rep q Q} {e : Hom X X} (B : Orthogonal e) (i : ℕ) (h : i < B.count) (C : Biproduct (B.summand i).part) where
  middle : Orthogonal (idempotent (B.summand i))
  unfolding idempotent
  middle = with_sum (ap (λ z. z ≫ (B.summand i).injection) (compose_identity (B.summand i).projection)) (carried (B.summand i) (B.same i h) C)

  before_sum : Hom X X
  before_sum = sum_of i (λ j. idempotent (B.summand j))

  after_sum : Hom X X
  after_sum = sum_of (B.count - suc i) (λ j. idempotent (B.summand (suc i + j)))

  up_to : Orthogonal (before_sum ⊕ idempotent (B.summand i))
  unfolding before_sum
  up_to = join_parts (first_parts B i (omega arith)) middle
      (sum_of_compose i (λ j. idempotent (B.summand j)) (idempotent (B.summand i))
      ∙ sum_of-zeros i _ (λ j l. idempotents_other B j i (omega arith) h (omega arith)))
      (compose_sum_of i (idempotent (B.summand i)) (λ j. idempotent (B.summand j))
      ∙ sum_of-zeros i _ (λ j l. idempotents_other B i j h (omega arith) (omega arith)))

  ahead : before_sum ⊕ idempotent (B.summand i) ≡ sum_of (suc i) (λ j. idempotent (B.summand j))
  unfolding before_sum
  ahead = sym (sum_of-suc i (λ j. idempotent (B.summand j)))

  pub refined : Orthogonal e
  unfolding after_sum
  refined = with_sum
      (sym (sum_of-add (suc i) (B.count - suc i) (λ j. idempotent (B.summand j))) ∙ (let same : suc i + (B.count - suc i) ≡ B.count = omega arith in ap (λ n. sum_of n (λ j. idempotent (B.summand j))) same) ∙ sum_is B)
      (join_parts (with_sum ahead up_to) (other_parts B (suc i))
      (sums_apart (suc i) (B.count - suc i) (λ j. idempotent (B.summand j)) (λ j. idempotent (B.summand (suc i + j))) (λ j k l m. idempotents_other B j (suc i + k) (omega arith) (omega arith) (omega arith)))
      (sums_apart (B.count - suc i) (suc i) (λ j. idempotent (B.summand (suc i + j))) (λ j. idempotent (B.summand j)) (λ j k l m. idempotents_other B (suc i + j) k (omega arith) (omega arith) (omega arith))))

-- The parts in another order.
module _ {q : Gf} {Q : Quiver} {X : Rep q Q} {e : Hom X X} (B : Orthogonal e) (s t : ℕ → ℕ)
    (s_below : (i : ℕ) → i < B.count → s i < B.count) (t_below : (i : ℕ) → i < B.count → t i < B.count)
    (s_t : (i : ℕ) → i < B.count → s (t i) ≡ i) (t_s : (i : ℕ) → i < B.count → t (s i) ≡ i) where
  apart : (i j : ℕ) → i < B.count → j < B.count → i ≢ j → s i ≢ s j
  apart i j h k d c = d (sym (t_s i h) ∙ ap t c ∙ t_s j k)

  reordered : Hom X X
  reordered = sum_of B.count (λ i. idempotent (B.summand (s i)))

  idempotent_reordered : (j : ℕ) → j < B.count → idempotent (B.summand j) ≫ reordered ≡ idempotent (B.summand j)
  unfolding reordered
  idempotent_reordered j h =
      compose_sum_of B.count (idempotent (B.summand j)) (λ i. idempotent (B.summand (s i)))
      ∙ sum_of-single B.count (t j) (λ i. idempotent (B.summand j) ≫ idempotent (B.summand (s i))) (t_below j h)
      (λ i l d. idempotents_other B j (s i) h (s_below i l) (λ c. d (sym (t_s i l) ∙ ap t (sym c))))
      ∙ ap (λ i. idempotent (B.summand j) ≫ idempotent (B.summand i)) (s_t j h) ∙ idempotent_again B j h

  whole_reordered : e ≫ reordered ≡ reordered
  unfolding reordered idempotent
  whole_reordered =
      compose_sum_of B.count e (λ i. idempotent (B.summand (s i)))
      ∙ sum_of-same B.count _ _ (λ i l. sym (compose_assoc e (B.summand (s i)).projection (B.summand (s i)).injection) ∙ ap (λ z. z ≫ (B.summand (s i)).injection) (whole_projection B (s i) (s_below i l)))

  same_sum : reordered ≡ e
  same_sum =
      sym whole_reordered ∙ ap (λ z. z ≫ reordered) (sym (sum_is B)) ∙ sum_of_compose B.count (λ i. idempotent (B.summand i)) reordered
      ∙ sum_of-same B.count _ _ (λ j l. idempotent_reordered j l) ∙ sum_is B

  pub permuted : Orthogonal e
  unfolding reordered idempotent
  permuted = record {
    count = B.count;
    summand = λ i. B.summand (s i);
    same = λ i h. B.same (s i) (s_below i h);
    other = λ i j h k d. B.other (s i) (s j) (s_below i h) (s_below j k) (apart i j h k d);
    sum = same_sum;
  }

-- What these constructions consist of.
pub join_parts-first : {q : Gf} {Q : Quiver} {X : Rep q Q} {e d : Hom X X} (B : Orthogonal e) (C : Orthogonal d) (y : e ≫ d ≡ zero_hom X X) (z : d ≫ e ≡ zero_hom X X) (j : ℕ) → j < B.count → (join_parts B C y z).summand j ≡ B.summand j
unfolding join_parts
join_parts-first B C y z j h = sym (joined-first B.count B.summand C.summand j h)

pub join_parts-second : {q : Gf} {Q : Quiver} {X : Rep q Q} {e d : Hom X X} (B : Orthogonal e) (C : Orthogonal d) (y : e ≫ d ≡ zero_hom X X) (z : d ≫ e ≡ zero_hom X X) (j : ℕ) → (join_parts B C y z).summand (B.count + j) ≡ C.summand j
unfolding join_parts
join_parts-second B C y z j =
    sym (joined-second B.count B.summand C.summand (B.count + j) (omega arith)) ∙ (let same : B.count + j - B.count ≡ j = omega arith in ap C.summand same)

pub join_parts-count : {q : Gf} {Q : Quiver} {X : Rep q Q} {e d : Hom X X} (B : Orthogonal e) (C : Orthogonal d) (y : e ≫ d ≡ zero_hom X X) (z : d ≫ e ≡ zero_hom X X) → (join_parts B C y z).count ≡ B.count + C.count
unfolding join_parts
join_parts-count B C y z = refl

module _ {q : Gf} {Q : Quiver} {X : Rep q Q} {e : Hom X X} (B : Orthogonal e) (i : ℕ) (h : i < B.count) (C : Biproduct (B.summand i).part) where
  pub refined-count : (refined B i h C).count ≡ i + C.count + (B.count - suc i)
  unfolding refined join_parts with_sum up_to middle carried first_parts other_parts
  refined-count = refl

  pub refined_before : (j : ℕ) → j < i → (refined B i h C).summand j ≡ B.summand j
  unfolding refined join_parts with_sum up_to middle carried first_parts other_parts
  refined_before j l =
      sym (joined-first (i + C.count) _ _ j (omega arith)) ∙ sym (joined-first i _ _ j l)

  pub refined_within : (j : ℕ) → j < C.count → (refined B i h C).summand (i + j) ≡ summand_of (B.summand i) (C.summand j)
  unfolding refined join_parts with_sum up_to middle carried first_parts other_parts
  refined_within j l =
      let same : i + j - i ≡ j = omega arith in
      sym (joined-first (i + C.count) _ _ (i + j) (omega arith)) ∙ sym (joined-second i _ _ (i + j) (omega arith)) ∙ ap (λ j. summand_of (B.summand i) (C.summand j)) same

  pub refined_after : (j : ℕ) → (refined B i h C).summand (i + C.count + j) ≡ B.summand (suc i + j)
  unfolding refined join_parts with_sum up_to middle carried first_parts other_parts
  refined_after j =
      let same : i + C.count + j - (i + C.count) ≡ j = omega arith in
      sym (joined-second (i + C.count) _ _ (i + C.count + j) (omega arith)) ∙ ap (λ j. B.summand (suc i + j)) same

pub transported-summand : {q : Gf} {Q : Quiver} {X Y : Rep q Q} (f : Hom X Y) (i : IsIso f) (B : Biproduct X) (j : ℕ) → (transported f i B).summand j ≡ summand_of (record { part = X; injection = f; projection = i.inverse }) (B.summand j)
unfolding transported with_sum carried
transported-summand f i B j = refl

pub transported-count : {q : Gf} {Q : Quiver} {X Y : Rep q Q} (f : Hom X Y) (i : IsIso f) (B : Biproduct X) → (transported f i B).count ≡ B.count
unfolding transported with_sum carried
transported-count f i B = refl

module _ {q : Gf} {Q : Quiver} {X : Rep q Q} {e : Hom X X} (B : Orthogonal e) (s t : ℕ → ℕ)
    (s_below : (i : ℕ) → i < B.count → s i < B.count) (t_below : (i : ℕ) → i < B.count → t i < B.count)
    (s_t : (i : ℕ) → i < B.count → s (t i) ≡ i) (t_s : (i : ℕ) → i < B.count → t (s i) ≡ i) where
  pub permuted-count : (permuted B s t s_below t_below s_t t_s).count ≡ B.count
  unfolding permuted
  permuted-count = refl

  pub permuted-summand : (j : ℕ) → (permuted B s t s_below t_below s_t t_s).summand j ≡ B.summand (s j)
  unfolding permuted
  permuted-summand j = refl
