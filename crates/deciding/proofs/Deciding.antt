-- Deciding: what holds or fails, and whether one of finitely many things has a property.
use Rattle.std.proofs.Common.{◌≡◌, ℕ, ◌<◌, ◌≤◌, zero, suc, List, [], ◌∷◌, ◌++◌, map, length, All, IsTrue, Bool, true, false, ◌⊎◌, inl, inr, refl, sym, subst, true≢false, arith}
use Rattle.std.specs.Prelude.{AllPairs, Contains}
use Rattle.std.specs.List.{flat_map, range_with_len}
use Rattle.std.proofs.lemmas.Bool.{cases_lt, cases_eq}
use Rattle.std.proofs.lemmas.List.Elements.{All-nil, All-cons, All-head, All-tail, Contains-append_left, Contains-append_right}
use Rattle.quiver_paths.proofs.ListLemmas.{Contains-head, Contains-behind, Contains-cons_cases, Contains-nil, Contains-map, Contains-flat_map, Contains-range}
use Rattle.std.proofs.lemmas.List.Kept.{AllPairs-cons}

-- it holds, or it fails
abbrev pub Decided : Type 0 → Type 0
Decided P = P ⊎ (P → ⊥)

pub both : {P Q : Type 0} → Decided P → Decided Q → Decided (P × Q)
both (inl p) (inl q) = inl (p, q)
both (inl p) (inr q) = inr (λ h. q h.1)
both (inr p) q = inr (λ h. p h.0)

pub like : {P Q : Type 0} → (P → Q) → (Q → P) → Decided P → Decided Q
like f g (inl p) = inl (f p)
like f g (inr p) = inr (λ q. p (g q))

pub three : {P Q R : Type 0} → Decided P → Decided Q → Decided R → Decided (P × Q × R)
three p q r = like (λ h. (h.0, h.1.0, h.1.1)) (λ k. (k.0, (k.1, k.2))) (both p (both q r))

pub four : {P Q R S : Type 0} → Decided P → Decided Q → Decided R → Decided S → Decided (P × Q × R × S)
four p q r s = like (λ h. (h.0, h.1.0, h.1.1, h.1.2)) (λ k. (k.0, (k.1, k.2, k.3))) (both p (three q r s))

pub five : {P Q R S T : Type 0} → Decided P → Decided Q → Decided R → Decided S → Decided T → Decided (P × Q × R × S × T)
five p q r s t = like (λ h. (h.0, h.1.0, h.1.1, h.1.2, h.1.3)) (λ k. (k.0, (k.1, k.2, k.3, k.4))) (both p (four q r s t))

pub fails : {P : Type 0} → Decided P → Decided (P → ⊥)
fails (inl p) = inr (λ h. h p)
fails (inr p) = inl p

pub if_so : {P Q : Type 0} → Decided P → Decided Q → Decided (P → Q)
if_so p (inl q) = inl (λ h. q)
if_so (inl p) (inr q) = inr (λ f. q (f p))
if_so (inr p) (inr q) = inl (λ h. absurd (p h))

pub tested : (b : Bool) → Decided (IsTrue b)
tested true = inl refl
tested false = inr (λ h. true≢false (sym h))

pub below : (m n : ℕ) → Decided (m < n)
below m n =
    elim (cases_lt m n) [
      | inl l ↦ inl l
      | inr l ↦ inr (λ h. absurd (omega (arith, l, h)))
    ]

pub at_most : (m n : ℕ) → Decided (m ≤ n)
at_most m n =
    elim (cases_lt n m) [
      | inl l ↦ inr (λ h. absurd (omega (arith, l, h)))
      | inr l ↦ inl l
    ]

cons_head : {X : Type 0} (x y : X) (xs ys : List X) → x ∷ xs ≡ y ∷ ys → x ≡ y
cons_head x y xs ys e = cc

cons_tail : {X : Type 0} (x y : X) (xs ys : List X) → x ∷ xs ≡ y ∷ ys → xs ≡ ys
cons_tail x y xs ys e = cc

cons_same : {X : Type 0} (x y : X) (xs ys : List X) → x ≡ y → xs ≡ ys → x ∷ xs ≡ y ∷ ys
cons_same x y xs ys e f = cc

cons_not_nil : {X : Type 0} (x : X) (xs : List X) → x ∷ xs ≡ [] → ⊥
cons_not_nil x xs e = cc

same_items : {X : Type 0} → ((x y : X) → Decided (x ≡ y)) → (xs ys : List X) → Decided (xs ≡ ys)
same_items each [] [] = inl refl
same_items each [] (y ∷ ys) = inr (λ e. cons_not_nil y ys (sym e))
same_items each (x ∷ xs) [] = inr (λ e. cons_not_nil x xs e)
same_items each (x ∷ xs) (y ∷ ys) = like (λ h. cons_same x y xs ys h.0 h.1) (λ e. (cons_head x y xs ys e, cons_tail x y xs ys e)) (both (each x y) (same_items each xs ys))

pub same_numbers : (xs ys : List ℕ) → Decided (xs ≡ ys)
same_numbers xs ys = same_items cases_eq xs ys

pub same_tokens : (xs ys : List (List ℕ)) → Decided (xs ≡ ys)
same_tokens xs ys = same_items same_numbers xs ys

pub of_each : {X : Type 0} (P : X → Type 0) → ((x : X) → Decided (P x)) → (xs : List X) → Decided (All P xs)
of_each P each [] = inl (All-nil P)
of_each P each (x ∷ xs) = like (λ h. All-cons P x xs h.0 h.1) (λ h. (All-head P x xs h, All-tail P x xs h)) (both (each x) (of_each P each xs))

pairs_head : {X : Type 0} (R : X → X → Type 0) (x : X) (xs : List X) → AllPairs R (x ∷ xs) → All (R x) xs
pairs_head R x xs h = λ k d less. h 0 (suc k) d (omega arith) (omega (arith, less))

pairs_tail : {X : Type 0} (R : X → X → Type 0) (x : X) (xs : List X) → AllPairs R (x ∷ xs) → AllPairs R xs
pairs_tail R x xs h = λ i j d a b. h (suc i) (suc j) d (omega (arith, a)) (omega (arith, b))

pub of_pairs : {X : Type 0} (R : X → X → Type 0) → ((x y : X) → Decided (R x y)) → (xs : List X) → Decided (AllPairs R xs)
of_pairs R each [] = inl (λ i j d a b. absurd (omega (arith, b)))
of_pairs R each (x ∷ xs) =
    like (λ h. AllPairs-cons R x xs h.0 h.1) (λ h. (pairs_head R x xs h, pairs_tail R x xs h))
    (both (of_each (R x) (each x) xs) (of_pairs R each xs))

-- ---- one of finitely many

-- one of the list has the property, or none has
some_of : {X : Type 0} (P : X → Type 0) → ((x : X) → Decided (P x)) → (xs : List X) → Decided ((x : X) × Contains xs x × P x)
some_of P each [] = inr (λ h. Contains-nil h.0 h.1)
some_of P each (x ∷ xs) = some_more P x xs (each x) (some_of P each xs)
  where
    some_more : {X : Type 0} (P : X → Type 0) (x : X) (xs : List X) → Decided (P x) → Decided ((y : X) × Contains xs y × P y) → Decided ((y : X) × Contains (x ∷ xs) y × P y)
    some_more P x xs (inl p) rest = inl (x, Contains-head x xs, p)
    some_more P x xs (inr not_first) (inl h) = inl (h.0, Contains-behind x xs h.0 h.1, h.2)
    some_more P x xs (inr not_first) (inr none) = inr (λ h. elim (Contains-cons_cases x xs h.0 h.1) [
      | inl e ↦ not_first (subst P (sym e) h.2)
      | inr inside ↦ none (h.0, inside, h.2)
    ])

-- all that are so are in a list
pub record IsListed {X : Type 0} (C : X → Type 0) : Type 0 where
  pub items : List X
  pub all : (x : X) → C x → Contains items x

-- where all that have the property are in a list, one has it, or none has
pub found : {X : Type 0} (C P : X → Type 0) → IsListed C → ((x : X) → P x → C x) → ((x : X) → Decided (P x)) → Decided ((x : X) × P x)
found C P listed are each = like (λ h. (h.0, h.2)) (λ h. (h.0, listed.all h.0 (are h.0 h.1), h.1)) (some_of P each listed.items)

pub fewer : {X : Type 0} (C D : X → Type 0) → ((x : X) → C x → D x) → IsListed D → IsListed C
fewer C D are listed = record { items = listed.items; all = λ x is. listed.all x (are x is) }

pub just : {X : Type 0} (y : X) → IsListed (λ (x : X). x ≡ y)
just y = record { items = y ∷ []; all = λ x e. subst (Contains (y ∷ [])) (sym e) (Contains-head y []) }

pub either : {X : Type 0} {C D : X → Type 0} → IsListed C → IsListed D → IsListed (λ (x : X). C x ⊎ D x)
either c d = record {
  items = c.items ++ d.items;
  all = λ x is. elim is [ inl a ↦ Contains-append_left c.items d.items x (c.all x a) | inr b ↦ Contains-append_right c.items d.items x (d.all x b) ];
}

-- the images of what is listed
pub images : {X Y : Type 0} {C : X → Type 0} (f : X → Y) → IsListed C → IsListed (λ (y : Y). (x : X) × C x × (f x ≡ y))
images f listed = record { items = map f listed.items; all = λ y is. subst (Contains (map f listed.items)) is.2 (Contains-map f listed.items is.0 (listed.all is.0 is.1)) }

pub pairs : {X Y : Type 0} {C : X → Type 0} {D : Y → Type 0} → IsListed C → IsListed D → IsListed (λ (z : X × Y). C z.0 × D z.1)
pairs {X} {Y} c d = record { items = flat_map row c.items; all = λ z is. Contains-flat_map row c.items z.0 z (c.all z.0 is.0) (Contains-map (λ (y : Y). (z.0, y)) d.items z.1 (d.all z.1 is.1)) }
  where
    row : X → List (X × Y)
    row x = map (λ (y : Y). (x, y)) d.items

numbers : ℕ → List ℕ
numbers n = range_with_len 0 n

pub numbers_below : (n : ℕ) → IsListed (λ (k : ℕ). k < n)
unfolding numbers
numbers_below n = record { items = numbers n; all = λ k less. Contains-range n k less }

-- lists of at most n items
pub lists_to : {X : Type 0} (C : X → Type 0) → IsListed C → (n : ℕ) → IsListed (λ (xs : List X). (length xs ≤ n) × All C xs)
lists_to {X} C listed zero = fewer (λ (xs : List X). (length xs ≤ 0) × All C xs) (λ (xs : List X). xs ≡ []) (λ xs is. none xs is.0) (just [])
  where
    none : {X : Type 0} (xs : List X) → length xs ≤ 0 → xs ≡ []
    none [] h = refl
    none (x ∷ xs) h = absurd (omega (arith, h))
lists_to {X} C listed (suc n) =
    fewer (λ (xs : List X). (length xs ≤ suc n) × All C xs) (λ (xs : List X). (xs ≡ []) ⊎ ((z : X × List X) × (C z.0 × ((length z.1 ≤ n) × All C z.1)) × (z.0 ∷ z.1 ≡ xs)))
    (λ xs is. by_first C n xs is.0 is.1)
    (either (just []) (images (λ (z : X × List X). z.0 ∷ z.1) (pairs listed (lists_to C listed n))))
  where
    by_first : {X : Type 0} (C : X → Type 0) (n : ℕ) (xs : List X) → length xs ≤ suc n → All C xs
        → (xs ≡ []) ⊎ ((z : X × List X) × (C z.0 × ((length z.1 ≤ n) × All C z.1)) × (z.0 ∷ z.1 ≡ xs))
    by_first C n [] few all = inl refl
    by_first C n (x ∷ xs) few all = inr ((x, xs), (All-head C x xs all, (omega (arith, few), All-tail C x xs all)), refl)
