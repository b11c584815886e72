-- Members of lists, and lists in which each two items stand in one relation.
use Rattle.std.proofs.Common.{ℕ, zero, suc, ◌+◌, ◌≡◌, ◌<◌, List, [], ◌∷◌, ◌++◌, length, map, filter, get_or, Bool, true, refl, sym, ap, ◌∙◌, ◌⊎◌, inl, inr, arith, subst}
use Rattle.std.specs.Prelude.{Contains, AllPairs}
use Rattle.std.specs.List.{flat_map, range_with_len}
use Rattle.std.proofs.lemmas.List.{length_push}
use Rattle.std.proofs.lemmas.List.Elements.{Contains-get_or, Contains-append_left, Contains-append_right, Contains-append_cases}
use Rattle.std.proofs.lemmas.List.FromFn.{length-range_with_len, get_or-range_with_len}
use Rattle.std.proofs.lemmas.Bool.{cases_Bool}

pub Contains-head : {X : Type 0} (x : X) (xs : List X) → Contains (x ∷ xs) x
Contains-head x xs = (0, omega arith, refl)

pub Contains-behind : {X : Type 0} (x : X) (xs : List X) (y : X) → Contains xs y → Contains (x ∷ xs) y
Contains-behind x xs y h = (suc h.0, omega arith, h.2)

pub Contains-cons_cases : {X : Type 0} (x : X) (xs : List X) (y : X) → Contains (x ∷ xs) y → (x ≡ y) ⊎ Contains xs y
Contains-cons_cases x xs y (zero, h, e) = inl e
Contains-cons_cases x xs y (suc k, h, e) = inr (k, omega arith, e)

pub Contains-nil : {X : Type 0} (x : X) → Contains [] x → ⊥
Contains-nil x h = omega arith

pub Contains-map : {X Y : Type 0} (f : X → Y) (xs : List X) (x : X) → Contains xs x → Contains (map f xs) (f x)
Contains-map f [] x h = absurd (Contains-nil x h)
Contains-map f (a ∷ xs) x h =
    elim (Contains-cons_cases a xs x h) [
      | inl e ↦ subst (λ y. Contains (map f (a ∷ xs)) (f y)) e (Contains-head (f a) (map f xs))
      | inr r ↦ Contains-behind (f a) (map f xs) (f x) (Contains-map f xs x r)
    ]

pub Contains-from_map : {X Y : Type 0} (f : X → Y) (xs : List X) (y : Y) → Contains (map f xs) y → (x : X) × Contains xs x × (f x ≡ y)
Contains-from_map f [] y h = absurd (Contains-nil y h)
Contains-from_map f (a ∷ xs) y h =
    elim (Contains-cons_cases (f a) (map f xs) y h) [
      | inl e ↦ (a, Contains-head a xs, e)
      | inr r ↦ let found = Contains-from_map f xs y r in (found.0, Contains-behind a xs found.0 found.1, found.2)
    ]

pub Contains-filter : {X : Type 0} (p : X → Bool) (xs : List X) (x : X) → Contains xs x → p x ≡ true → Contains (filter p xs) x
Contains-filter p [] x h t = absurd (Contains-nil x h)
Contains-filter p (a ∷ xs) x h t =
    elim (Contains-cons_cases a xs x h) [
      | inl e ↦
          let yes' : p a ≡ true = ap p e ∙ t in
          rw yes' (subst (λ y. Contains (a ∷ filter p xs) y) e (Contains-head a (filter p xs)))
      | inr r ↦
          elim (cases_Bool (p a)) [
            | inl yes' ↦ rw yes' (Contains-behind a (filter p xs) x (Contains-filter p xs x r t))
            | inr no' ↦ rw no' (Contains-filter p xs x r t)
          ]
    ]

pub Contains-from_filter : {X : Type 0} (p : X → Bool) (xs : List X) (x : X) → Contains (filter p xs) x → Contains xs x × (p x ≡ true)
Contains-from_filter p [] x h = absurd (Contains-nil x h)
Contains-from_filter p (a ∷ xs) x h =
    elim (cases_Bool (p a)) [
      | inl yes' ↦
          elim (Contains-cons_cases a (filter p xs) x (rw yes' at h)) [
            | inl e ↦ (subst (λ y. Contains (a ∷ xs) y) e (Contains-head a xs), ap p (sym e) ∙ yes')
            | inr r ↦ let rest = Contains-from_filter p xs x r in (Contains-behind a xs x rest.0, rest.1)
          ]
      | inr no' ↦ let rest = Contains-from_filter p xs x (rw no' at h) in (Contains-behind a xs x rest.0, rest.1)
    ]

pub Contains-flat_map : {X Y : Type 0} (f : X → List Y) (xs : List X) (x : X) (y : Y) → Contains xs x → Contains (f x) y → Contains (flat_map f xs) y
Contains-flat_map f [] x y h g = absurd (Contains-nil x h)
Contains-flat_map f (a ∷ xs) x y h g =
    elim (Contains-cons_cases a xs x h) [
      | inl e ↦ Contains-append_left (f a) (flat_map f xs) y (subst (λ z. Contains (f z) y) (sym e) g)
      | inr r ↦ Contains-append_right (f a) (flat_map f xs) y (Contains-flat_map f xs x y r g)
    ]

pub Contains-from_flat_map : {X Y : Type 0} (f : X → List Y) (xs : List X) (y : Y) → Contains (flat_map f xs) y → (x : X) × Contains xs x × Contains (f x) y
Contains-from_flat_map f [] y h = absurd (Contains-nil y h)
Contains-from_flat_map f (a ∷ xs) y h =
    elim (Contains-append_cases (f a) (flat_map f xs) y h) [
      | inl l ↦ (a, Contains-head a xs, l)
      | inr r ↦ let found = Contains-from_flat_map f xs y r in (found.0, Contains-behind a xs found.0 found.1, found.2)
    ]

pub Contains-range : (n k : ℕ) → k < n → Contains (range_with_len 0 n) k
Contains-range n k h = (k, rw length-range_with_len h, get_or-range_with_len 0 n k k h ∙ omega arith)

pub Contains-from_range : (n k : ℕ) → Contains (range_with_len 0 n) k → k < n
Contains-from_range n k (i, h, e) =
    let low : i < n = rw length-range_with_len at h in
    let same : get_or (range_with_len 0 n) i k ≡ 0 + i = get_or-range_with_len 0 n i k low in
    omega (arith, e, same)

-- ---- pairs

pub AllPairs-nil : {X : Type 0} (R : X → X → Type 0) → AllPairs R []
AllPairs-nil R i j d h g = absurd (omega arith)

pub AllPairs-front : {X : Type 0} (R : X → X → Type 0) (x : X) (xs : List X) → ((y : X) → Contains xs y → R x y) → AllPairs R xs → AllPairs R (x ∷ xs)
AllPairs-front R x xs f h i zero d l g = absurd (omega arith)
AllPairs-front R x xs f h zero (suc j) d l g = f (get_or xs j d) (Contains-get_or xs j d (omega arith))
AllPairs-front R x xs f h (suc i) (suc j) d l g = h i j d (omega arith) (omega arith)

pub AllPairs-head : {X : Type 0} (R : X → X → Type 0) (x : X) (xs : List X) → AllPairs R (x ∷ xs) → (y : X) → Contains xs y → R x y
AllPairs-head R x xs h y (k, l, e) = subst (R x) e (h 0 (suc k) y (omega arith) (omega arith))

pub AllPairs-tail : {X : Type 0} (R : X → X → Type 0) (x : X) (xs : List X) → AllPairs R (x ∷ xs) → AllPairs R xs
AllPairs-tail R x xs h i j d l g = h (suc i) (suc j) d (omega arith) (omega arith)

pub AllPairs-append : {X : Type 0} (R : X → X → Type 0) (xs ys : List X) → AllPairs R xs → AllPairs R ys → ((x y : X) → Contains xs x → Contains ys y → R x y) → AllPairs R (xs ++ ys)
AllPairs-append R [] ys h g c = g
AllPairs-append R (x ∷ xs) ys h g c =
    AllPairs-front R x (xs ++ ys)
    (λ y m. elim (Contains-append_cases xs ys y m) [ inl l ↦ AllPairs-head R x xs h y l | inr r ↦ c x y (Contains-head x xs) r ])
    (AllPairs-append R xs ys (AllPairs-tail R x xs h) g (λ a b m n. c a b (Contains-behind x xs a m) n))

pub AllPairs-map : {X Y : Type 0} (R : Y → Y → Type 0) (f : X → Y) (xs : List X) → AllPairs (λ a b. R (f a) (f b)) xs → AllPairs R (map f xs)
AllPairs-map R f [] h = AllPairs-nil R
AllPairs-map R f (x ∷ xs) h =
    AllPairs-front R (f x) (map f xs)
    (λ y m. let found = Contains-from_map f xs y m in subst (R (f x)) found.2 (AllPairs-head (λ a b. R (f a) (f b)) x xs h found.0 found.1))
    (AllPairs-map R f xs (AllPairs-tail (λ a b. R (f a) (f b)) x xs h))

-- a relation that holds of each two items that are members
pub AllPairs-members : {X : Type 0} (R S : X → X → Type 0) (xs : List X) → ((a b : X) → Contains xs a → Contains xs b → R a b → S a b) → AllPairs R xs → AllPairs S xs
AllPairs-members R S xs f h i j d l g =
    f (get_or xs i d) (get_or xs j d) (Contains-get_or xs i d (omega arith)) (Contains-get_or xs j d g) (h i j d l g)

pub AllPairs-sieve : {X : Type 0} (R : X → X → Type 0) (p : X → Bool) (xs : List X) → AllPairs R xs → AllPairs R (filter p xs)
AllPairs-sieve R p [] h = AllPairs-nil R
AllPairs-sieve R p (x ∷ xs) h =
    elim (cases_Bool (p x)) [
      | inl yes' ↦
          rw yes' (AllPairs-front R x (filter p xs)
          (λ y m. AllPairs-head R x xs h y (Contains-from_filter p xs y m).0)
          (AllPairs-sieve R p xs (AllPairs-tail R x xs h)))
      | inr no' ↦ rw no' (AllPairs-sieve R p xs (AllPairs-tail R x xs h))
    ]

pub AllPairs-flat_map : {X Y : Type 0} (S : X → X → Type 0) (R : Y → Y → Type 0) (f : X → List Y) (xs : List X) → AllPairs S xs → ((x : X) → Contains xs x → AllPairs R (f x)) → ((x x' : X) → S x x' → (y y' : Y) → Contains (f x) y → Contains (f x') y' → R y y') → AllPairs R (flat_map f xs)
AllPairs-flat_map S R f [] h g c = AllPairs-nil R
AllPairs-flat_map S R f (x ∷ xs) h g c =
    AllPairs-append R (f x) (flat_map f xs) (g x (Contains-head x xs))
    (AllPairs-flat_map S R f xs (AllPairs-tail S x xs h) (λ a m. g a (Contains-behind x xs a m)) c)
    (λ y y' m n.
    let found = Contains-from_flat_map f xs y' n in
    c x found.0 (AllPairs-head S x xs h found.0 found.1) y y' m found.2)

pub AllPairs-range : (n : ℕ) → AllPairs (λ a b. a < b) (range_with_len 0 n)
AllPairs-range n i j d l g =
    let low : j < n = rw length-range_with_len at g in
    let first : get_or (range_with_len 0 n) i d ≡ 0 + i = get_or-range_with_len 0 n i d (omega arith) in
    let second : get_or (range_with_len 0 n) j d ≡ 0 + j = get_or-range_with_len 0 n j d low in
    omega (arith, first, second)

-- two lists that ascend in a strict order and have the same members are equal
pub ascending_once : {X : Type 0} (R : X → X → Type 0) → ((x : X) → R x x → ⊥) → ((x y : X) → R x y → R y x → ⊥) → (xs ys : List X) → AllPairs R xs → AllPairs R ys → ((z : X) → Contains xs z → Contains ys z) → ((z : X) → Contains ys z → Contains xs z) → xs ≡ ys
ascending_once R irr asym [] [] h g to from = refl
ascending_once R irr asym [] (y ∷ ys) h g to from = absurd (Contains-nil y (from y (Contains-head y ys)))
ascending_once R irr asym (x ∷ xs) [] h g to from = absurd (Contains-nil x (to x (Contains-head x xs)))
ascending_once R irr asym (x ∷ xs) (y ∷ ys) h g to from =
    let first : x ≡ y =
    elim (Contains-cons_cases y ys x (to x (Contains-head x xs))) [
      | inl e ↦ sym e
      | inr m ↦
          elim (Contains-cons_cases x xs y (from y (Contains-head y ys))) [
            | inl e ↦ e
            | inr n ↦ absurd (asym x y (AllPairs-head R x xs h y n) (AllPairs-head R y ys g x m))
          ]
    ] in
    let rest : xs ≡ ys =
    ascending_once R irr asym xs ys (AllPairs-tail R x xs h) (AllPairs-tail R y ys g)
    (λ z m.
    elim (Contains-cons_cases y ys z (to z (Contains-behind x xs z m))) [
      | inl e ↦ absurd (irr x (subst (R x) (sym e ∙ sym first) (AllPairs-head R x xs h z m)))
      | inr n ↦ n
    ])
    (λ z m.
    elim (Contains-cons_cases x xs z (from z (Contains-behind y ys z m))) [
      | inl e ↦ absurd (irr y (subst (R y) (sym e ∙ first) (AllPairs-head R y ys g z m)))
      | inr n ↦ n
    ]) in
    λ i. first i ∷ rest i

pub length-pushed : {X : Type 0} (xs ys : List X) (x : X) → ys ≡ xs ++ x ∷ [] → length ys ≡ length xs + 1
length-pushed xs ys x e = ap length e ∙ length_push xs x
