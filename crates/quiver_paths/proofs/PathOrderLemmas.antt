-- The order of paths: its cases, that it is a strict total order, and that it goes with concatenation.
use Rattle.std.proofs.Common.{ℕ, ◌+◌, ◌≡◌, ◌<◌, ◌≤◌, List, [], ◌∷◌, ◌++◌, length, refl, sym, ap, ◌∙◌, ◌⊎◌, inl, inr, arith, length-append, subst}
use Rattle.std.specs.Cmp.{IsTotalOrder, on_total, then_total, nat_cmp_total, ranks, ranked, nat_cmp_is}
use Rattle.std.specs.Cmp.Lexicographic.{slice_cmp, nat_list_cmp_total}
use Rattle.std.specs.Ordering.{nat_cmp, ordering_then, ordering_reverse, MatchOrdering}
use Rattle.std.specs.declared.cmp.Ordering.{Ordering}
use Rattle.std.specs.declared.cmp.Ordering.TheVariants.{Less, Equal, Greater}
use Rattle.std.proofs.lemmas.Cmp.{by_ranked, tied_itself}
use Rattle.std.proofs.lemmas.Bool.{cases_eq, cases_lt}
use Rattle.quiver_paths.specs.declared.Quiver.{Quiver}
use Rattle.quiver_paths.specs.declared.Path.{Path}
use Rattle.quiver_paths.specs.Path.{IsPath, path_length, concat, Meets}
use Rattle.quiver_paths.specs.PathOrder.{path_cmp, IsSmaller, DiffersBelow, ComesBefore, shorter, by_arrows, by_start}
use Rattle.quiver_paths.proofs.PathLemmas.{same_path, IsPath-same}

-- ---- comparisons of numbers and of lists

then_if_tied : (a b : ℕ) (x y : Ordering) → (a ≡ b → x ≡ y) → ordering_then (nat_cmp a b) x ≡ ordering_then (nat_cmp a b) y
then_if_tied a b x y h =
    by_ranked (a < b) (a ≡ b) (b < a) (nat_cmp a b) (ranks a b) (λ e _. rw e refl) (λ e t. rw e (h t)) (λ e _. rw e refl)

then_less : (a b : Ordering) → ordering_then a b ≡ Less → (a ≡ Less) ⊎ ((a ≡ Equal) × (b ≡ Less))
then_less Less b h = inl refl
then_less Equal b h = inr (refl, h)
then_less Greater b h = absurd (cc)

then_equal : (a b : Ordering) → ordering_then a b ≡ Equal → (a ≡ Equal) × (b ≡ Equal)
then_equal Less b h = absurd (cc)
then_equal Equal b h = (refl, h)
then_equal Greater b h = absurd (cc)

nat_less : (x y : ℕ) → nat_cmp x y ≡ Less → x < y
nat_less x y h = ranked x y Less (sym h)

nat_tied : (x y : ℕ) → nat_cmp x y ≡ Equal → x ≡ y
nat_tied x y h = ranked x y Equal (sym h)

less_nat : (x y : ℕ) → x < y → nat_cmp x y ≡ Less
less_nat x y h = sym (nat_cmp_is x y Less h)

tied_nat : (x y : ℕ) → x ≡ y → nat_cmp x y ≡ Equal
tied_nat x y h = sym (nat_cmp_is x y Equal h)

match_add : (a b c : ℕ) (r : Ordering) → MatchOrdering r (a < b) (a ≡ b) (b < a) → MatchOrdering r (a + c < b + c) (a + c ≡ b + c) (b + c < a + c)
match_add a b c Less h = omega arith
match_add a b c Equal h = omega arith
match_add a b c Greater h = omega arith

nat_cmp-add_right : (a b c : ℕ) → nat_cmp (a + c) (b + c) ≡ nat_cmp a b
nat_cmp-add_right a b c = sym (nat_cmp_is (a + c) (b + c) (nat_cmp a b) (match_add a b c (nat_cmp a b) (ranks a b)))

match_add_left : (a b c : ℕ) (r : Ordering) → MatchOrdering r (a < b) (a ≡ b) (b < a) → MatchOrdering r (c + a < c + b) (c + a ≡ c + b) (c + b < c + a)
match_add_left a b c Less h = omega arith
match_add_left a b c Equal h = omega arith
match_add_left a b c Greater h = omega arith

nat_cmp-add_left : (a b c : ℕ) → nat_cmp (c + a) (c + b) ≡ nat_cmp a b
nat_cmp-add_left a b c = sym (nat_cmp_is (c + a) (c + b) (nat_cmp a b) (match_add_left a b c (nat_cmp a b) (ranks a b)))

slice_cmp-append_left : (us xs ys : List ℕ) → slice_cmp nat_cmp (us ++ xs) (us ++ ys) ≡ slice_cmp nat_cmp xs ys
slice_cmp-append_left [] xs ys = refl
slice_cmp-append_left (u ∷ us) xs ys =
    ap (λ o. ordering_then o (slice_cmp nat_cmp (us ++ xs) (us ++ ys))) (tied_itself nat_cmp_total u) ∙ slice_cmp-append_left us xs ys

slice_cmp-append_right : (xs ys vs : List ℕ) → length xs ≡ length ys → slice_cmp nat_cmp (xs ++ vs) (ys ++ vs) ≡ slice_cmp nat_cmp xs ys
slice_cmp-append_right [] [] vs h = tied_itself nat_list_cmp_total vs
slice_cmp-append_right [] (y ∷ ys) vs h = absurd (omega arith)
slice_cmp-append_right (x ∷ xs) [] vs h = absurd (omega arith)
slice_cmp-append_right (x ∷ xs) (y ∷ ys) vs h = ap (ordering_then (nat_cmp x y)) (slice_cmp-append_right xs ys vs (omega arith))

slice_tied : (xs ys : List ℕ) → slice_cmp nat_cmp xs ys ≡ Equal → xs ≡ ys
slice_tied [] [] h = refl
slice_tied [] (y ∷ ys) h = absurd (cc)
slice_tied (x ∷ xs) [] h = absurd (cc)
slice_tied (x ∷ xs) (y ∷ ys) h =
    let both : (nat_cmp x y ≡ Equal) × (slice_cmp nat_cmp xs ys ≡ Equal) = then_equal (nat_cmp x y) (slice_cmp nat_cmp xs ys) h in
    let first : x ≡ y = nat_tied x y both.0 in
    let rest : xs ≡ ys = slice_tied xs ys both.1 in
    cc

differs_from_less : (xs ys : List ℕ) → length xs ≡ length ys → slice_cmp nat_cmp xs ys ≡ Less → DiffersBelow xs ys
differs_from_less [] [] e h = absurd (cc)
differs_from_less [] (y ∷ ys) e h = absurd (omega arith)
differs_from_less (x ∷ xs) [] e h = absurd (cc)
differs_from_less (x ∷ xs) (y ∷ ys) e h =
    elim (then_less (nat_cmp x y) (slice_cmp nat_cmp xs ys) h) [
      | inl less ↦ inl (nat_less x y less)
      | inr both ↦ inr (nat_tied x y both.0, differs_from_less xs ys (omega arith) both.1)
    ]

less_from_differs : (xs ys : List ℕ) → DiffersBelow xs ys → slice_cmp nat_cmp xs ys ≡ Less
less_from_differs [] ys h = absurd h
less_from_differs (x ∷ xs) [] h = absurd h
less_from_differs (x ∷ xs) (y ∷ ys) h =
    elim h [
      | inl less ↦ ap (λ o. ordering_then o (slice_cmp nat_cmp xs ys)) (less_nat x y less)
      | inr both ↦ ap (λ o. ordering_then o (slice_cmp nat_cmp xs ys)) (tied_nat x y both.0) ∙ less_from_differs xs ys both.1
    ]

-- ---- the order of paths

pub path_cmp_total : IsTotalOrder path_cmp
unfolding path_cmp
path_cmp_total =
    then_total (on_total path_length nat_cmp_total) (then_total (on_total (λ (p : Path). p.arrows) nat_list_cmp_total) (on_total (λ (p : Path). p.start) nat_cmp_total))

-- the comparison of the arrows and then of the starts
abbrev rest_cmp : Path → Path → Ordering
rest_cmp p q = ordering_then (slice_cmp nat_cmp p.arrows q.arrows) (nat_cmp p.start q.start)

path_cmp_is : (p q : Path) → path_cmp p q ≡ ordering_then (nat_cmp (path_length p) (path_length q)) (rest_cmp p q)
unfolding path_cmp
path_cmp_is p q = refl

pub ComesBefore-from_smaller : (p q : Path) → IsSmaller p q → ComesBefore p q
ComesBefore-from_smaller p q h =
    elim (then_less (nat_cmp (path_length p) (path_length q)) (rest_cmp p q) (sym (path_cmp_is p q) ∙ h)) [
      | inl less ↦ shorter (nat_less (path_length p) (path_length q) less)
      | inr both ↦
          let e : path_length p ≡ path_length q = nat_tied (path_length p) (path_length q) both.0 in
          elim (then_less (slice_cmp nat_cmp p.arrows q.arrows) (nat_cmp p.start q.start) both.1) [
            | inl less ↦ by_arrows e (differs_from_less p.arrows q.arrows e less)
            | inr tied ↦ by_start (slice_tied p.arrows q.arrows tied.0) (nat_less p.start q.start tied.1)
          ]
    ]

pub IsSmaller-from_shorter : (p q : Path) → path_length p < path_length q → IsSmaller p q
IsSmaller-from_shorter p q h = path_cmp_is p q ∙ ap (λ o. ordering_then o (rest_cmp p q)) (less_nat (path_length p) (path_length q) h)

-- at one length the rest decides
tied_length : (p q : Path) → path_length p ≡ path_length q → path_cmp p q ≡ rest_cmp p q
tied_length p q e = path_cmp_is p q ∙ ap (λ o. ordering_then o (rest_cmp p q)) (tied_nat (path_length p) (path_length q) e)

-- at the same arrows the starts decide
pub path_cmp-same_arrows : (p q : Path) → p.arrows ≡ q.arrows → path_cmp p q ≡ nat_cmp p.start q.start
path_cmp-same_arrows p q e =
    let same : slice_cmp nat_cmp p.arrows q.arrows ≡ Equal =
    ap (λ xs. slice_cmp nat_cmp xs q.arrows) e ∙ tied_itself nat_list_cmp_total q.arrows in
    tied_length p q (ap length e) ∙ ap (λ o. ordering_then o (nat_cmp p.start q.start)) same

pub smaller_from_comes_before : (p q : Path) → ComesBefore p q → IsSmaller p q
smaller_from_comes_before p q (shorter h) = IsSmaller-from_shorter p q h
smaller_from_comes_before p q (by_arrows e d) =
    tied_length p q e ∙ ap (λ o. ordering_then o (nat_cmp p.start q.start)) (less_from_differs p.arrows q.arrows d)
smaller_from_comes_before p q (by_start e h) = path_cmp-same_arrows p q e ∙ less_nat p.start q.start h

-- which two paths tie
pub path_cmp-Equal : (p q : Path) → path_cmp p q ≡ Equal → (p.arrows ≡ q.arrows) × (p.start ≡ q.start)
path_cmp-Equal p q h =
    let both = then_equal (nat_cmp (path_length p) (path_length q)) (rest_cmp p q) (sym (path_cmp_is p q) ∙ h) in
    let rest = then_equal (slice_cmp nat_cmp p.arrows q.arrows) (nat_cmp p.start q.start) both.1 in
    (slice_tied p.arrows q.arrows rest.0, nat_tied p.start q.start rest.1)

pub path_cmp-itself : (p : Path) → path_cmp p p ≡ Equal
path_cmp-itself p = tied_itself path_cmp_total p

pub IsSmaller-irreflexive : (p : Path) → IsSmaller p p → ⊥
IsSmaller-irreflexive p h = let e : path_cmp p p ≡ Equal = path_cmp-itself p in absurd (cc)

pub IsSmaller-trans : (p q r : Path) → IsSmaller p q → IsSmaller q r → IsSmaller p r
IsSmaller-trans p q r = path_cmp_total.trans p q r

pub path_cmp-flip : (p q : Path) → path_cmp p q ≡ ordering_reverse (path_cmp q p)
path_cmp-flip = path_cmp_total.antisymm

pub IsSmaller-from_greater : (p q : Path) → path_cmp p q ≡ Greater → IsSmaller q p
IsSmaller-from_greater p q h = path_cmp-flip q p ∙ ap ordering_reverse h

pub greater_from_IsSmaller : (p q : Path) → IsSmaller q p → path_cmp p q ≡ Greater
greater_from_IsSmaller p q h = path_cmp-flip p q ∙ ap ordering_reverse h

pub IsSmaller-asymmetric : (p q : Path) → IsSmaller p q → IsSmaller q p → ⊥
IsSmaller-asymmetric p q h g = IsSmaller-irreflexive p (IsSmaller-trans p q p h g)

pub length-smaller : (p q : Path) → IsSmaller p q → path_length q < path_length p → ⊥
length-smaller p q h g = IsSmaller-asymmetric p q h (IsSmaller-from_shorter q p g)

pub length_of_smaller : (p q : Path) → IsSmaller p q → path_length p ≤ path_length q
length_of_smaller p q h =
    elim (cases_lt (path_length q) (path_length p)) [ inl longer ↦ absurd (length-smaller p q h longer) | inr fits ↦ fits ]

pub cases_smaller : (p q : Path) → IsSmaller p q ⊎ (IsSmaller p q → ⊥)
cases_smaller p q = by (path_cmp p q) refl
  where
    by : (o : Ordering) → path_cmp p q ≡ o → IsSmaller p q ⊎ (IsSmaller p q → ⊥)
    by Less e = inl e
    by Equal e = inr (λ h. absurd (cc))
    by Greater e = inr (λ h. absurd (cc))

-- two paths are equal or not
pub cases_path : (p q : Path) → (p ≡ q) ⊎ (p ≡ q → ⊥)
cases_path p q = by (path_cmp p q) refl
  where
    by : (o : Ordering) → path_cmp p q ≡ o → (p ≡ q) ⊎ (p ≡ q → ⊥)
    by Less e = inr (λ s. IsSmaller-irreflexive q (subst (λ (x : Path). IsSmaller x q) s e))
    by Equal e =
        let same = path_cmp-Equal p q e in
        elim (cases_eq p.end q.end) [
          | inl ends ↦ inl (same_path p q same.1 ends same.0)
          | inr other ↦ inr (λ s. other (ap (λ (x : Path). x.end) s))
        ]
    by Greater e = inr (λ s. IsSmaller-irreflexive q (subst (λ (x : Path). IsSmaller q x) s (IsSmaller-from_greater p q e)))

-- ---- the order and concatenation

pub path_cmp-concat_right : (p q v : Path) → path_cmp (concat p v) (concat q v) ≡ path_cmp p q
path_cmp-concat_right p q v =
    let m = path_length p in
    let n = path_length q in
    let k = path_length v in
    let long : nat_cmp (path_length (concat p v)) (path_length (concat q v)) ≡ nat_cmp m n =
    rw (length-append p.arrows v.arrows, length-append q.arrows v.arrows) (nat_cmp-add_right m n k) in
    path_cmp_is (concat p v) (concat q v) ∙ ap (λ o. ordering_then o (rest_cmp (concat p v) (concat q v))) long
    ∙ then_if_tied m n (rest_cmp (concat p v) (concat q v)) (rest_cmp p q)
    (λ e. ap (λ o. ordering_then o (nat_cmp p.start q.start)) (slice_cmp-append_right p.arrows q.arrows v.arrows e))
    ∙ sym (path_cmp_is p q)

pub path_cmp-concat_left : (u p q : Path) → p.start ≡ q.start → path_cmp (concat u p) (concat u q) ≡ path_cmp p q
path_cmp-concat_left u p q s =
    let m = path_length p in
    let n = path_length q in
    let k = path_length u in
    let long : nat_cmp (path_length (concat u p)) (path_length (concat u q)) ≡ nat_cmp m n =
    rw (length-append u.arrows p.arrows, length-append u.arrows q.arrows) (nat_cmp-add_left m n k) in
    let starts : nat_cmp u.start u.start ≡ nat_cmp p.start q.start =
    tied_nat u.start u.start refl ∙ sym (tied_nat p.start q.start s) in
    let rest : rest_cmp (concat u p) (concat u q) ≡ rest_cmp p q =
    λ i. ordering_then (slice_cmp-append_left u.arrows p.arrows q.arrows i) (starts i) in
    path_cmp_is (concat u p) (concat u q) ∙ (λ i. ordering_then (long i) (rest i)) ∙ sym (path_cmp_is p q)

pub IsSmaller-concat_right : (p q v : Path) → IsSmaller p q → IsSmaller (concat p v) (concat q v)
IsSmaller-concat_right p q v h = path_cmp-concat_right p q v ∙ h

pub IsSmaller-concat_left : (u p q : Path) → Meets u p → Meets u q → IsSmaller p q → IsSmaller (concat u p) (concat u q)
IsSmaller-concat_left u p q m n h = path_cmp-concat_left u p q (sym m ∙ n) ∙ h

-- a smaller path stays smaller between two paths
pub IsSmaller-concat : (u p q v : Path) → Meets u p → Meets u q → IsSmaller p q → IsSmaller (concat u (concat p v)) (concat u (concat q v))
IsSmaller-concat u p q v m n h = IsSmaller-concat_left u (concat p v) (concat q v) m n (IsSmaller-concat_right p q v h)

-- of two different paths of a quiver one is smaller
pub IsSmaller-total : (Q : Quiver) (p q : Path) → IsPath Q p → IsPath Q q → (p ≡ q) ⊎ (IsSmaller p q ⊎ IsSmaller q p)
IsSmaller-total Q p q h g = by (path_cmp p q) refl
  where
    by : (o : Ordering) → path_cmp p q ≡ o → (p ≡ q) ⊎ (IsSmaller p q ⊎ IsSmaller q p)
    by Less e = inr (inl e)
    by Equal e = let same = path_cmp-Equal p q e in inl (IsPath-same Q p q h g same.1 same.0)
    by Greater e = inr (inr (IsSmaller-from_greater p q e))
