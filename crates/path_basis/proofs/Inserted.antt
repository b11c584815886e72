-- A new rule at its place among tidy rules, once those that it replaces are taken out.
use Rattle.std.proofs.Common.{ℕ, zero, suc, ◌≡◌, ◌<◌, ◌≤◌, ◌+◌, inl, inr, List, [], ◌∷◌, ◌++◌, Bool, true, not, length, take, drop, get_or, refl, sym, ap, ◌∙◌, ◌⊎◌, subst, arith, length-append, append-nil, length-drop}
use Rattle.std.specs.Prelude.{Contains, All, AllPairs}
use Rattle.std.specs.List.{filter, insert}
use Rattle.std.proofs.lemmas.Bool.{cases_Bool, not-true, not_from_false, both_ways}
use Rattle.std.proofs.lemmas.List.{take-append-drop, length-take, length-take-le, get_or-take, get_or-drop}
use Rattle.std.proofs.lemmas.List.Elements.{All-contains, All-append, All-filter, Contains-get_or, Contains-append_left, Contains-append_right, Contains-append_cases}
use Rattle.quiver_paths.specs.declared.Path.{Path}
use Rattle.quiver_paths.specs.Path.{IsPath, IsFactor}
use Rattle.quiver_paths.specs.PathOrder.{IsSmaller}
use Rattle.quiver_paths.proofs.ListLemmas.{Contains-head, Contains-behind, Contains-cons_cases, Contains-filter, Contains-from_filter, AllPairs-front, AllPairs-append, AllPairs-sieve}
use Rattle.quiver_paths.proofs.PathLemmas.{IsFactor-itself, IsFactor-trans}
use Rattle.quiver_paths.proofs.PathOrderLemmas.{IsSmaller-total, IsSmaller-trans}
use Rattle.path_algebra.specs.declared.Header.{Header}
use Rattle.path_algebra.specs.declared.rules.Rule.{Rule}
use Rattle.path_algebra.specs.Allowed.{IsAllowed}
use Rattle.path_algebra.specs.Reduction.{HasNoTip}
use Rattle.path_reduction.specs.Gaps.{IsTidy, AreTidy}
use Rattle.path_basis.specs.Measure.{free_count}
use Rattle.path_reduction.specs.NewRules.{IsNewTo}
use Rattle.path_basis.specs.Inserting.{IsReplaced, has_run, lacks_run, IsPlaceOf, IsInserted, Inserts}
use Rattle.path_basis.proofs.Runs.{test_from_runs, factor_from_run, run_from_factor}
use Rattle.path_basis.proofs.Measure.{has_tip_from_member, test_from_no_tip, free_count-lt}

-- ---- a member more

Contains-take : {X : Type 0} (k : ℕ) (xs : List X) (y : X) → Contains (take k xs) y → Contains xs y
Contains-take k xs y m = subst (λ zs. Contains zs y) (take-append-drop k xs) (Contains-append_left (take k xs) (drop k xs) y m)

Contains-drop : {X : Type 0} (k : ℕ) (xs : List X) (y : X) → Contains (drop k xs) y → Contains xs y
Contains-drop k xs y m = subst (λ zs. Contains zs y) (take-append-drop k xs) (Contains-append_right (take k xs) (drop k xs) y m)

Contains-insert : {X : Type 0} (xs : List X) (k : ℕ) (x : X) → Contains (insert xs k x) x
Contains-insert xs k x = Contains-append_right (take k xs) (x ∷ drop k xs) x (Contains-head x (drop k xs))

Contains-insert_other : {X : Type 0} (xs : List X) (k : ℕ) (x y : X) → Contains xs y → Contains (insert xs k x) y
Contains-insert_other xs k x y m = elim (Contains-append_cases (take k xs) (drop k xs) y (subst (λ zs. Contains zs y) (sym (take-append-drop k xs)) m)) [
  | inl l ↦ Contains-append_left (take k xs) (x ∷ drop k xs) y l
  | inr r ↦ Contains-append_right (take k xs) (x ∷ drop k xs) y (Contains-behind x (drop k xs) y r)
]

Contains-insert_cases : {X : Type 0} (xs : List X) (k : ℕ) (x y : X) → Contains (insert xs k x) y → (y ≡ x) ⊎ Contains xs y
Contains-insert_cases xs k x y m = elim (Contains-append_cases (take k xs) (x ∷ drop k xs) y m) [
  | inl l ↦ inr (Contains-take k xs y l)
  | inr r ↦ elim (Contains-cons_cases x (drop k xs) y r) [ inl e ↦ inl (sym e) | inr n ↦ inr (Contains-drop k xs y n) ]
]

length-insert : {X : Type 0} (xs : List X) (k : ℕ) (x : X) → k ≤ length xs → length (insert xs k x) ≡ length xs + 1
length-insert xs k x l = omega (arith, length-append (take k xs) (x ∷ drop k xs), length-take-le k xs l, length-drop k xs)

-- what holds of each member holds of all
all_members : {X : Type 0} (P : X → Type 0) (xs : List X) → ((x : X) → Contains xs x → P x) → All P xs
all_members P xs f k d l = f (get_or xs k d) (Contains-get_or xs k d l)

-- ---- the two parts of a list

AllPairs-take : {X : Type 0} (R : X → X → Type 0) (k : ℕ) (xs : List X) → AllPairs R xs → AllPairs R (take k xs)
AllPairs-take R k xs a i j d l g =
    let n = length-take k xs in
    subst (λ x. R x (get_or (take k xs) j d)) (sym (get_or-take k xs i d (omega arith)))
    (subst (R (get_or xs i d)) (sym (get_or-take k xs j d (omega arith))) (a i j d l (omega arith)))

AllPairs-drop : {X : Type 0} (R : X → X → Type 0) (k : ℕ) (xs : List X) → AllPairs R xs → AllPairs R (drop k xs)
AllPairs-drop R k xs a i j d l g =
    let n = length-drop k xs in
    subst (λ x. R x (get_or (drop k xs) j d)) (sym (get_or-drop k xs i d))
    (subst (R (get_or xs (k + i) d)) (sym (get_or-drop k xs j d)) (a (k + i) (k + j) d (omega arith) (omega arith)))

length-parts : {X : Type 0} (p : X → Bool) (xs : List X) → length (filter (λ x. not (p x)) xs) + length (filter p xs) ≡ length xs
length-parts p [] = refl
length-parts p (x ∷ xs) = elim (cases_Bool (p x)) [
  | inl e ↦ rw e (let r = length-parts p xs in omega arith)
  | inr e ↦ rw e (let r = length-parts p xs in omega arith)
]

-- ---- the place

-- before its place the tips are smaller, and from it on they are greater
smaller_before : (rules : List Rule) (p : Path) (k : ℕ) → IsPlaceOf rules p k → (x : Rule) → Contains (take k rules) x → IsSmaller x.tip p
smaller_before rules p k is x (j, l, e) =
    let n = length-take k rules in
    let low : j < k = omega arith in
    subst (λ (y : Rule). IsSmaller y.tip p) (sym (get_or-take k rules j x low) ∙ e) (is.smaller j x low)

-- what stands at the place is greater, so all behind it are
greater_from : (rules : List Rule) (p : Path) (k j : ℕ) (d : Rule) → AllPairs (λ (a b : Rule). IsSmaller a.tip b.tip) rules → k + j < length rules → IsSmaller p (get_or rules k d).tip
    → IsSmaller p (get_or rules (k + j) d).tip
greater_from rules p k zero d ascending l s = subst (λ i. IsSmaller p (get_or rules i d).tip) (omega arith) s
greater_from rules p k (suc j) d ascending l s = IsSmaller-trans p (get_or rules k d).tip (get_or rules (k + suc j) d).tip s (ascending k (k + suc j) d (omega arith) l)

greater_behind : (h : Header) (rules : List Rule) (p : Path) (k : ℕ) → All (IsTidy h) rules → AllPairs (λ (a b : Rule). IsSmaller a.tip b.tip) rules → IsPath h.quiver p
    → ((x : Rule) → Contains rules x → x.tip ≡ p → ⊥) → IsPlaceOf rules p k → (x : Rule) → Contains (drop k rules) x → IsSmaller p x.tip
greater_behind h rules p k tidy ascending hp other is x (j, l, e) =
    let n = length-drop k rules in
    let inside : k < length rules = omega arith in
    let first : IsSmaller p (get_or rules k x).tip = elim (IsSmaller-total h.quiver p (get_or rules k x).tip hp (tidy k x inside).path) [
      | inl i ↦ absurd (other (get_or rules k x) (Contains-get_or rules k x inside) (sym i))
      | inr (inl s) ↦ s
      | inr (inr s) ↦ absurd (is.next x inside s)
    ] in
    subst (λ (y : Rule). IsSmaller p y.tip) (sym (get_or-drop k rules j x) ∙ e) (greater_from rules p k j x ascending (omega arith) first)

insert_ascends : (h : Header) (rules : List Rule) (rule : Rule) (k : ℕ) → All (IsTidy h) rules → AllPairs (λ (a b : Rule). IsSmaller a.tip b.tip) rules → IsTidy h rule
    → ((x : Rule) → Contains rules x → x.tip ≡ rule.tip → ⊥) → IsPlaceOf rules rule.tip k → AllPairs (λ (a b : Rule). IsSmaller a.tip b.tip) (insert rules k rule)
insert_ascends h rules rule k tidy ascending t other is =
    let R = λ (a b : Rule). IsSmaller a.tip b.tip in
    let low = smaller_before rules rule.tip k is in
    let high = greater_behind h rules rule.tip k tidy ascending t.path other is in
    AllPairs-append R (take k rules) (rule ∷ drop k rules) (AllPairs-take R k rules ascending) (AllPairs-front R rule (drop k rules) high (AllPairs-drop R k rules ascending))
    (λ x y m n. elim (Contains-cons_cases rule (drop k rules) y n) [
      | inl e ↦ subst (λ (z : Rule). IsSmaller x.tip z.tip) e (low x m)
      | inr r ↦ IsSmaller-trans x.tip rule.tip y.tip (low x m) (high y r)
    ])

-- ---- what the tests say

not_replaced : (h : Header) (rule x : Rule) → IsTidy h rule → lacks_run rule.tip.arrows x ≡ true → IsReplaced h rule x → ⊥
not_replaced h rule x t e f = both_ways (has_run rule.tip.arrows x) (not-true _ e) (run_from_factor h rule x.tip t f)

is_replaced : (h : Header) (rule x : Rule) → IsAllowed h → IsTidy h rule → IsTidy h x → has_run rule.tip.arrows x ≡ true → IsReplaced h rule x
is_replaced h rule x ok t s e = factor_from_run h rule x.tip ok t s.path e

-- ---- the new rules

-- the rule at its place among those that it does not replace
abbrev kept_of : List Rule → Rule → List Rule
kept_of old rule = filter (lacks_run rule.tip.arrows) old

abbrev new_of : List Rule → Rule → ℕ → List Rule
new_of old rule k = insert (kept_of old rule) k rule

abbrev out_of : List Rule → Rule → List Rule
out_of old rule = filter (has_run rule.tip.arrows) old

new_members : (h : Header) (old : List Rule) (rule : Rule) (k : ℕ) → IsNewTo h old rule → (x : Rule) → Contains (new_of old rule k) x → (x ≡ rule) ⊎ (Contains old x × (IsReplaced h rule x → ⊥))
new_members h old rule k is x m = elim (Contains-insert_cases (kept_of old rule) k rule x m) [
  | inl e ↦ inl e
  | inr n ↦ (let f = Contains-from_filter (lacks_run rule.tip.arrows) old x n in inr (f.0, not_replaced h rule x is.rule_tidy f.1))
]

kept_members : (h : Header) (old : List Rule) (rule : Rule) (k : ℕ) → IsNewTo h old rule → (x : Rule) → Contains old x → (IsReplaced h rule x → ⊥) → Contains (new_of old rule k) x
kept_members h old rule k is x m n = elim (cases_Bool (has_run rule.tip.arrows x)) [
  | inl e ↦ absurd (n (is_replaced h rule x is.allowed is.rule_tidy (All-contains (IsTidy h) old x is.tidy.each m) e))
  | inr e ↦ Contains-insert_other (kept_of old rule) k rule x (Contains-filter (lacks_run rule.tip.arrows) old x m (not_from_false _ e))
]

out_members : (h : Header) (old : List Rule) (rule : Rule) → IsNewTo h old rule → (x : Rule) → Contains (out_of old rule) x → Contains old x × IsReplaced h rule x
out_members h old rule is x m =
    let f = Contains-from_filter (has_run rule.tip.arrows) old x m in
    (f.0, is_replaced h rule x is.allowed is.rule_tidy (All-contains (IsTidy h) old x is.tidy.each f.0) f.1)

new_tidy : (h : Header) (old : List Rule) (rule : Rule) (k : ℕ) → IsNewTo h old rule → IsPlaceOf (kept_of old rule) rule.tip k → AreTidy h (new_of old rule k)
new_tidy h old rule k is place = record {
  each = all_members (IsTidy h) (new_of old rule k) (λ x m. elim (new_members h old rule k is x m) [
    | inl e ↦ subst (IsTidy h) (sym e) is.rule_tidy
    | inr n ↦ All-contains (IsTidy h) old x is.tidy.each n.0
  ]);
  ascending = insert_ascends h (kept_of old rule) rule k (All-filter (lacks_run rule.tip.arrows) (IsTidy h) old is.tidy.each)
      (AllPairs-sieve (λ (a b : Rule). IsSmaller a.tip b.tip) (lacks_run rule.tip.arrows) old is.tidy.ascending) is.rule_tidy
      (λ x m e. is.no_tip x (Contains-from_filter (lacks_run rule.tip.arrows) old x m).0
      (subst (λ p. IsFactor h.quiver p rule.tip) (sym e) (IsFactor-itself h.quiver rule.tip is.allowed.quiver.ends is.rule_tidy.path))) place;
  apart = λ a b m n d f. elim (new_members h old rule k is a m) [
    | inl e ↦ elim (new_members h old rule k is b n) [
      | inl i ↦ d (ap (λ (x : Rule). x.tip) (e ∙ sym i))
      | inr i ↦ i.1 (subst (λ (x : Rule). IsFactor h.quiver x.tip b.tip) e f)
    ]
    | inr e ↦ elim (new_members h old rule k is b n) [
      | inl i ↦ is.no_tip a e.0 (subst (λ (x : Rule). IsFactor h.quiver a.tip x.tip) i f)
      | inr i ↦ is.tidy.apart a b e.0 i.0 d f
    ]
  ];
}

new_covers : (h : Header) (old : List Rule) (rule : Rule) (k : ℕ) → IsNewTo h old rule → (p : Path) → HasNoTip h (new_of old rule k) p → HasNoTip h old p
new_covers h old rule k is p n x m f = elim (cases_Bool (has_run rule.tip.arrows x)) [
  | inl e ↦ n rule (Contains-insert (kept_of old rule) k rule)
      (IsFactor-trans h.quiver rule.tip x.tip p (is_replaced h rule x is.allowed is.rule_tidy (All-contains (IsTidy h) old x is.tidy.each m) e) f)
  | inr e ↦ n x (Contains-insert_other (kept_of old rule) k rule x (Contains-filter (lacks_run rule.tip.arrows) old x m (not_from_false _ e))) f
]

-- a path has its own arrows
has_run-itself : (h : Header) (rule : Rule) → IsTidy h rule → has_run rule.tip.arrows rule ≡ true
has_run-itself h rule t = test_from_runs rule.tip.arrows rule.tip.arrows [] [] t.not_trivial (sym (append-nil rule.tip.arrows))

new_fewer : (h : Header) (old : List Rule) (rule : Rule) (k : ℕ) → IsNewTo h old rule → AreTidy h (new_of old rule k) → free_count h (new_of old rule k) < free_count h old
new_fewer h old rule k is tidy =
    let new = new_of old rule k in
    let t = is.rule_tidy in
    let here = Contains-insert (kept_of old rule) k rule in
    free_count-lt h old new rule.tip is.allowed
    (record {
      some = λ x m. (All-contains (IsTidy h) new x tidy.each m).not_trivial;
      by = λ x m. elim (cases_Bool (has_run rule.tip.arrows x)) [
        | inl e ↦ has_tip_from_member new rule x.tip here e
        | inr e ↦ has_tip_from_member new x x.tip (Contains-insert_other (kept_of old rule) k rule x (Contains-filter (lacks_run rule.tip.arrows) old x m (not_from_false _ e)))
            (has_run-itself h x (All-contains (IsTidy h) old x is.tidy.each m))
      ];
    })
    t.path t.short (test_from_no_tip h old rule.tip is.allowed is.tidy.each t.path is.no_tip) (has_tip_from_member new rule rule.tip here (has_run-itself h rule t))

inserted_at : (h : Header) (old : List Rule) (rule : Rule) (k : ℕ) → IsNewTo h old rule → IsPlaceOf (kept_of old rule) rule.tip k → IsInserted h old rule (new_of old rule k) (out_of old rule)
inserted_at h old rule k is place =
    let tidy = new_tidy h old rule k is place in
    record {
      tidy = tidy;
      listed = Contains-insert (kept_of old rule) k rule;
      kept = kept_members h old rule k is;
      only = new_members h old rule k is;
      replaced = λ x m f. Contains-filter (has_run rule.tip.arrows) old x m (run_from_factor h rule x.tip is.rule_tidy f);
      taken = out_members h old rule is;
      count = (let a = length-insert (kept_of old rule) k rule place.inside in let b = length-parts (has_run rule.tip.arrows) old in omega arith);
      covers = new_covers h old rule k is;
      fewer = new_fewer h old rule k is tidy;
    }

-- as the code goes
pub inserts_at : (h : Header) (old : List Rule) (rule : Rule) (kept new before after : List Rule) (arrows : List ℕ) (slice : List Rule) (k : ℕ) → IsNewTo h old rule
    → arrows ≡ rule.tip.arrows → slice ≡ kept → kept ≡ filter (lacks_run arrows) old → after ≡ before ++ filter (has_run arrows) old → IsPlaceOf slice rule.tip k → new ≡ insert kept k rule
    → Inserts h old rule new before after
inserts_at h old rule kept new before after arrows slice k is ea es ek ep place en =
    let stay : kept ≡ kept_of old rule = ek ∙ ap (λ xs. filter (lacks_run xs) old) ea in
    let whole : new ≡ new_of old rule k = en ∙ ap (λ zs. insert zs k rule) stay in
    record {
      out = out_of old rule;
      whole = ep ∙ ap (λ xs. before ++ filter (has_run xs) old) ea;
      inserted = subst (λ zs. IsInserted h old rule zs (out_of old rule)) (sym whole) (inserted_at h old rule k is (subst (λ zs. IsPlaceOf zs rule.tip k) (es ∙ stay) place));
    }

-- ---- what holds of all

-- what holds of the old rules and the new one holds of all of the new
pub inserted_all : (P : Rule → Type 0) (h : Header) (old : List Rule) (rule : Rule) (new before after : List Rule) → Inserts h old rule new before after → All P old → P rule → All P new
inserted_all P h old rule new before after i all p = all_members P new (λ x m. elim (i.inserted.only x m) [ inl e ↦ subst P (sym e) p | inr n ↦ All-contains P old x all n.0 ])

-- and of all that was removed
pub removed_all : (P : Rule → Type 0) (h : Header) (old : List Rule) (rule : Rule) (new before after : List Rule) → Inserts h old rule new before after → All P old → All P before → All P after
removed_all P h old rule new before after i all p =
    subst (All P) (sym i.whole) (All-append P before i.out p (all_members P i.out (λ x m. All-contains P old x all (i.inserted.taken x m).0)))

-- the new tip has a tip as a factor now
pub inserted_tip : (h : Header) (old : List Rule) (rule : Rule) (new before after : List Rule) → IsNewTo h old rule → Inserts h old rule new before after → HasNoTip h new rule.tip → ⊥
inserted_tip h old rule new before after is i n = n rule i.inserted.listed (IsFactor-itself h.quiver rule.tip is.allowed.quiver.ends is.rule_tidy.path)

-- ---- lengths

-- no rule is lost
pub inserted_lengths : (h : Header) (old : List Rule) (rule : Rule) (new before after : List Rule) → Inserts h old rule new before after → length new + length after ≡ length old + length before + 1
inserted_lengths h old rule new before after i = (let a = ap length i.whole ∙ length-append before i.out in let b = i.inserted.count in omega arith)

-- no more are removed than there were
pub removed_length : (h : Header) (old : List Rule) (rule : Rule) (new before after : List Rule) → Inserts h old rule new before after → length after ≤ length before + length old
removed_length h old rule new before after i = (let a = ap length i.whole ∙ length-append before i.out in let b = i.inserted.count in let l = i.inserted.listed.1 in omega arith)
