-- One more term of the sum of an element and a multiple of another.
use Rattle.std.proofs.Common.{ℕ, ◌≡◌, ◌≢◌, ◌<◌, inl, inr, List, [], ◌∷◌, ◌++◌, length, take, drop, ◌-◌, get_or, sym, ap, ap₂, ◌∙◌, subst, arith}
use Rattle.std.specs.Prelude.{Contains}
use Rattle.std.proofs.lemmas.Bool.{cases_eq}
use Rattle.std.proofs.lemmas.List.{take_rest}
use Rattle.std.proofs.lemmas.List.Elements.{Contains-append_cases, All-get_or}
use Rattle.std.specs.declared.cmp.Ordering.TheVariants.{Equal}
use Rattle.linear_algebra.specs.Field.{Gf, order, add, mul}
use Rattle.linear_algebra.specs.FieldLaws.{add_below, mul_below, add_assoc, add_left_comm, add_zero, zero_add, mul_zero, zero_mul, mul_add, mul_assoc, mul_nonzero, add_mul, add_swap, add_zero_zero}
use Rattle.quiver_paths.specs.declared.Path.{Path}
use Rattle.quiver_paths.specs.PathOrder.{IsSmaller, path_cmp}
use Rattle.quiver_paths.proofs.ListLemmas.{Contains-head, Contains-behind, Contains-nil, Contains-cons_cases}
use Rattle.quiver_paths.proofs.PathOrderLemmas.{IsSmaller-trans, path_cmp-Equal}
use Rattle.quiver_paths.proofs.PathLemmas.{IsPath-same}
use Rattle.quiver_paths.specs.Path.{IsPath}
use Rattle.path_algebra.specs.Words.{IsShortPath}
use Rattle.path_algebra.specs.declared.Term.{Term}
use Rattle.path_algebra.specs.declared.Header.{Header}
use Rattle.path_algebra.specs.Elements.{path_element, sum_of_terms}
use Rattle.path_algebra.specs.Rules.{AreElementTerms}
use Rattle.path_algebra.specs.ElementTerms.{AreBelow, IsMerging, IsJoined, AreTermsOf, plus_multiple}
use Rattle.path_algebra.proofs.ElementLemmas.{sum_of_terms-below, sum_of_terms-append}
use Rattle.path_algebra.proofs.TermLists.{sum_of_terms-nil, sum_of_terms-cons, IsElementTerm, AreElementTerms-nil, AreElementTerms-head, AreElementTerms-tail, AreElementTerms-below, AreElementTerms-push, Contains-one}

sum_of_terms-push : (q : Gf) (t : ℕ) (xs : List Term) (x : Term) (p : Path) → sum_of_terms q t (xs ++ x ∷ []) p ≡ add q (sum_of_terms q t xs p) (mul q x.coef (path_element t x.path p))
sum_of_terms-push q t xs x p = sum_of_terms-append q t xs (x ∷ []) p
    ∙ ap (add q (sum_of_terms q t xs p)) (sum_of_terms-cons q t x [] p ∙ ap (add q (mul q x.coef (path_element t x.path p))) (sum_of_terms-nil q t p) ∙ add_zero q _ (mul_below q _ _))

-- nothing is done at first
pub merging_begins : (h : Header) (c : ℕ) (xs ys : List Term) → AreElementTerms h xs → AreElementTerms h ys
    → IsMerging h c (plus_multiple h.field (sum_of_terms h.field h.bound xs) c (sum_of_terms h.field h.bound ys)) [] xs ys
merging_begins h c xs ys ax ay = record {
  done_are = AreElementTerms-nil h;
  first_are = ax;
  second_are = ay;
  first_below = λ x m. absurd (Contains-nil x m);
  second_below = λ x m. absurd (Contains-nil x m);
  value = λ p. ap (λ z. add h.field z (add h.field (sum_of_terms h.field h.bound xs p) (mul h.field c (sum_of_terms h.field h.bound ys p)))) (sum_of_terms-nil h.field h.bound p) ∙ zero_add h.field _ (add_below h.field _ _);
}

-- nothing is left in the end
pub merging_ends : (h : Header) (c : ℕ) (total : Path → ℕ) (done xs ys : List Term) → IsMerging h c total done xs ys → length xs ≡ 0 → length ys ≡ 0 → AreTermsOf h total done
merging_ends h c total done [] [] m ex ey = record {
  are = m.done_are;
  value = λ p. sym (add_zero h.field _ (sum_of_terms-below h.field h.bound done p))
      ∙ ap (add h.field (sum_of_terms h.field h.bound done p)) (sym (ap₂ (add h.field) (sum_of_terms-nil h.field h.bound p) (ap (mul h.field c) (sum_of_terms-nil h.field h.bound p) ∙ mul_zero h.field c) ∙ add_zero_zero h.field))
      ∙ m.value p;
}
merging_ends h c total done (x ∷ xs) ys m ex ey = absurd (omega arith)
merging_ends h c total done [] (y ∷ ys) m ex ey = absurd (omega arith)

below_pushed : (done : List Term) (x : Term) (ys : List Term) → ((a : Term) → Contains done a → AreBelow ys a.path) → AreBelow ys x.path
    → (a : Term) → Contains (done ++ x ∷ []) a → AreBelow ys a.path
below_pushed done x ys b bx a m = elim (Contains-append_cases done (x ∷ []) a m) [
  | inl l ↦ b a l
  | inr r ↦ subst (λ (z : Term). AreBelow ys z.path) (Contains-one x a r) bx
]

-- the greatest path is the first of the one side
take_first : (h : Header) (c : ℕ) (total : Path → ℕ) (done xs ys : List Term) (x : Term) → IsMerging h c total done (x ∷ xs) ys → AreBelow ys x.path
    → IsMerging h c total (done ++ x ∷ []) xs ys
take_first h c total done xs ys x m b = record {
  done_are = AreElementTerms-push h done x m.done_are (AreElementTerms-head h x xs m.first_are) (λ a l. m.first_below a l x (Contains-head x xs));
  first_are = AreElementTerms-tail h x xs m.first_are;
  second_are = m.second_are;
  first_below = below_pushed done x xs (λ a l y n. m.first_below a l y (Contains-behind x xs y n)) (AreElementTerms-below h x xs m.first_are);
  second_below = below_pushed done x ys m.second_below b;
  value = λ p.
      let q = h.field in
      let s = sum_of_terms q h.bound in
      let one = mul q x.coef (path_element h.bound x.path p) in
      let other = mul q c (s ys p) in
      ap (λ z. add q z (add q (s xs p) other)) (sum_of_terms-push q h.bound done x p)
      ∙ add_assoc q (s done p) one (add q (s xs p) other)
      ∙ ap (add q (s done p)) (sym (add_assoc q one (s xs p) other) ∙ ap (λ z. add q z other) (sym (sum_of_terms-cons q h.bound x xs p)))
      ∙ m.value p;
}

-- c times a term
abbrev pub times : Gf → ℕ → Term → Term
times q c y = record { coef = mul q c y.coef; path = y.path }

pub IsElementTerm-times : (h : Header) (c : ℕ) (y : Term) → 0 < c → c < order h.field → IsElementTerm h y → IsElementTerm h (times h.field c y)
IsElementTerm-times h c y n l is = record {
  nonzero = (let d : mul h.field c y.coef ≢ 0 = mul_nonzero h.field c y.coef l (let k : c ≢ 0 = omega arith in k) is.small (let m = is.nonzero in let k : y.coef ≢ 0 = omega arith in k) in omega arith);
  small = mul_below h.field c y.coef;
  short = is.short;
}

-- the greatest path is the first of the other side
take_second : (h : Header) (c : ℕ) (total : Path → ℕ) (done xs ys : List Term) (y : Term) → 0 < c → c < order h.field → IsMerging h c total done xs (y ∷ ys) → AreBelow xs y.path
    → IsMerging h c total (done ++ times h.field c y ∷ []) xs ys
take_second h c total done xs ys y n l m b = record {
  done_are = AreElementTerms-push h done (times h.field c y) m.done_are (IsElementTerm-times h c y n l (AreElementTerms-head h y ys m.second_are)) (λ a k. m.second_below a k y (Contains-head y ys));
  first_are = m.first_are;
  second_are = AreElementTerms-tail h y ys m.second_are;
  first_below = below_pushed done (times h.field c y) xs m.first_below b;
  second_below = below_pushed done (times h.field c y) ys (λ a k z k'. m.second_below a k z (Contains-behind y ys z k')) (AreElementTerms-below h y ys m.second_are);
  value = λ p.
      let q = h.field in
      let s = sum_of_terms q h.bound in
      let e = path_element h.bound y.path p in
      let one = mul q (mul q c y.coef) e in
      ap (λ z. add q z (add q (s xs p) (mul q c (s ys p)))) (sum_of_terms-push q h.bound done (times q c y) p)
      ∙ add_assoc q (s done p) one (add q (s xs p) (mul q c (s ys p)))
      ∙ ap (add q (s done p)) (add_left_comm q one (s xs p) (mul q c (s ys p))
      ∙ ap (add q (s xs p)) (ap (λ z. add q z (mul q c (s ys p))) (mul_assoc q c y.coef e) ∙ sym (mul_add q c (mul q y.coef e) (s ys p)) ∙ ap (mul q c) (sym (sum_of_terms-cons q h.bound y ys p))))
      ∙ m.value p;
}

-- the sum of two terms at one path
abbrev pub joined : Gf → ℕ → Term → Term → Term
joined q c x y = record { coef = add q x.coef (mul q c y.coef); path = x.path }

join_values : (h : Header) (c : ℕ) (xs ys : List Term) (x y : Term) (p : Path) → x.path ≡ y.path
    → add h.field (sum_of_terms h.field h.bound (x ∷ xs) p) (mul h.field c (sum_of_terms h.field h.bound (y ∷ ys) p))
    ≡ add h.field (mul h.field (add h.field x.coef (mul h.field c y.coef)) (path_element h.bound x.path p)) (add h.field (sum_of_terms h.field h.bound xs p) (mul h.field c (sum_of_terms h.field h.bound ys p)))
join_values h c xs ys x y p same =
    let q = h.field in
    let s = sum_of_terms q h.bound in
    let e = path_element h.bound x.path p in
    let second : mul q c (s (y ∷ ys) p) ≡ add q (mul q (mul q c y.coef) e) (mul q c (s ys p)) =
    ap (mul q c) (sum_of_terms-cons q h.bound y ys p) ∙ mul_add q c _ (s ys p)
    ∙ ap (λ z. add q z (mul q c (s ys p))) (ap (λ r. mul q c (mul q y.coef (path_element h.bound r p))) (sym same) ∙ sym (mul_assoc q c y.coef e)) in
    ap₂ (add q) (sum_of_terms-cons q h.bound x xs p) second
    ∙ add_swap q (mul q x.coef e) (s xs p) (mul q (mul q c y.coef) e) (mul q c (s ys p))
    ∙ ap (λ z. add q z (add q (s xs p) (mul q c (s ys p)))) (sym (add_mul q x.coef (mul q c y.coef) e))

-- the two sides begin with one path, and their sum there is zero
take_neither : (h : Header) (c : ℕ) (total : Path → ℕ) (done xs ys : List Term) (x y : Term) → IsMerging h c total done (x ∷ xs) (y ∷ ys) → x.path ≡ y.path
    → add h.field x.coef (mul h.field c y.coef) ≡ 0 → IsMerging h c total done xs ys
take_neither h c total done xs ys x y m same zero' = record {
  done_are = m.done_are;
  first_are = AreElementTerms-tail h x xs m.first_are;
  second_are = AreElementTerms-tail h y ys m.second_are;
  first_below = λ a l z n. m.first_below a l z (Contains-behind x xs z n);
  second_below = λ a l z n. m.second_below a l z (Contains-behind y ys z n);
  value = λ p.
      let q = h.field in
      ap (add q (sum_of_terms q h.bound done p)) (sym (join_values h c xs ys x y p same
      ∙ ap (λ z. add q z (add q (sum_of_terms q h.bound xs p) (mul q c (sum_of_terms q h.bound ys p)))) (ap (λ z. mul q z (path_element h.bound x.path p)) zero' ∙ zero_mul q _) ∙ zero_add q _ (add_below q _ _)))
      ∙ m.value p;
}

-- and it is not zero
take_both : (h : Header) (c : ℕ) (total : Path → ℕ) (done xs ys : List Term) (x y : Term) → IsMerging h c total done (x ∷ xs) (y ∷ ys) → x.path ≡ y.path
    → add h.field x.coef (mul h.field c y.coef) ≢ 0 → IsMerging h c total (done ++ joined h.field c x y ∷ []) xs ys
take_both h c total done xs ys x y m same n = record {
  done_are = AreElementTerms-push h done (joined h.field c x y) m.done_are (record { nonzero = omega (arith, n); small = add_below h.field _ _; short = (AreElementTerms-head h x xs m.first_are).short })
      (λ a l. m.first_below a l x (Contains-head x xs));
  first_are = AreElementTerms-tail h x xs m.first_are;
  second_are = AreElementTerms-tail h y ys m.second_are;
  first_below = below_pushed done (joined h.field c x y) xs (λ a l z k. m.first_below a l z (Contains-behind x xs z k)) (AreElementTerms-below h x xs m.first_are);
  second_below = below_pushed done (joined h.field c x y) ys (λ a l z k. m.second_below a l z (Contains-behind y ys z k))
      (subst (AreBelow ys) (sym same) (AreElementTerms-below h y ys m.second_are));
  value = λ p.
      let q = h.field in
      ap (λ z. add q z (add q (sum_of_terms q h.bound xs p) (mul q c (sum_of_terms q h.bound ys p)))) (sum_of_terms-push q h.bound done (joined q c x y) p)
      ∙ add_assoc q (sum_of_terms q h.bound done p) _ _
      ∙ ap (add q (sum_of_terms q h.bound done p)) (sym (join_values h c xs ys x y p same))
      ∙ m.value p;
}

-- ---- by the first items of the two lists

-- nothing is on the one side, or what is there begins with a smaller path
pub AreBelow-none : (ys : List Term) (p : Path) → length ys ≡ 0 → AreBelow ys p
AreBelow-none [] p e y m = absurd (Contains-nil y m)
AreBelow-none (z ∷ ys) p e y m = absurd (omega (arith, e))

pub AreBelow-first : (h : Header) (ys : List Term) (y : Term) (p : Path) → AreElementTerms h ys → 0 < length ys → y ≡ get_or ys 0 y → IsSmaller y.path p → AreBelow ys p
AreBelow-first h [] y p are l e s z m = absurd (Contains-nil z m)
AreBelow-first h (y' ∷ ys) y p are l e s z m = elim (Contains-cons_cases y' ys z m) [
  | inl i ↦ subst (λ (a : Term). IsSmaller a.path p) (e ∙ i) s
  | inr n ↦ IsSmaller-trans z.path y.path p (subst (λ (a : Term). IsSmaller z.path a.path) (sym e) (AreElementTerms-below h y' ys are z n)) s
]

pub step_first : (h : Header) (c : ℕ) (total : Path → ℕ) (done xs ys : List Term) (x : Term) → 0 < length xs → x ≡ get_or xs 0 x → AreBelow ys x.path
    → IsMerging h c total done xs ys → IsMerging h c total (done ++ x ∷ []) (drop 1 xs) ys
step_first h c total done [] ys x l e b m = absurd (omega arith)
step_first h c total done (x' ∷ xs) ys x l e b m = take_first h c total done xs ys x (subst (λ (a : Term). IsMerging h c total done (a ∷ xs) ys) (sym e) m) b

pub step_second : (h : Header) (c : ℕ) (total : Path → ℕ) (done xs ys : List Term) (y : Term) → 0 < c → c < order h.field → 0 < length ys → y ≡ get_or ys 0 y → AreBelow xs y.path
    → IsMerging h c total done xs ys → IsMerging h c total (done ++ times h.field c y ∷ []) xs (drop 1 ys)
step_second h c total done xs [] y n k l e b m = absurd (omega arith)
step_second h c total done xs (y' ∷ ys) y n k l e b m = take_second h c total done xs ys y n k (subst (λ (a : Term). IsMerging h c total done xs (a ∷ ys)) (sym e) m) b

-- x and y are the first terms of the two sides, and have one path
pub record BeginAlike (xs ys : List Term) (x y : Term) : Type 0 where
  pub first_some : 0 < length xs
  pub second_some : 0 < length ys
  pub first_is : x ≡ get_or xs 0 x
  pub second_is : y ≡ get_or ys 0 y
  pub same : x.path ≡ y.path

pub step_neither : (h : Header) (c : ℕ) (total : Path → ℕ) (done xs ys : List Term) (x y : Term) → BeginAlike xs ys x y
    → add h.field x.coef (mul h.field c y.coef) ≡ 0 → IsMerging h c total done xs ys → IsMerging h c total done (drop 1 xs) (drop 1 ys)
step_neither h c total done [] ys x y b z m = absurd (let l = b.first_some in omega arith)
step_neither h c total done (x' ∷ xs) [] x y b z m = absurd (let l = b.second_some in omega arith)
step_neither h c total done (x' ∷ xs) (y' ∷ ys) x y b z m = take_neither h c total done xs ys x y
    (subst (λ (a : Term). IsMerging h c total done (a ∷ xs) (y ∷ ys)) (sym b.first_is) (subst (λ (a : Term). IsMerging h c total done (x' ∷ xs) (a ∷ ys)) (sym b.second_is) m)) b.same z

pub step_both : (h : Header) (c : ℕ) (total : Path → ℕ) (done xs ys : List Term) (x y : Term) → BeginAlike xs ys x y
    → add h.field x.coef (mul h.field c y.coef) ≢ 0 → IsMerging h c total done xs ys → IsMerging h c total (done ++ joined h.field c x y ∷ []) (drop 1 xs) (drop 1 ys)
step_both h c total done [] ys x y b z m = absurd (let l = b.first_some in omega arith)
step_both h c total done (x' ∷ xs) [] x y b z m = absurd (let l = b.second_some in omega arith)
step_both h c total done (x' ∷ xs) (y' ∷ ys) x y b z m = take_both h c total done xs ys x y
    (subst (λ (a : Term). IsMerging h c total done (a ∷ xs) (y ∷ ys)) (sym b.first_is) (subst (λ (a : Term). IsMerging h c total done (x' ∷ xs) (a ∷ ys)) (sym b.second_is) m)) b.same z

-- ---- as the code goes: what is written is a copy of an item, and the list is what it was with one item more

pub written_first : (h : Header) (c : ℕ) (total : Path → ℕ) (done after xs ys : List Term) (x copy : Term) → 0 < length xs → x ≡ get_or xs 0 x → copy ≡ x → after ≡ done ++ copy ∷ []
    → AreBelow ys x.path → IsMerging h c total done xs ys → IsMerging h c total after (drop 1 xs) ys
written_first h c total done after xs ys x copy l e same is b m =
    subst (λ d. IsMerging h c total d (drop 1 xs) ys) (sym (is ∙ ap (λ (z : Term). done ++ z ∷ []) same)) (step_first h c total done xs ys x l e b m)

pub written_second : (h : Header) (c : ℕ) (total : Path → ℕ) (done after xs ys : List Term) (y copy : Term) → 0 < c → c < order h.field → 0 < length ys → y ≡ get_or ys 0 y
    → copy ≡ times h.field c y → after ≡ done ++ copy ∷ [] → AreBelow xs y.path → IsMerging h c total done xs ys → IsMerging h c total after xs (drop 1 ys)
written_second h c total done after xs ys y copy n k l e same is b m =
    subst (λ d. IsMerging h c total d xs (drop 1 ys)) (sym (is ∙ ap (λ (z : Term). done ++ z ∷ []) same)) (step_second h c total done xs ys y n k l e b m)

pub written_both : (h : Header) (c : ℕ) (total : Path → ℕ) (done after xs ys : List Term) (x y : Term) → BeginAlike xs ys x y → IsJoined h.field c x y done after
    → IsMerging h c total done xs ys → IsMerging h c total after (drop 1 xs) (drop 1 ys)
written_both h c total done after xs ys x y b j m = elim (cases_eq (add h.field x.coef (mul h.field c y.coef)) 0) [
  | inl z ↦ subst (λ d. IsMerging h c total d (drop 1 xs) (drop 1 ys)) (sym (j.zero_is z)) (step_neither h c total done xs ys x y b z m)
  | inr n ↦ subst (λ d. IsMerging h c total d (drop 1 xs) (drop 1 ys)) (sym (j.nonzero_is n)) (step_both h c total done xs ys x y b n m)
]

-- the first items have one path
pub alike : (h : Header) (xs ys : List Term) (x y : Term) → AreElementTerms h xs → AreElementTerms h ys → 0 < length xs → 0 < length ys → x ≡ get_or xs 0 x → y ≡ get_or ys 0 y
    → path_cmp x.path y.path ≡ Equal → BeginAlike xs ys x y
alike h xs ys x y ax ay lx ly ex ey e =
    let same = path_cmp-Equal x.path y.path e in
    record {
      first_some = lx;
      second_some = ly;
      first_is = ex;
      second_is = ey;
      same = IsPath-same h.quiver x.path y.path
          (subst (λ (a : Term). IsPath h.quiver a.path) (sym ex) (All-get_or (λ (a : Term). IsShortPath h a.path) xs 0 x lx ax.short).path)
          (subst (λ (a : Term). IsPath h.quiver a.path) (sym ey) (All-get_or (λ (a : Term). IsShortPath h a.path) ys 0 y ly ay.short).path)
          same.1 same.0;
    }

-- the rests of the two sides, as slices from a place on
pub merging_rests : (h : Header) (c : ℕ) (total : Path → ℕ) (done xs ys : List Term) (m n : ℕ) → IsMerging h c total done (drop m xs) (drop n ys)
    → IsMerging h c total done (take (length xs - m) (drop m xs)) (take (length ys - n) (drop n ys))
merging_rests h c total done xs ys m n k =
    subst (λ d. IsMerging h c total done d (take (length ys - n) (drop n ys))) (sym (take_rest xs m)) (subst (IsMerging h c total done (drop m xs)) (sym (take_rest ys n)) k)
