-- The tail of a rule between two paths, and sums of what terms become.
use Rattle.std.proofs.Common.{ℕ, ◌≡◌, ◌<◌, ◌≤◌, ◌+◌, inl, inr, List, [], ◌∷◌, length, get_or, Bool, true, false, cond, refl, sym, ap, ap₂, ◌∙◌, arith}
use Rattle.std.specs.Prelude.{Contains, All, count_by}
use Rattle.std.specs.List.{remove}
use Rattle.std.proofs.lemmas.Bool.{cases_Bool, cond-true, lt-ltb}
use Rattle.std.proofs.lemmas.List.Sums.{sum_by-cons}
use Rattle.std.proofs.lemmas.List.Elements.{All-head, All-tail}
use Rattle.linear_algebra.specs.Field.{add, mul, order}
use Rattle.quiver_paths.specs.declared.Path.{Path}
use Rattle.quiver_paths.specs.Path.{path_length}
use Rattle.quiver_paths.proofs.ListLemmas.{Contains-cons_cases, Contains-nil}
use Rattle.path_algebra.specs.declared.Term.{Term}
use Rattle.path_algebra.specs.declared.Header.{Header}
use Rattle.path_algebra.specs.declared.rules.Rule.{Rule}
use Rattle.path_algebra.specs.Elements.{sum_of_terms, product_between}
use Rattle.path_algebra.specs.Rules.{AreElementTerms}
use Rattle.path_algebra.specs.Reduction.{HasNoTip, IsReduction}
use Rattle.path_algebra.specs.ElementTerms.{AreTermsOf, terms_behind, terms_before}
use Rattle.path_algebra.proofs.SumsOver.{sum_over_below}
use Rattle.path_algebra.proofs.TermLists.{AreElementTerms-head, AreElementTerms-tail, sum_of_terms-nil, sum_of_terms-cons}
use Rattle.path_algebra.proofs.TermProducts.{AreTermsOf-behind, AreTermsOf-before}
use Rattle.path_algebra.proofs.Derived.{AreTermsOf-same}
use Rattle.path_reduction.specs.Gaps.{IsTidy, reduced_terms}
use Rattle.path_reduction.specs.Occurrences.{part_before, part_behind}
use Rattle.path_reduction.specs.Derived.{times_path}
use Rattle.path_reduction.proofs.Sides.{path_times-times_path}
use Rattle.path_reduction.proofs.TipStands.{IsPartedAt}
use Rattle.path_reduction.proofs.Extended.{reduced_terms-nil, reduced_terms-cons}

-- ---- how many pass a test

count_by-cons_yes : {X : Type 0} (p : X → Bool) (x : X) (xs : List X) → p x ≡ true → count_by p (x ∷ xs) ≡ 1 + count_by p xs
count_by-cons_yes p x xs e = sum_by-cons (λ y. cond (p y) 1 0) x xs ∙ ap (λ b. cond b 1 0 + count_by p xs) e

count_by-cons_no : {X : Type 0} (p : X → Bool) (x : X) (xs : List X) → p x ≡ false → count_by p (x ∷ xs) ≡ count_by p xs
count_by-cons_no p x xs e = sum_by-cons (λ y. cond (p y) 1 0) x xs ∙ ap (λ b. cond b 1 0 + count_by p xs) e ∙ omega arith

-- fewer pass the stronger test
pub count_by-le : {X : Type 0} (p r : X → Bool) (xs : List X) → ((x : X) → p x ≡ true → r x ≡ true) → count_by p xs ≤ count_by r xs
count_by-le p r [] w = omega arith
count_by-le p r (x ∷ xs) w = elim (cases_Bool (p x)) [
  | inl e ↦ (let a = count_by-cons_yes p x xs e in let b = count_by-cons_yes r x xs (w x e) in let c = count_by-le p r xs w in omega arith)
  | inr e ↦ elim (cases_Bool (r x)) [
    | inl f ↦ (let a = count_by-cons_no p x xs e in let b = count_by-cons_yes r x xs f in let c = count_by-le p r xs w in omega arith)
    | inr f ↦ (let a = count_by-cons_no p x xs e in let b = count_by-cons_no r x xs f in let c = count_by-le p r xs w in omega arith)
  ]
]

pub count_by-lt : {X : Type 0} (p r : X → Bool) (xs : List X) → ((x : X) → p x ≡ true → r x ≡ true) → (y : X) → Contains xs y → p y ≡ false → r y ≡ true → count_by p xs < count_by r xs
count_by-lt p r [] w y m n k = absurd (Contains-nil y m)
count_by-lt p r (x ∷ xs) w y m n k = elim (Contains-cons_cases x xs y m) [
  | inl i ↦ (let a = count_by-cons_no p x xs (ap p i ∙ n) in let b = count_by-cons_yes r x xs (ap r i ∙ k) in let c = count_by-le p r xs w in omega arith)
  | inr m2 ↦ elim (cases_Bool (p x)) [
    | inl e ↦ (let a = count_by-cons_yes p x xs e in let b = count_by-cons_yes r x xs (w x e) in let c = count_by-lt p r xs w y m2 n k in omega arith)
    | inr e ↦ elim (cases_Bool (r x)) [
      | inl f ↦ (let a = count_by-cons_no p x xs e in let b = count_by-cons_yes r x xs f in let c = count_by-lt p r xs w y m2 n k in omega arith)
      | inr f ↦ (let a = count_by-cons_no p x xs e in let b = count_by-cons_no r x xs f in let c = count_by-lt p r xs w y m2 n k in omega arith)
    ]
  ]
]

-- ---- the tail of a rule between two paths

pub between_terms : (h : Header) (rule : Rule) (p : Path) (n : ℕ) → IsTidy h rule → IsPartedAt h p rule n
    → AreTermsOf h (product_between h.bound (part_before p rule n) (sum_of_terms h.field h.bound rule.tail.terms) (part_behind p rule n))
    (terms_behind h.bound (part_before p rule n) (terms_before h.bound (part_behind p rule n) rule.tail.terms))
between_terms h rule p n t d =
    AreTermsOf-same h _ _ _ (path_times-times_path h.bound (part_before p rule n) (sum_of_terms h.field h.bound rule.tail.terms) (part_behind p rule n))
    (AreTermsOf-behind h (part_before p rule n) (times_path h.bound (sum_of_terms h.field h.bound rule.tail.terms) (part_behind p rule n)) _ d.before_is
    (AreTermsOf-before h (part_behind p rule n) (sum_of_terms h.field h.bound rule.tail.terms) rule.tail.terms d.behind_is (record { are = t.tail; value = λ r. refl })))

-- ---- sums of what terms become

pub reduced_below : (h : Header) (becomes : Path → Path → ℕ) (terms : List Term) (r : Path) → reduced_terms h becomes terms r < order h.field
unfolding reduced_terms
reduced_below h becomes terms r = sum_over_below h.field terms _

-- a short term first
pub reduced_terms-short : (h : Header) (becomes : Path → Path → ℕ) (a : Term) (terms : List Term) (r : Path) → path_length a.path < h.bound
    → reduced_terms h becomes (a ∷ terms) r ≡ add h.field (mul h.field a.coef (becomes a.path r)) (reduced_terms h becomes terms r)
reduced_terms-short h becomes a terms r l = reduced_terms-cons h becomes a terms r ∙ ap (λ z. add h.field z (reduced_terms h becomes terms r)) (cond-true _ _ 0 (lt-ltb _ _ l))

-- terms without a tip stay
pub stays : (h : Header) (rules : List Rule) (becomes : Path → Path → ℕ) → IsReduction h rules becomes → (terms : List Term) → AreElementTerms h terms → All (λ (a : Term). HasNoTip h rules a.path) terms
    → (r : Path) → sum_of_terms h.field h.bound terms r ≡ reduced_terms h becomes terms r
stays h rules becomes red [] are no_tip r = sum_of_terms-nil h.field h.bound r ∙ sym (reduced_terms-nil h becomes r)
stays h rules becomes red (a ∷ terms) are no_tip r =
    let s = (AreElementTerms-head h a terms are).short in
    sum_of_terms-cons h.field h.bound a terms r
    ∙ ap₂ (λ x y. add h.field (mul h.field a.coef x) y) (sym (red.stays a.path s (All-head (λ (b : Term). HasNoTip h rules b.path) a terms no_tip) r))
    (stays h rules becomes red terms (AreElementTerms-tail h a terms are) (All-tail (λ (b : Term). HasNoTip h rules b.path) a terms no_tip) r)
    ∙ sym (reduced_terms-short h becomes a terms r s.short)

-- ---- as the code has them

pub first_removed : (terms new : List Term) (a : Term) → 0 < length terms → a ≡ get_or terms 0 a → new ≡ remove terms 0 → terms ≡ a ∷ new
first_removed [] new a l e r = absurd (omega arith)
first_removed (x ∷ xs) new a l e r = λ i. sym e i ∷ sym r i
