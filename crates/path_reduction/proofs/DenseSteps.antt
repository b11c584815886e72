-- One place of a reduction: the tail of a rule is added, and what the element becomes stays.
use Rattle.std.proofs.Common.{ℕ, ◌≡◌, ◌≢◌, ◌<◌, ◌≤◌, ◌+◌, inl, inr, List, [], ◌∷◌, ◌++◌, length, take, set, get_or, refl, sym, ap, ap₂, ◌∙◌, subst, arith, mod-eq_of_lt}
use Rattle.std.specs.Prelude.{Contains, All, Option, None, Some, IfSome, IfNone, MatchOption}
use mathlib.Core.Path.{fun_ext}
use Rattle.std.proofs.lemmas.Bool.{cases_eq, cases_lt}
use Rattle.std.proofs.lemmas.List.{get_or-set_same, get_or-set_other, take_more, append-nil}
use Rattle.std.proofs.lemmas.List.Elements.{All-contains, Contains-get_or}
use Rattle.linear_algebra.specs.Field.{Gf, add, mul, neg, sub, order}
use Rattle.linear_algebra.specs.FieldLaws.{add_assoc, add_left_comm, add_comm, add_swap, add_neg, zero_add, add_zero, add_below, mul_below, mul_zero, mul_add, mul_assoc, neg_mul, neg_neg, neg-add, sub_def}
use Rattle.linear_algebra.specs.Rows.{IsRow}
use Rattle.quiver_paths.specs.declared.Path.{Path}
use Rattle.quiver_paths.specs.Path.{path_length, concat, Meets}
use Rattle.quiver_paths.specs.PathOrder.{IsSmaller}
use Rattle.quiver_paths.specs.PathList.{ListsPathsBelow}
use Rattle.quiver_paths.proofs.PathLemmas.{IsPath-same, IsPath-concat}
use Rattle.quiver_paths.proofs.PathListLemmas.{smaller_places}
use Rattle.quiver_paths.proofs.PathOrderLemmas.{IsSmaller-concat}
use Rattle.path_algebra.specs.declared.Term.{Term}
use Rattle.path_algebra.specs.declared.Header.{Header}
use Rattle.path_algebra.specs.declared.rules.Rule.{Rule}
use Rattle.path_algebra.specs.Allowed.{IsAllowed, IsParallel}
use Rattle.path_algebra.specs.Elements.{path_element, sum_of_terms, product_between}
use Rattle.path_algebra.specs.Rows.{path_at}
use Rattle.path_algebra.specs.Words.{IsShortPath}
use Rattle.path_algebra.specs.Rules.{AreElementTerms}
use Rattle.path_algebra.specs.ElementTerms.{AreTermsOf}
use Rattle.path_algebra.specs.Reduction.{HasNoTip}
use Rattle.path_algebra.proofs.SumsOver.{linear-same}
use Rattle.path_algebra.proofs.ElementLemmas.{path_element-long, combination-below, sum_of_terms-append, product-add, product-path}
use Rattle.path_algebra.proofs.Combinations.{combination_support}
use Rattle.path_algebra.proofs.Congruence.{mul-sub, product-sub, product-tip}
use Rattle.path_algebra.proofs.IdealProducts.{product-nothing}
use Rattle.path_algebra.proofs.TermLists.{sum_of_terms-nil, sum_of_terms-cons}
use Rattle.path_reduction.specs.Gaps.{IsTidy, AreTidy}
use Rattle.path_reduction.specs.Occurrences.{EndsFirst, part_before, part_behind}
use Rattle.path_reduction.specs.ShortPaths.{IsWalked}
use Rattle.path_reduction.specs.Derived.{plus_rule}
use Rattle.path_reduction.specs.Reducing.{AreReducedTo, beside, extended, row_element, HoldsElement, AreZeros, IsReducing, IsAdded, AreMet, multiple_between, IsRewritten}
use Rattle.path_reduction.proofs.PathPlaces.{path_at-is, path_at-place, listed_path, listed_short}
use Rattle.path_reduction.proofs.DenseElements.{row_small, element_grown, element_cleared, element_at}
use Rattle.path_reduction.proofs.TermSums.{term_nonzero}
use Rattle.path_reduction.proofs.TipStands.{IsPartedAt, parted, first_occurrence_at}
use Rattle.path_reduction.proofs.Extended.{tidy_rules, extended-linear, extended-path, extended-terms, extended-between}
use Rattle.path_reduction.proofs.Rewriting.{stays}

-- ---- one product is added

-- a coefficient is added at a place, or nothing at none
abbrev pub AddsAt : Header → ℕ → List ℕ → List ℕ → Option ℕ → Type 0
AddsAt h c row new found = MatchOption found (new ≡ row) (λ k. new ≡ set row k (add h.field (get_or row k 0) c))

pub adds_row : (h : Header) (n c : ℕ) (row new : List ℕ) (found : Option ℕ) → IsRow h.field n row → AddsAt h c row new found → IsRow h.field n new
adds_row h n c row new None r adds = subst (IsRow h.field n) (sym adds) r
adds_row h n c row new (Some k) r adds = subst (IsRow h.field n) (sym adds) (row_small h.field n k _ row r (add_below h.field _ _))

-- one term more
sum_more : (h : Header) (terms : List Term) (i : ℕ) (a : Term) (p : Path) → i < length terms → a ≡ get_or terms i a
    → sum_of_terms h.field h.bound (take (i + 1) terms) p ≡ add h.field (sum_of_terms h.field h.bound (take i terms) p) (mul h.field a.coef (path_element h.bound a.path p))
sum_more h terms i a p l is =
    ap (λ ts. sum_of_terms h.field h.bound ts p) (take_more terms i a l ∙ ap (λ (x : Term). take i terms ++ x ∷ []) (sym is))
    ∙ sum_of_terms-append h.field h.bound (take i terms) (a ∷ []) p
    ∙ ap (add h.field (sum_of_terms h.field h.bound (take i terms) p))
    (sum_of_terms-cons h.field h.bound a [] p ∙ ap (add h.field (mul h.field a.coef (path_element h.bound a.path p))) (sum_of_terms-nil h.field h.bound p) ∙ add_zero h.field _ (mul_below h.field _ _))

-- the terms of an element are written as its coefficients
pub holds_none : (h : Header) (paths : List Path) (row : List ℕ) → IsRow h.field (length paths) row → ((r : Path) → row_element h paths row r ≡ 0) → HoldsElement h paths (sum_of_terms h.field h.bound []) row
holds_none h paths row is z = record { row_is = is; value = λ r. z r ∙ sym (sum_of_terms-nil h.field h.bound r) }

pub holds_more : (h : Header) (paths : List Path) (terms : List Term) (i place : ℕ) (a : Term) (row new : List ℕ) → i < length terms → a ≡ get_or terms i a → place < length paths → path_at paths place ≡ a.path
    → new ≡ set row place (add h.field (get_or row place 0) a.coef) → HoldsElement h paths (sum_of_terms h.field h.bound (take i terms)) row → HoldsElement h paths (sum_of_terms h.field h.bound (take (i + 1) terms)) new
holds_more h paths terms i place a row new l is m e adds before = record {
  row_is = subst (IsRow h.field (length paths)) (sym adds) (row_small h.field (length paths) place _ row before.row_is (add_below h.field _ _));
  value = λ r.
      ap (λ ys. row_element h paths ys r) adds ∙ element_grown h paths row place a.coef r before.row_is m
      ∙ ap₂ (λ x p. add h.field x (mul h.field a.coef (path_element h.bound p r))) (before.value r) e
      ∙ sym (sum_more h terms i a r l is);
}

-- the sum of the terms between two paths, with one term more
between_more : (h : Header) (u v : Path) (terms : List Term) (i : ℕ) (a : Term) (r : Path) → i < length terms → a ≡ get_or terms i a → Meets u a.path → Meets a.path v
    → product_between h.bound u (sum_of_terms h.field h.bound (take (i + 1) terms)) v r
    ≡ add h.field (product_between h.bound u (sum_of_terms h.field h.bound (take i terms)) v r) (mul h.field a.coef (path_element h.bound (concat u (concat a.path v)) r))
between_more h u v terms i a r l is mu mv =
    ap (λ x. product_between h.bound u x v r) (fun_ext (λ p. sum_more h terms i a p l is))
    ∙ product-add h.field h.bound u (sum_of_terms h.field h.bound (take i terms)) (λ p. mul h.field a.coef (path_element h.bound a.path p)) v r
    ∙ ap (add h.field (product_between h.bound u (sum_of_terms h.field h.bound (take i terms)) v r)) (product-path h.field h.bound a.coef u a.path v r mu mv)

module _ (h : Header) (paths : List Path) (first : ℕ) (terms : List Term) (arrows : List ℕ) (u v p : Path) (are : AreMet h paths first terms arrows u v p) where
  -- where a walk leads
  walked_whole : (a : Term) → Contains terms a → (k : ℕ) → IsWalked paths first (a.path.arrows ++ arrows) k → path_at paths k ≡ concat u (concat a.path v)
  walked_whole a m k w =
      let is = are.each a m in
      IsPath-same h.quiver (path_at paths k) (concat u (concat a.path v)) (listed_path h.quiver h.bound paths are.lists k w.inside)
      (IsPath-concat h.quiver u (concat a.path v) are.before_is (IsPath-concat h.quiver a.path v is.path are.behind_is is.behind) is.before)
      (w.start ∙ ap (λ (x : Path). x.start) are.first_is)
      (w.whole ∙ ap₂ (λ (x : Path) ys. x.arrows ++ (a.path.arrows ++ ys)) are.first_is (sym are.arrows_are))

  -- where none leads, the product is too long
  walked_long : (a : Term) → Contains terms a → ((k : ℕ) → IsWalked paths first (a.path.arrows ++ arrows) k → ⊥) → h.bound ≤ path_length (concat u (concat a.path v))
  walked_long a m n = elim (cases_lt (path_length (concat u (concat a.path v))) h.bound) [
    | inr l ↦ l
    | inl l ↦
        let is = are.each a m in
        let place = path_at-place paths (concat u (concat a.path v)) (are.lists.all (concat u (concat a.path v))
        (IsPath-concat h.quiver u (concat a.path v) are.before_is (IsPath-concat h.quiver a.path v is.path are.behind_is is.behind) is.before) l) in
        absurd (n place.0 (record {
          inside = place.1;
          start = ap (λ (x : Path). x.start) (place.2 ∙ ap (λ (x : Path). concat x (concat a.path v)) (sym are.first_is));
          whole = ap (λ (x : Path). x.arrows) place.2 ∙ ap₂ (λ (x : Path) ys. x.arrows ++ (a.path.arrows ++ ys)) (sym are.first_is) are.arrows_are;
        }))
  ]

  pub added_none : (c : ℕ) (row : List ℕ) → IsRow h.field (length paths) row → IsAdded h paths (multiple_between h c u (take 0 terms) v) p row row
  added_none c row is = record {
    row_is = is;
    kept = λ j n i. get_or row j 0;
    value = λ r. sym (ap (add h.field (row_element h paths row r))
        (ap (mul h.field c) (ap (λ x. product_between h.bound u x v r) (fun_ext (λ s. sum_of_terms-nil h.field h.bound s)) ∙ product-nothing h.bound u v r) ∙ mul_zero h.field c)
        ∙ add_zero h.field _ (combination-below h.field h.bound row paths r));
  }

  -- the values, where the product with one term has grown the row
  grown_value : (c : ℕ) (old row new : List ℕ) (i : ℕ) (a : Term) (r : Path) → i < length terms → a ≡ get_or terms i a → Contains terms a
      → row_element h paths row r ≡ add h.field (row_element h paths old r) (multiple_between h c u (take i terms) v r)
      → row_element h paths new r ≡ add h.field (row_element h paths row r) (mul h.field (mul h.field c a.coef) (path_element h.bound (concat u (concat a.path v)) r))
      → row_element h paths new r ≡ add h.field (row_element h paths old r) (multiple_between h c u (take (i + 1) terms) v r)
  grown_value c old row new i a r l is m e f =
      let q = h.field in
      let b : ℕ = product_between h.bound u (sum_of_terms q h.bound (take i terms)) v r in
      let x : ℕ = path_element h.bound (concat u (concat a.path v)) r in
      f
      ∙ ap₂ (add q) e (mul_assoc q c a.coef x)
      ∙ add_assoc q (row_element h paths old r) (mul q c b) (mul q c (mul q a.coef x))
      ∙ ap (add q (row_element h paths old r))
      (sym (ap (mul q c) (between_more h u v terms i a r l is (are.each a m).before (are.each a m).behind) ∙ mul_add q c b (mul q a.coef x)))

  pub added_more : (c : ℕ) (old row new : List ℕ) (i : ℕ) (a : Term) (found : Option ℕ) → i < length terms → a ≡ get_or terms i a
      → IfSome found (IsWalked paths first (a.path.arrows ++ arrows)) → IfNone found ((k : ℕ) → IsWalked paths first (a.path.arrows ++ arrows) k → ⊥)
      → AddsAt h (mul h.field c a.coef) row new found
      → IsAdded h paths (multiple_between h c u (take i terms) v) p old row → IsAdded h paths (multiple_between h c u (take (i + 1) terms) v) p old new
  added_more c old row new i a None l is some none adds before =
      let m : Contains terms a = (i, l, sym is) in
      record {
        row_is = subst (IsRow h.field (length paths)) (sym adds) before.row_is;
        kept = λ j n. ap (λ ys. get_or ys j 0) adds ∙ before.kept j n;
        value = λ r. grown_value c old row new i a r l is m (before.value r)
            (ap (λ ys. row_element h paths ys r) adds
            ∙ sym (ap (add h.field (row_element h paths row r)) (ap (mul h.field (mul h.field c a.coef)) (path_element-long h.bound (concat u (concat a.path v)) r (walked_long a m none)) ∙ mul_zero h.field _)
            ∙ add_zero h.field _ (combination-below h.field h.bound row paths r)));
      }
  added_more c old row new i a (Some k) l is some none adds before =
      let m : Contains terms a = (i, l, sym is) in
      let whole = walked_whole a m k some in
      record {
        row_is = subst (IsRow h.field (length paths)) (sym adds) (row_small h.field (length paths) k _ row before.row_is (add_below h.field _ _));
        kept = λ j n. ap (λ ys. get_or ys j 0) adds
            ∙ get_or-set_other row k j _ 0 (λ e. n (subst (λ x. IsSmaller x p) (sym (ap (path_at paths) e ∙ whole)) (are.each a m).smaller))
            ∙ before.kept j n;
        value = λ r. grown_value c old row new i a r l is m (before.value r)
            (ap (λ ys. row_element h paths ys r) adds ∙ element_grown h paths row k (mul h.field c a.coef) r before.row_is some.inside
            ∙ ap (λ x. add h.field (row_element h paths row r) (mul h.field (mul h.field c a.coef) (path_element h.bound x r))) whole);
      }

-- all terms were added
pub added_all : (h : Header) (paths : List Path) (c : ℕ) (u v p : Path) (terms most : List Term) (old new : List ℕ) → most ≡ terms
    → IsAdded h paths (multiple_between h c u most v) p old new → IsAdded h paths (multiple_between h c u terms v) p old new
added_all h paths c u v p terms most old new e a = subst (λ ts. IsAdded h paths (multiple_between h c u ts v) p old new) e a

-- ---- the tail of a rule is met by what stands about its tip

pub tail_met : (h : Header) (paths : List Path) (rule : Rule) (p : Path) (n first : ℕ) → ListsPathsBelow h.quiver h.bound paths → IsTidy h rule → IsPartedAt h p rule n
    → first < length paths → (path_at paths first).start ≡ p.start → (path_at paths first).arrows ≡ (part_before p rule n).arrows
    → AreMet h paths first rule.tail.terms (part_behind p rule n).arrows (part_before p rule n) (part_behind p rule n) p
tail_met h paths rule p n first lists t d l s e = record {
  lists = lists;
  first_is = IsPath-same h.quiver (path_at paths first) (part_before p rule n) (listed_path h.quiver h.bound paths lists first l) d.before_is s e;
  arrows_are = refl;
  before_is = d.before_is;
  behind_is = d.behind_is;
  each = λ a m.
      let parallel = All-contains (λ (b : Term). IsParallel b.path rule.tip) rule.tail.terms a t.parallel m in
      record {
        path = (All-contains (λ (b : Term). IsShortPath h b.path) rule.tail.terms a t.tail.short m).path;
        before = sym parallel.starts;
        behind = parallel.ends;
        smaller = subst (IsSmaller (concat (part_before p rule n) (concat a.path (part_behind p rule n)))) (sym d.whole)
            (IsSmaller-concat (part_before p rule n) a.path rule.tip (part_behind p rule n) (sym parallel.starts) refl
            (All-contains (λ (b : Term). IsSmaller b.path rule.tip) rule.tail.terms a t.smaller m));
      };
}

-- what stands before the tip of a short path is a short path, which is found
pub front_found : (h : Header) (paths : List Path) (rule : Rule) (p : Path) (n start : ℕ) → ListsPathsBelow h.quiver h.bound paths → IsPartedAt h p rule n → path_length (part_before p rule n) < h.bound
    → (path_at paths start).start ≡ p.start → (path_at paths start).arrows ≡ [] → (k : ℕ) × IsWalked paths start ((part_before p rule n).arrows ++ []) k
front_found h paths rule p n start lists d l s e =
    let place = path_at-place paths (part_before p rule n) (lists.all (part_before p rule n) d.before_is l) in (
      place.0,
      record {
        inside = place.1;
        start = ap (λ (x : Path). x.start) place.2 ∙ sym s;
        whole = ap (λ (x : Path). x.arrows) place.2 ∙ sym (append-nil _) ∙ ap (λ xs. xs ++ ((part_before p rule n).arrows ++ [])) (sym e);
      },
    )

-- ---- what the element becomes

pub reducing_begins : (h : Header) (rules : List Rule) (given : List Term) (paths : List Path) (row : List ℕ) (place : ℕ) → IsAllowed h → AreTidy h rules → AreElementTerms h given → length paths ≤ place
    → HoldsElement h paths (sum_of_terms h.field h.bound given) row → IsReducing h rules given paths row place
reducing_begins h rules given paths row place ok tidy are l holds = record {
  row_is = holds.row_is;
  no_tip = λ j m b n. absurd (omega arith);
  value = λ becomes red r.
      linear-same (extended h becomes) _ _ holds.value r
      ∙ extended-terms h rules (tidy_rules h rules ok tidy) becomes red given (λ y m. (All-contains (λ (b : Term). IsShortPath h b.path) given y are.short m).path) r;
}

-- places without a coefficient are passed by
pub reducing_down : (h : Header) (rules : List Rule) (given : List Term) (paths : List Path) (row : List ℕ) (end place : ℕ) → AreZeros row place end → IsReducing h rules given paths row end
    → IsReducing h rules given paths row place
reducing_down h rules given paths row end place z s = record {
  row_is = s.row_is;
  no_tip = λ j l b n. elim (cases_lt j end) [ inl m ↦ absurd (n (z j l m)) | inr m ↦ s.no_tip j m b n ];
  value = s.value;
}

-- nothing is to do at a place
pub reducing_passes : (h : Header) (rules : List Rule) (given : List Term) (paths : List Path) (row : List ℕ) (place : ℕ) → (get_or row place 0 ≢ 0 → HasNoTip h rules (path_at paths place))
    → IsReducing h rules given paths row (place + 1) → IsReducing h rules given paths row place
reducing_passes h rules given paths row place f s = record {
  row_is = s.row_is;
  no_tip = λ j l b n. elim (cases_eq j place) [
    | inl e ↦ subst (λ i. HasNoTip h rules (path_at paths i)) (sym e) (f (subst (λ i. get_or row i 0 ≢ 0) e n))
    | inr d ↦ s.no_tip j (omega (arith, l, d)) b n
  ];
  value = s.value;
}

-- a path that is rewritten
pub reducing_rewrites : (h : Header) (rules : List Rule) (given : List Term) (paths : List Path) (row new : List ℕ) (place tip n : ℕ) (d : Rule) → IsAllowed h → AreTidy h rules
    → ListsPathsBelow h.quiver h.bound paths → place < length paths → EndsFirst rules (path_at paths place).arrows tip n → IsRewritten h paths (get_or rules tip d) place n row new
    → IsReducing h rules given paths row (place + 1) → IsReducing h rules given paths new place
unfolding first_occurrence_at
reducing_rewrites h rules given paths row new place tip n d ok tidy lists l first w s =
    let rule : Rule = get_or rules tip d in
    let p : Path = path_at paths place in
    let hp = listed_path h.quiver h.bound paths lists place l in
    let short : IsShortPath h p = record { path = hp; short = listed_short h.quiver h.bound paths lists place l } in
    let k = tidy_rules h rules ok tidy in
    let t = tidy.each tip d first.inside in
    let o = first_occurrence_at h rules p tip n d ok tidy hp first in
    let parts = parted h p rule n ok.quiver.ends hp t.path t.not_trivial (first.stands d) in
    record {
      row_is = w.row_is;
      no_tip = λ j b m z.
          let same = w.kept j (above j b m) in
          elim (cases_eq j place) [
            | inl e ↦ absurd (z (same ∙ ap (λ i. get_or (set row place 0) i 0) e ∙ get_or-set_same row place 0 0 (omega (arith, l, s.row_is.count))))
            | inr f ↦ s.no_tip j (omega (arith, b, f)) m (λ g. z (same ∙ get_or-set_other row place j 0 0 f ∙ g))
          ];
      value = λ becomes red r.
          linear-same (extended h becomes) _ _ w.value r
          ∙ (extended-linear h becomes).adds (row_element h paths (set row place 0)) _ r
          ∙ ap (add h.field (extended h becomes (row_element h paths (set row place 0)) r))
          ((extended-linear h becomes).scales (get_or row place 0) _ r
          ∙ ap (mul h.field (get_or row place 0)) (extended-between h rules k becomes red (part_before p rule n) rule.tail.terms (part_behind p rule n) parts.before_is parts.behind_is
          (λ y m. (All-contains (λ (b : Term). IsShortPath h b.path) rule.tail.terms y t.tail.short m).path) r
          ∙ sym (red.rewritten p short o r)
          ∙ sym (extended-path h rules k becomes red p hp r))
          ∙ sym ((extended-linear h becomes).scales (get_or row place 0) (path_element h.bound p) r))
          ∙ add_comm h.field _ _
          ∙ sym (linear-same (extended h becomes) _ _ (λ x. element_cleared h paths row place x s.row_is l) r
          ∙ (extended-linear h becomes).adds (λ x. mul h.field (get_or row place 0) (path_element h.bound p x)) (row_element h paths (set row place 0)) r)
          ∙ s.value becomes red r;
    }
  where
    above : (j : ℕ) → place ≤ j → j < length paths → IsSmaller (path_at paths j) (path_at paths place) → ⊥
    above j b m c =
        let far = smaller_places paths lists.ascending j place (path_at paths place) m l
        (subst (IsSmaller (get_or paths j (path_at paths place))) (path_at-is paths place (path_at paths place) l) (subst (λ x. IsSmaller x (path_at paths place)) (path_at-is paths j (path_at paths place) m) c)) in
        omega (arith, far, b)

-- no place is left
pub reducing_ends : (h : Header) (rules : List Rule) (given : List Term) (paths : List Path) (row : List ℕ) (end : ℕ) (terms : List Term) → IsAllowed h → AreTidy h rules → ListsPathsBelow h.quiver h.bound paths
    → AreZeros row 0 end → IsReducing h rules given paths row end → AreTermsOf h (row_element h paths row) terms → AreReducedTo h rules given terms
reducing_ends h rules given paths row end terms ok tidy lists z s of = record {
  are = of.are;
  no_tip = free;
  value = λ becomes red r.
      stays h rules becomes red terms of.are free r
      ∙ sym (extended-terms h rules (tidy_rules h rules ok tidy) becomes red terms (λ y m. (All-contains (λ (b : Term). IsShortPath h b.path) terms y of.are.short m).path) r)
      ∙ linear-same (extended h becomes) _ _ of.value r
      ∙ s.value becomes red r;
}
  where
    at : (y : Term) → Contains terms y → HasNoTip h rules y.path
    at y m =
        let some : row_element h paths row y.path ≢ 0 = λ e. term_nonzero h terms of.are y m (of.value y.path ∙ e) in
        let place' = path_at-place paths y.path (combination_support h.field h.bound row paths y.path some) in
        subst (HasNoTip h rules) place'.2
        ((reducing_down h rules given paths row end 0 z s).no_tip place'.0 (omega arith) place'.1 (λ e. some (ap (row_element h paths row) (sym place'.2) ∙ element_at h paths row place'.0 lists s.row_is place'.1 ∙ e)))

    free : All (λ (a : Term). HasNoTip h rules a.path) terms
    free k d l = at (get_or terms k d) (Contains-get_or terms k d l)

-- ---- what is derived

-- what is added to the element and taken from it
subtracted : (q : Gf) (d e r f : ℕ) → f < order q → add q (add q d (add q e r)) (neg q (sub q e f)) ≡ add q d (add q r f)
subtracted q d e r f l =
    ap₂ (add q) (add_left_comm q d e r) (ap (neg q) (sub_def q e f) ∙ neg-add q e (neg q f) ∙ ap (add q (neg q e)) (neg_neg q f ∙ mod-eq_of_lt l))
    ∙ add_swap q e (add q d r) (neg q e) f
    ∙ ap (λ z. add q z (add q (add q d r) f)) (add_neg q e)
    ∙ zero_add q _ (add_below q (add q d r) f)
    ∙ add_assoc q d r f

-- the element that the new step makes
pub rewritten_element : (h : Header) (x : Path → ℕ) (paths : List Path) (row new : List ℕ) (rule : Rule) (place n : ℕ) → IsRow h.field (length paths) row → place < length paths
    → IsPartedAt h (path_at paths place) rule n → IsRewritten h paths rule place n row new
    → (r : Path) → plus_rule h (beside h x (row_element h paths row)) (neg h.field (get_or row place 0)) rule (path_at paths place) n r ≡ beside h x (row_element h paths new) r
rewritten_element h x paths row new rule place n is l parts w r =
    let q = h.field in
    let p : Path = path_at paths place in
    let c : ℕ = get_or row place 0 in
    let s = sum_of_terms q h.bound in
    let between : ℕ = product_between h.bound (part_before p rule n) (s rule.tail.terms) (part_behind p rule n) r in
    let at : ℕ = path_element h.bound p r in
    ap₂ (λ y z. add q (add q (x r) y) z) (element_cleared h paths row place r is l)
    (ap (mul q (neg q c)) (product-sub q h.bound (part_before p rule n) (path_element h.bound rule.tip) (s rule.tail.terms) (part_behind p rule n) r
    ∙ ap (λ z. sub q z between) (product-tip h (part_before p rule n) rule.tip (part_behind p rule n) p refl refl parts.whole r))
    ∙ neg_mul q c (sub q at between) ∙ ap (neg q) (mul-sub q c at between))
    ∙ subtracted q (x r) (mul q c at) (row_element h paths (set row place 0) r) (mul q c between) (mul_below q c between)
    ∙ ap (add q (x r)) (sym (w.value r))
