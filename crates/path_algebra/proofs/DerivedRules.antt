-- Rules and the terms of what they say is zero.
use Rattle.std.proofs.Common.{ℕ, suc, ◌≡◌, ◌<◌, inl, inr, List, [], ◌∷◌, map, length, get_or, refl, sym, ap, ap₂, ◌∙◌, subst, arith, mod-eq_of_lt}
use Rattle.std.specs.Prelude.{Contains, All}
use Rattle.std.proofs.lemmas.Bool.{cases_lt}
use Rattle.std.proofs.lemmas.List.{get_or_default}
use Rattle.std.proofs.lemmas.List.Elements.{All-map, All-weaker, All-contains, All-contains_itself}
use Rattle.linear_algebra.specs.Field.{Gf, order, add, mul, neg}
use Rattle.linear_algebra.specs.FieldLaws.{one-lt-order, neg_below, neg_neg, neg_zero, neg-add, neg_mul, one_mul, sub_def}
use Rattle.quiver_paths.specs.declared.Path.{Path}
use Rattle.quiver_paths.specs.Path.{IsPath, path_length}
use Rattle.quiver_paths.specs.PathOrder.{IsSmaller}
use Rattle.quiver_paths.proofs.ListLemmas.{AllPairs-map, Contains-map, Contains-from_map}
use Rattle.path_algebra.specs.declared.Term.{Term}
use Rattle.path_algebra.specs.declared.Header.{Header}
use Rattle.path_algebra.specs.declared.rules.Rule.{Rule}
use Rattle.path_algebra.specs.declared.rules.Step.{Step}
use Rattle.path_algebra.specs.Elements.{path_element, sum_of_terms}
use Rattle.path_algebra.specs.Words.{IsShortPath}
use Rattle.path_algebra.specs.Rules.{AreElementTerms, rule_element}
use Rattle.path_algebra.specs.Derivations.{element_at, step_elements}
use Rattle.path_algebra.specs.BasisClauses.{RuleHolds}
use Rattle.path_algebra.specs.ElementTerms.{AreTermsOf, negative, rule_terms, IsRuleOf}
use Rattle.path_algebra.proofs.ElementLemmas.{path_element-below}
use Rattle.path_algebra.proofs.TermLists.{sum_of_terms-nil, sum_of_terms-cons, AreElementTerms-cons, AreElementTerms-below, terms_from_element}

-- ---- negatives

sum_of_negatives : (q : Gf) (t : ℕ) (terms : List Term) (p : Path) → sum_of_terms q t (map (negative q) terms) p ≡ neg q (sum_of_terms q t terms p)
sum_of_negatives q t [] p = sum_of_terms-nil q t p ∙ sym (neg_zero q) ∙ ap (neg q) (sym (sum_of_terms-nil q t p))
sum_of_negatives q t (a ∷ terms) p =
    sum_of_terms-cons q t (negative q a) (map (negative q) terms) p
    ∙ ap₂ (add q) (neg_mul q a.coef (path_element t a.path p)) (sum_of_negatives q t terms p)
    ∙ sym (neg-add q (mul q a.coef (path_element t a.path p)) (sum_of_terms q t terms p))
    ∙ ap (neg q) (sym (sum_of_terms-cons q t a terms p))

rule_terms_value : (h : Header) (rule : Rule) (p : Path) → sum_of_terms h.field h.bound (rule_terms h rule) p ≡ rule_element h rule p
rule_terms_value h rule p =
    sum_of_terms-cons h.field h.bound (record { coef = 1; path = rule.tip }) (map (negative h.field) rule.tail.terms) p
    ∙ ap₂ (add h.field) (one_mul h.field _ (path_element-below h.field h.bound rule.tip p)) (sum_of_negatives h.field h.bound rule.tail.terms p)
    ∙ sym (sub_def h.field (path_element h.bound rule.tip p) (sum_of_terms h.field h.bound rule.tail.terms p))

neg_nonzero : (q : Gf) (a : ℕ) → 0 < a → a < order q → 0 < neg q a
neg_nonzero q a n l = elim (cases_lt 0 (neg q a)) [
  | inl g ↦ g
  | inr g ↦
      let none : neg q a ≡ 0 = omega arith in
      absurd (omega (arith, n, sym (mod-eq_of_lt l) ∙ sym (neg_neg q a) ∙ ap (neg q) none ∙ neg_zero q))
]

AreElementTerms-negatives : (h : Header) (terms : List Term) → AreElementTerms h terms → AreElementTerms h (map (negative h.field) terms)
AreElementTerms-negatives h terms are = record {
  descending = AllPairs-map (λ (a b : Term). IsSmaller b.path a.path) (negative h.field) terms are.descending;
  nonzero = All-map (λ (a : Term). 0 < a.coef) (negative h.field) terms (λ k d l. neg_nonzero h.field (get_or terms k d).coef (are.nonzero k d l) (are.small k d l));
  small = All-map (λ (a : Term). a.coef < order h.field) (negative h.field) terms (λ k d l. neg_below h.field (get_or terms k d).coef);
  short = All-map (λ (a : Term). IsShortPath h a.path) (negative h.field) terms are.short;
}

AreElementTerms-rule : (h : Header) (rule : Rule) → IsPath h.quiver rule.tip → path_length rule.tip < h.bound → All (λ (a : Term). IsSmaller a.path rule.tip) rule.tail.terms
    → AreElementTerms h rule.tail.terms → AreElementTerms h (rule_terms h rule)
AreElementTerms-rule h rule path short greater are =
    AreElementTerms-cons h (record { coef = 1; path = rule.tip }) (map (negative h.field) rule.tail.terms)
    (record { nonzero = omega arith; small = one-lt-order h.field; short = record { path = path; short = short } })
    (λ y m.
    let found = Contains-from_map (negative h.field) rule.tail.terms y m in
    subst (λ (z : Term). IsSmaller z.path rule.tip) found.2 (All-contains (λ (a : Term). IsSmaller a.path rule.tip) rule.tail.terms found.0 greater found.1))
    (AreElementTerms-negatives h rule.tail.terms are)

-- ---- a rule and the terms of its step

pub rule_holds_from : (h : Header) (steps : List Step) (rule : Rule) (terms : List Term) → AreTermsOf h (element_at (step_elements h steps) rule.step) terms → IsRuleOf h rule terms → RuleHolds h steps rule
rule_holds_from h steps rule terms of is =
    let are : AreElementTerms h (rule_terms h rule) = subst (AreElementTerms h) is.same of.are in
    record {
      short = is.short;
      greater = All-weaker (Contains rule.tail.terms) (λ (a : Term). IsSmaller a.path rule.tip)
          (λ a m. AreElementTerms-below h (record { coef = 1; path = rule.tip }) (map (negative h.field) rule.tail.terms) are (negative h.field a) (Contains-map (negative h.field) rule.tail.terms a m))
          rule.tail.terms (All-contains_itself rule.tail.terms);
      derived = λ p. sym (rule_terms_value h rule p) ∙ ap (λ ts. sum_of_terms h.field h.bound ts p) (sym is.same) ∙ of.value p;
    }

pub rule_of_from : (h : Header) (steps : List Step) (rule : Rule) (terms : List Term) → IsPath h.quiver rule.tip → AreElementTerms h rule.tail.terms
    → AreTermsOf h (element_at (step_elements h steps) rule.step) terms → RuleHolds h steps rule → IsRuleOf h rule terms
rule_of_from h steps rule terms path tail of holds = record {
  short = holds.short;
  same = terms_from_element h terms (rule_terms h rule) of.are (AreElementTerms-rule h rule path holds.short holds.greater tail)
      (λ p. of.value p ∙ sym (holds.derived p) ∙ sym (rule_terms_value h rule p));
}

-- ---- lists of terms, item by item

pub negatives_from_items : (q : Gf) (tail terms : List Term) → length terms ≡ length tail → ((j : ℕ) (t : Term) → j < length tail → get_or terms j t ≡ negative q (get_or tail j t))
    → terms ≡ map (negative q) tail
negatives_from_items q [] [] e same = refl
negatives_from_items q [] (y ∷ ys) e same = absurd (omega arith)
negatives_from_items q (x ∷ xs) [] e same = absurd (omega arith)
negatives_from_items q (x ∷ xs) (y ∷ ys) e same =
    let first : y ≡ negative q x = same 0 y (omega arith) in
    let rest : ys ≡ map (negative q) xs = negatives_from_items q xs ys (omega arith) (λ j t l. same (suc j) t (omega arith)) in
    λ i. first i ∷ rest i

-- ---- all rules

-- one of the rules
pub tail_at : (h : Header) (rules : List Rule) (k : ℕ) (rule : Rule) → k < length rules → rule ≡ get_or rules k rule → All (λ (r : Rule). AreElementTerms h r.tail.terms) rules → AreElementTerms h rule.tail.terms
tail_at h rules k rule l is all = subst (λ (r : Rule). AreElementTerms h r.tail.terms) (sym is) (all k rule l)

pub path_at : (h : Header) (rules : List Rule) (k : ℕ) (rule : Rule) → k < length rules → rule ≡ get_or rules k rule → All (λ (r : Rule). IsPath h.quiver r.tip) rules → IsPath h.quiver rule.tip
path_at h rules k rule l is all = subst (λ (r : Rule). IsPath h.quiver r.tip) (sym is) (all k rule l)

-- the item at a place, by two defaults
pub item_at : {X : Type 0} (xs : List X) (j k : ℕ) (d x : X) → j ≡ k → k < length xs → x ≡ get_or xs k x → x ≡ get_or xs j d
item_at xs j k d x e l is = is ∙ get_or_default xs k x d l ∙ ap (λ i. get_or xs i d) (sym e)
