-- What rules say between two paths, as terms, and rules from terms.
use Rattle.std.proofs.Common.{ℕ, ◌≡◌, ◌<◌, ◌≤◌, ◌+◌, List, [], ◌∷◌, ◌++◌, map, length, take, get_or, refl, sym, ap, ap₂, ◌∙◌, subst, mod-eq_of_lt}
use Rattle.std.specs.Prelude.{All}
use Rattle.std.proofs.lemmas.List.{take_more, map-append}
use Rattle.std.proofs.lemmas.List.Elements.{All-head, All-tail}
use Rattle.linear_algebra.specs.Field.{Gf, add, mul, neg, sub, order}
use Rattle.linear_algebra.specs.FieldLaws.{one_mul, neg_mul, neg_neg, sub_def, add_zero}
use Rattle.quiver_paths.specs.declared.Path.{Path}
use Rattle.quiver_paths.specs.Path.{IsPath, path_length}
use Rattle.path_algebra.specs.declared.Term.{Term}
use Rattle.path_algebra.specs.declared.Header.{Header}
use Rattle.path_algebra.specs.declared.rules.Rule.{Rule}
use Rattle.path_algebra.specs.Elements.{sum_of_terms, path_element, product_between}
use Rattle.path_algebra.specs.Rules.{AreElementTerms}
use Rattle.path_algebra.specs.ElementTerms.{AreTermsOf, plus_multiple, terms_behind, terms_before, negative, rule_terms}
use Rattle.path_algebra.proofs.ElementLemmas.{path_element-long, path_element-below, product-below, sum_of_terms-below}
use Rattle.path_algebra.proofs.Congruence.{product-sub, product-tip}
use Rattle.path_algebra.proofs.TermLists.{sum_of_terms-nil, sum_of_terms-cons, AreElementTerms-nil}
use Rattle.path_algebra.proofs.Derived.{AreTermsOf-same}
use Rattle.path_reduction.specs.Gaps.{IsTidy}
use Rattle.path_reduction.specs.Occurrences.{part_before, part_behind}
use Rattle.path_reduction.specs.Derived.{rule_between}
use Rattle.path_reduction.proofs.TipStands.{IsPartedAt}
use Rattle.path_reduction.proofs.Rewriting.{between_terms}
use Rattle.path_reduction.proofs.Closing.{one_path, one_path_terms}

pub path_terms_long : (h : Header) (p : Path) → h.bound ≤ path_length p → AreTermsOf h (path_element h.bound p) []
path_terms_long h p l = record { are = AreElementTerms-nil h; value = λ r. sum_of_terms-nil h.field h.bound r ∙ sym (path_element-long h.bound p r l) }

pub path_terms_short : (h : Header) (p : Path) → IsPath h.quiver p → path_length p < h.bound → AreTermsOf h (path_element h.bound p) (one_path p)
path_terms_short h p hp l = record {
  are = one_path_terms h p hp l;
  value = λ r.
      sum_of_terms-cons h.field h.bound (record { coef = 1; path = p }) [] r
      ∙ ap₂ (add h.field) (one_mul h.field _ (path_element-below h.field h.bound p r)) (sum_of_terms-nil h.field h.bound r)
      ∙ add_zero h.field _ (path_element-below h.field h.bound p r);
}

-- less is plus minus one times
pub minus : (q : Gf) (x y : ℕ) → y < order q → add q x (mul q (neg q 1) y) ≡ sub q x y
minus q x y l = ap (add q x) (neg_mul q 1 y ∙ ap (neg q) (one_mul q y l)) ∙ sym (sub_def q x y)

pub between_element : (h : Header) (rule : Rule) (p : Path) (n k : ℕ) (whole tail first second terms : List Term) → IsTidy h rule → IsPartedAt h p rule n → k ≡ neg h.field 1
    → AreTermsOf h (path_element h.bound p) whole → tail ≡ terms_behind h.bound (part_before p rule n) (terms_before h.bound (part_behind p rule n) rule.tail.terms)
    → first ≡ whole → second ≡ tail
    → AreTermsOf h (plus_multiple h.field (sum_of_terms h.field h.bound first) k (sum_of_terms h.field h.bound second)) terms → AreTermsOf h (rule_between h rule p n) terms
between_element h rule p n k whole tail first second terms t d minus_one path_is tail_is e f of =
    let u = part_before p rule n in
    let v = part_behind p rule n in
    let s = sum_of_terms h.field h.bound in
    AreTermsOf-same h _ (rule_between h rule p n) terms
    (λ r.
    ap₂ (λ x y. add h.field x (mul h.field k y)) (ap (λ ts. s ts r) e ∙ path_is.value r) (ap (λ ts. s ts r) (f ∙ tail_is) ∙ (between_terms h rule p n t d).value r)
    ∙ ap (λ z. add h.field (path_element h.bound p r) (mul h.field z (product_between h.bound u (s rule.tail.terms) v r))) minus_one
    ∙ minus h.field (path_element h.bound p r) _ (product-below h.field h.bound u (s rule.tail.terms) v r (sum_of_terms-below h.field h.bound rule.tail.terms))
    ∙ sym (product-sub h.field h.bound u (path_element h.bound rule.tip) (s rule.tail.terms) v r
    ∙ ap (λ z. sub h.field z (product_between h.bound u (s rule.tail.terms) v r)) (product-tip h u rule.tip v p refl refl d.whole r))) of

-- ---- rules from terms

twice_negative : (q : Gf) (terms : List Term) → All (λ (a : Term). a.coef < order q) terms → map (negative q) (map (negative q) terms) ≡ terms
twice_negative q [] small = refl
twice_negative q (a ∷ terms) small =
    let coef : neg q (neg q a.coef) ≡ a.coef = neg_neg q a.coef ∙ mod-eq_of_lt (All-head (λ (b : Term). b.coef < order q) a terms small) in
    let rest = twice_negative q terms (All-tail (λ (b : Term). b.coef < order q) a terms small) in
    λ i. record { coef = coef i; path = a.path } ∷ rest i

pub rule_from_terms : (h : Header) (terms rest read tail : List Term) (a : Term) (step : ℕ) → terms ≡ a ∷ rest → a.coef ≡ 1 → AreElementTerms h terms → read ≡ rest → tail ≡ map (negative h.field) read
    → terms ≡ rule_terms h (record { tip = a.path; tail = record { terms = tail }; step = step })
rule_from_terms h terms rest read tail a step whole one are e is =
    let small = All-tail (λ (b : Term). b.coef < order h.field) a rest (subst (All (λ (b : Term). b.coef < order h.field)) whole are.small) in
    let twice : map (negative h.field) tail ≡ rest = ap (map (negative h.field)) (is ∙ ap (map (negative h.field)) e) ∙ twice_negative h.field rest small in
    whole ∙ (λ i. record { coef = one i; path = a.path } ∷ sym twice i)

pub rest_small : (h : Header) (terms rest read : List Term) (a : Term) → terms ≡ a ∷ rest → AreElementTerms h terms → read ≡ rest → All (λ (b : Term). b.coef < order h.field) read
rest_small h terms rest read a whole are e =
    subst (All (λ (b : Term). b.coef < order h.field)) (sym e) (All-tail (λ (b : Term). b.coef < order h.field) a rest (subst (All (λ (b : Term). b.coef < order h.field)) whole are.small))

pub negatives_more : (q : Gf) (terms others new : List Term) (i : ℕ) (x : Term) (coef : ℕ) (path : Path) → i < length terms → x ≡ get_or terms i x → others ≡ map (negative q) (take i terms)
    → coef ≡ neg q x.coef → path ≡ x.path → new ≡ others ++ record { coef = coef; path = path } ∷ [] → new ≡ map (negative q) (take (i + 1) terms)
negatives_more q terms others new i x coef path l is before c p pushed =
    pushed ∙ (λ j. before j ++ record { coef = c j; path = p j } ∷ [])
    ∙ sym (ap (map (negative q)) (take_more terms i x l ∙ ap (λ y. take i terms ++ y ∷ []) (sym is)) ∙ map-append (negative q) (take i terms) (x ∷ []))
