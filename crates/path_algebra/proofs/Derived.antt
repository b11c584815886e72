-- The terms of the steps' elements.
use Rattle.std.proofs.Common.{ℕ, ◌≡◌, ◌<◌, ◌≤◌, ◌+◌, List, [], ◌∷◌, ◌++◌, take, length, length-append, get_or, refl, sym, ap, ◌∙◌, arith}
use Rattle.std.proofs.lemmas.List.{take_more}
use Rattle.linear_algebra.specs.Field.{add, mul}
use Rattle.linear_algebra.specs.FieldLaws.{add_zero, mul_zero, mul_below, one_mul}
use Rattle.quiver_paths.specs.declared.Path.{Path}
use Rattle.quiver_paths.specs.Path.{path_length}
use Rattle.path_algebra.specs.declared.Term.{Term}
use Rattle.path_algebra.specs.declared.Header.{Header}
use Rattle.path_algebra.specs.declared.rules.Step.{Step}
use Rattle.path_algebra.specs.Elements.{path_element, sum_of_terms}
use Rattle.path_algebra.specs.Allowed.{IsTerm}
use Rattle.path_algebra.specs.Rules.{AreElementTerms}
use Rattle.path_algebra.specs.Derivations.{step_element, elements_behind}
use Rattle.path_algebra.specs.ElementTerms.{AreTermsOf, plus_multiple}
use Rattle.path_algebra.proofs.ElementLemmas.{path_element-long, sum_of_terms-below, sum_of_terms-append}
use Rattle.path_algebra.proofs.TermLists.{sum_of_terms-nil, sum_of_terms-cons, AreElementTerms-one}

-- ---- relations

pub AreTermsOf-same : (h : Header) (x y : Path → ℕ) (terms : List Term) → ((p : Path) → x p ≡ y p) → AreTermsOf h x terms → AreTermsOf h y terms
AreTermsOf-same h x y terms e of = record { are = of.are; value = λ p. of.value p ∙ e p }

pub long_term : (h : Header) (sum : List Term) (a : Term) → AreElementTerms h sum → h.bound ≤ path_length a.path
    → AreTermsOf h (λ p. add h.field (sum_of_terms h.field h.bound sum p) (mul h.field a.coef (path_element h.bound a.path p))) sum
long_term h sum a are l = record {
  are = are;
  value = λ p. sym (ap (add h.field (sum_of_terms h.field h.bound sum p)) (ap (mul h.field a.coef) (path_element-long h.bound a.path p l) ∙ mul_zero h.field a.coef)
      ∙ add_zero h.field _ (sum_of_terms-below h.field h.bound sum p));
}

pub one_term : (h : Header) (a : Term) → IsTerm h a → path_length a.path < h.bound → AreElementTerms h (a ∷ [])
one_term h a t l = AreElementTerms-one h a (record { nonzero = t.nonzero; small = t.small; short = record { path = t.path; short = l } })

-- a list with one item, as the code makes it
pub one_item : {X : Type 0} (lent made empty : List X) (copy a : X) → lent ≡ made → made ≡ empty ++ copy ∷ [] → empty ≡ [] → copy ≡ a → lent ≡ a ∷ []
one_item lent made empty copy a l m e c = l ∙ m ∙ (λ i. e i ++ c i ∷ [])

pub short_term : (h : Header) (sum longer : List Term) (a : Term)
    → AreTermsOf h (plus_multiple h.field (sum_of_terms h.field h.bound sum) 1 (sum_of_terms h.field h.bound (a ∷ []))) longer
    → AreTermsOf h (λ p. add h.field (sum_of_terms h.field h.bound sum p) (mul h.field a.coef (path_element h.bound a.path p))) longer
short_term h sum longer a of = AreTermsOf-same h _ _ longer
    (λ p. ap (add h.field (sum_of_terms h.field h.bound sum p)) (one_mul h.field _ (sum_of_terms-below h.field h.bound (a ∷ []) p)
    ∙ sum_of_terms-cons h.field h.bound a [] p ∙ ap (add h.field (mul h.field a.coef (path_element h.bound a.path p))) (sum_of_terms-nil h.field h.bound p) ∙ add_zero h.field _ (mul_below h.field _ _))) of

-- the sum of the first terms, and of one more
pub one_term_more : (h : Header) (terms : List Term) (i : ℕ) (a : Term) (sum longer : List Term) → i < length terms → a ≡ get_or terms i a
    → AreTermsOf h (sum_of_terms h.field h.bound (take i terms)) sum
    → AreTermsOf h (λ p. add h.field (sum_of_terms h.field h.bound sum p) (mul h.field a.coef (path_element h.bound a.path p))) longer
    → AreTermsOf h (sum_of_terms h.field h.bound (take (i + 1) terms)) longer
one_term_more h terms i a sum longer l e of more = AreTermsOf-same h _ _ longer
    (λ p.
    let q = h.field in
    let one : Term → ℕ = λ (x : Term). mul q x.coef (path_element h.bound x.path p) in
    ap (λ z. add q z (one a)) (of.value p)
    ∙ sym (ap (λ ts. sum_of_terms q h.bound ts p) (take_more terms i a l ∙ ap (λ (x : Term). take i terms ++ x ∷ []) (sym e))
    ∙ sum_of_terms-append q h.bound (take i terms) (a ∷ []) p
    ∙ ap (add q (sum_of_terms q h.bound (take i terms) p)) (sum_of_terms-cons q h.bound a [] p ∙ ap (add q (one a)) (sum_of_terms-nil q h.bound p) ∙ add_zero q _ (mul_below q _ _)))) more

-- ---- steps

-- the elements of steps and one more
pub elements_behind-push : (h : Header) (earlier : List (Path → ℕ)) (steps : List Step) (s : Step)
    → elements_behind h earlier (steps ++ s ∷ []) ≡ elements_behind h earlier steps ++ step_element h (elements_behind h earlier steps) s ∷ []
unfolding elements_behind
elements_behind-push h earlier [] s = refl
elements_behind-push h earlier (r ∷ steps) s = elements_behind-push h (earlier ++ step_element h earlier r ∷ []) steps s

-- there are as many elements as steps
pub elements_behind-length : (h : Header) (earlier : List (Path → ℕ)) (steps : List Step) → length (elements_behind h earlier steps) ≡ length earlier + length steps
unfolding elements_behind
elements_behind-length h earlier [] = omega arith
elements_behind-length h earlier (s ∷ steps) =
    elements_behind-length h (earlier ++ step_element h earlier s ∷ []) steps ∙ (let k = length-append earlier (step_element h earlier s ∷ []) in omega arith)
