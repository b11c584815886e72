-- Rules from elements that are reduced.
use Rattle.std.proofs.Common.{ℕ, ◌≡◌, ◌<◌, ◌≤◌, List, [], ◌∷◌, map, length, get_or, drop, refl, sym, ap, ◌∙◌, subst, arith}
use Rattle.std.specs.Prelude.{Contains, All}
use Rattle.std.proofs.lemmas.List.{length-map}
use Rattle.std.proofs.lemmas.List.Elements.{All-contains, All-weaker, All-contains_itself}
use Rattle.linear_algebra.specs.Field.{mul, neg, inv}
use Rattle.linear_algebra.specs.FieldLaws.{neg_mul, one_mul, one-lt-order, mul_comm, mul_inv, inv_below, inv_nonzero}
use Rattle.quiver_paths.specs.declared.Path.{Path}
use Rattle.quiver_paths.specs.Path.{path_length}
use Rattle.quiver_paths.proofs.ListLemmas.{Contains-head, Contains-behind, Contains-from_map, Contains-map}
use Rattle.path_algebra.specs.declared.Term.{Term}
use Rattle.path_algebra.specs.declared.Header.{Header}
use Rattle.path_algebra.specs.declared.rules.Rule.{Rule}
use Rattle.path_algebra.specs.declared.rules.Step.{Step}
use Rattle.path_algebra.specs.Elements.{sum_of_terms}
use Rattle.path_algebra.specs.Words.{IsShortPath}
use Rattle.path_algebra.specs.Allowed.{IsAllowed, IsParallel}
use Rattle.path_algebra.specs.Rules.{AreElementTerms, rule_element}
use Rattle.path_algebra.specs.Derivations.{element_at, step_elements}
use Rattle.path_algebra.specs.Reduction.{HasNoTip}
use Rattle.path_algebra.specs.BasisClauses.{RuleHolds}
use Rattle.path_algebra.specs.ElementTerms.{negative, rule_terms}
use Rattle.path_algebra.proofs.IdealActs.{IsInIdeal-long}
use Rattle.path_algebra.proofs.IdealSteps.{steps_are_members}
use Rattle.path_algebra.proofs.TermLists.{sum_of_terms-head, AreElementTerms-head, AreElementTerms-tail}
use Rattle.path_algebra.proofs.DerivedRules.{rule_holds_from}
use Rattle.path_reduction.specs.Gaps.{IsTidy, AreTidy}
use Rattle.path_reduction.specs.Derived.{Derives}
use Rattle.path_reduction.specs.Scaling.{scaled, monic_terms}
use Rattle.path_reduction.specs.NewRules.{IsNewTo}
use Rattle.path_reduction.specs.NewRules.{AreParallel}
use Rattle.path_reduction.proofs.Deriving.{negative_factor}
use Rattle.path_reduction.proofs.Scaled.{AreElementTerms-scaled}

-- ---- negatives and multiples

-- negatives are multiples by minus one
pub negatives_scaled : (h : Header) (terms : List Term) → AreElementTerms h terms → map (negative h.field) terms ≡ map (scaled h.field (neg h.field 1)) terms
negatives_scaled h [] are = refl
negatives_scaled h (a ∷ terms) are =
    let coef : neg h.field a.coef ≡ mul h.field (neg h.field 1) a.coef = sym (neg_mul h.field 1 a.coef ∙ ap (neg h.field) (one_mul h.field a.coef (AreElementTerms-head h a terms are).small)) in
    let rest = negatives_scaled h terms (AreElementTerms-tail h a terms are) in
    λ i. record { coef = coef i; path = a.path } ∷ rest i

pub AreElementTerms-negated : (h : Header) (terms : List Term) → AreElementTerms h terms → AreElementTerms h (map (negative h.field) terms)
AreElementTerms-negated h terms are =
    let c = negative_factor h 1 (omega arith) (one-lt-order h.field) in
    subst (AreElementTerms h) (sym (negatives_scaled h terms are)) (AreElementTerms-scaled h (neg h.field 1) terms (λ e. (let k = c.0 in omega (arith, k, e))) c.1 are)

-- a member of multiples has the path of a member
pub from_scaled : (h : Header) (c : ℕ) (terms : List Term) (a : Term) → Contains (map (scaled h.field c) terms) a → (b : Term) × Contains terms b × (b.path ≡ a.path)
from_scaled h c terms a m = let found = Contains-from_map (scaled h.field c) terms a m in (found.0, found.1, ap (λ (x : Term). x.path) found.2)

pub from_negatives : (h : Header) (terms : List Term) (a : Term) → Contains (map (negative h.field) terms) a → (b : Term) × Contains terms b × (b.path ≡ a.path)
from_negatives h terms a m = let found = Contains-from_map (negative h.field) terms a m in (found.0, found.1, ap (λ (x : Term). x.path) found.2)

-- ---- the monic element

pub monic_are : (h : Header) (terms monic : List Term) → 0 < length terms → AreElementTerms h terms → ((x : Term) → monic ≡ monic_terms h terms x) → AreElementTerms h monic
monic_are h [] monic l are e = absurd (omega (arith, l))
monic_are h (a ∷ terms) monic l are e =
    let k = AreElementTerms-head h a terms are in
    let n = k.nonzero in
    subst (AreElementTerms h) (sym (e a)) (AreElementTerms-scaled h (inv h.field a.coef) (a ∷ terms) (inv_nonzero h.field a.coef k.small (λ z. omega (arith, n, z))) (inv_below h.field a.coef) are)

pub monic_some : (h : Header) (terms monic : List Term) (x : Term) → 0 < length terms → monic ≡ monic_terms h terms x → 0 < length monic
monic_some h terms monic x l e = (let k = ap length e ∙ length-map terms (scaled h.field (inv h.field (get_or terms 0 x).coef)) in omega (arith, l, k))

-- its first coefficient
pub monic_one : (h : Header) (terms monic : List Term) (d : Term) → 0 < length terms → AreElementTerms h terms → ((x : Term) → monic ≡ monic_terms h terms x) → (get_or monic 0 d).coef ≡ 1
monic_one h [] monic d l are e = absurd (omega (arith, l))
monic_one h (a ∷ terms) monic d l are e =
    let k = AreElementTerms-head h a terms are in
    let n = k.nonzero in
    ap (λ ts. (get_or ts 0 d).coef) (e a) ∙ mul_comm h.field (inv h.field a.coef) a.coef ∙ mul_inv h.field a.coef k.small (λ z. omega (arith, n, z))

-- ---- the rule of a reduced element

-- what is known of an element from which a rule is made
pub record GivesRule (h : Header) (rules : List Rule) (terms : List Term) (steps : List Step) (number : ℕ) : Type 0 where
  pub are : AreElementTerms h terms
  pub parallel : AreParallel terms
  pub no_tip : (a : Term) → Contains terms a → HasNoTip h rules a.path
  pub derives : Derives h steps number (sum_of_terms h.field h.bound terms)

pub gives_rule : (h : Header) (rules : List Rule) (terms monic : List Term) (steps : List Step) (number : ℕ) → 0 < length terms → AreElementTerms h terms → AreParallel terms
    → All (λ (a : Term). HasNoTip h rules a.path) terms → ((x : Term) → monic ≡ monic_terms h terms x) → Derives h steps number (sum_of_terms h.field h.bound monic) → GivesRule h rules monic steps number
gives_rule h rules terms monic steps number l are par no_tip e d = record {
  are = monic_are h terms monic l are e;
  parallel = record {
    parallel = λ a b m n.
        let p = source a m in
        let r = source b n in
        let q = par.parallel p.0 r.0 p.1 r.1 in
        record { starts = ap (λ (z : Path). z.start) (sym p.2) ∙ q.starts ∙ ap (λ (z : Path). z.start) r.2; ends = ap (λ (z : Path). z.end) (sym p.2) ∙ q.ends ∙ ap (λ (z : Path). z.end) r.2 };
  };
  no_tip = λ a m. let p = source a m in subst (HasNoTip h rules) p.2 (All-contains (λ (b : Term). HasNoTip h rules b.path) terms p.0 no_tip p.1);
  derives = d;
}
  where
    source : (a : Term) → Contains monic a → (b : Term) × Contains terms b × (b.path ≡ a.path)
    source a m = from_scaled h (inv h.field (get_or terms 0 a).coef) terms a (subst (λ ts. Contains ts a) (e a) m)

-- the new rule is tidy, and its tip has no tip as a factor
module _ (h : Header) (rules : List Rule) (terms : List Term) (steps : List Step) (rule : Rule) (ok : IsAllowed h) (tidy : AreTidy h rules) (g : GivesRule h rules terms steps rule.step)
    (is : terms ≡ rule_terms h rule) (tail : rule.tail.terms ≡ map (negative h.field) (drop 1 terms)) where
  abbrev first : Term
  first = record { coef = 1; path = rule.tip }

  abbrev rest : List Term
  rest = map (negative h.field) rule.tail.terms

  whole : AreElementTerms h (first ∷ rest)
  whole = subst (AreElementTerms h) is g.are

  head_is : Contains terms first
  head_is = subst (λ ts. Contains ts first) (sym is) (Contains-head first rest)

  short : IsShortPath h rule.tip
  short = (AreElementTerms-head h first rest whole).short

  long : 2 ≤ path_length rule.tip
  long = IsInIdeal-long h ok (element_at (step_elements h steps) rule.step) (steps_are_members h ok steps g.derives.lawful.are rule.step) rule.tip
      (λ z. let e : 1 ≡ 0 = sym (sum_of_terms-head h first rest whole) ∙ ap (λ ts. sum_of_terms h.field h.bound ts rule.tip) (sym is) ∙ sym (g.derives.value rule.tip) ∙ z in omega (arith, e))

  holds : RuleHolds h steps rule
  holds = rule_holds_from h steps rule terms (record { are = g.are; value = λ p. sym (g.derives.value p) }) (record { short = short.short; same = is })

  in_tail : (a : Term) → Contains rule.tail.terms a → Contains terms (negative h.field a)
  in_tail a m = subst (λ ts. Contains ts (negative h.field a)) (sym is) (Contains-behind first rest (negative h.field a) (Contains-map (negative h.field) rule.tail.terms a m))

  pub new_tidy : IsTidy h rule
  new_tidy = record {
    path = short.path;
    not_trivial = (let l = long in omega (arith, l));
    short = short.short;
    tail = subst (AreElementTerms h) (sym (tail ∙ ap (λ ts. map (negative h.field) (drop 1 ts)) is)) (AreElementTerms-negated h rest (AreElementTerms-tail h first rest whole));
    parallel = All-weaker (Contains rule.tail.terms) (λ (a : Term). IsParallel a.path rule.tip) (λ a m. g.parallel.parallel (negative h.field a) first (in_tail a m) head_is) rule.tail.terms (All-contains_itself rule.tail.terms);
    smaller = holds.greater;
  }

  pub is_new : IsNewTo h rules rule
  is_new = record { allowed = ok; tidy = tidy; rule_tidy = new_tidy; no_tip = g.no_tip first head_is }

  pub new_derives : Derives h steps rule.step (rule_element h rule)
  new_derives = record { lawful = g.derives.lawful; number_is = g.derives.number_is; value = λ p. sym (holds.derived p) }
