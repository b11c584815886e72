-- Rules without a gap keep having none once their tails are reduced, and then are the reduced rules.
use Rattle.std.proofs.Common.{ℕ, ◌≡◌, ◌<◌, inl, inr, List, [], ◌∷◌, ◌++◌, ◌+◌, map, length, length-append, get_or, sym, ap, ap₂, ◌∙◌, subst, arith, mod-eq_of_lt}
use Rattle.std.specs.Prelude.{Contains, All}
use Rattle.std.proofs.lemmas.Bool.{cases_eq}
use Rattle.std.proofs.Math.Seq.{get_or-append_seam}
use Rattle.std.proofs.lemmas.List.{get_or_default, get_or_append_left}
use Rattle.std.proofs.lemmas.List.Elements.{All-contains, All-weaker, All-contains_itself, All-push}
use Rattle.linear_algebra.specs.Field.{Gf, order, add, mul, neg, sub}
use Rattle.linear_algebra.specs.FieldLaws.{neg_mul, neg_neg, one_mul, mul_below}
use Rattle.quiver_paths.specs.declared.Path.{Path}
use Rattle.quiver_paths.specs.Path.{IsPath, path_length, Meets, concat, IsFactor}
use Rattle.quiver_paths.specs.PathOrder.{IsSmaller}
use Rattle.quiver_paths.proofs.PathOrderLemmas.{IsSmaller-trans}
use Rattle.path_algebra.specs.declared.Term.{Term}
use Rattle.path_algebra.specs.declared.Header.{Header}
use Rattle.path_algebra.specs.declared.rules.Rule.{Rule}
use Rattle.path_algebra.specs.declared.rules.Step.{Step}
use Rattle.path_algebra.specs.Elements.{path_element, sum_of_terms}
use Rattle.path_algebra.specs.Allowed.{IsAllowed, IsParallel}
use Rattle.path_algebra.specs.Rules.{AreElementTerms, rule_element, AreReducedRules}
use Rattle.path_algebra.specs.Derivations.{element_at, step_elements}
use Rattle.path_algebra.specs.Reduction.{HasNoTip, FirstOccurrence, IsReduction, sum_between}
use Rattle.path_algebra.specs.ElementTerms.{negative}
use Rattle.path_algebra.proofs.SumsOver.{linear-same}
use Rattle.path_algebra.proofs.ElementLemmas.{sum_of_terms-below}
use Rattle.path_algebra.proofs.IdealLemmas.{IsInIdeal-same}
use Rattle.path_algebra.proofs.IdealSteps.{steps_are_members}
use Rattle.path_reduction.specs.Gaps.{IsTidy, AreTidy, HasNoGap, reduced_terms}
use Rattle.path_reduction.specs.Derived.{Derives, Lengthens, AreDerived}
use Rattle.path_reduction.specs.Reducing.{AreReducedTo, beside}
use Rattle.path_basis.specs.Tails.{IsTailReduced, AreTailsReduced}
use Rattle.path_basis.specs.Completing.{IsClosed}
use Rattle.path_reduction.proofs.TermSums.{term_nonzero}
use Rattle.path_reduction.proofs.Deriving.{derives_same, still_derived}
use Rattle.path_reduction.proofs.Extended.{tidy_rules, extended, extended-linear, extended-terms}
use Rattle.path_reduction.proofs.Rewriting.{stays, reduced_below}
use Rattle.path_reduction.proofs.RuleElements.{minus}
use Rattle.path_reduction.proofs.Scaled.{sum_scaled}
use Rattle.path_reduction.proofs.NewRules.{negatives_scaled, AreElementTerms-negated, from_negatives}
use Rattle.path_basis.proofs.Resolving.{IsWithin, tidy_reduction, reduced_within, paths_of}
use Rattle.path_basis.proofs.NoGap.{acts_between, between_reduced, no_gap_reduced}

all_members : {X : Type 0} (P : X → Type 0) (xs : List X) → ((x : X) → Contains xs x → P x) → All P xs
all_members P xs m = All-weaker (Contains xs) P m xs (All-contains_itself xs)

-- ---- one tail

twice_minus : (q : Gf) (x : ℕ) → x < order q → mul q (neg q 1) (mul q (neg q 1) x) ≡ x
twice_minus q x l =
    let once : mul q (neg q 1) x ≡ neg q x = neg_mul q 1 x ∙ ap (neg q) (one_mul q x l) in
    ap (mul q (neg q 1)) once ∙ neg_mul q 1 (neg q x) ∙ ap (neg q) (ap (mul q 1) (sym once) ∙ one_mul q _ (mul_below q (neg q 1) x) ∙ once) ∙ neg_neg q x ∙ mod-eq_of_lt l

sum_negated : (h : Header) (terms : List Term) → AreElementTerms h terms → (p : Path) → sum_of_terms h.field h.bound (map (negative h.field) terms) p ≡ mul h.field (neg h.field 1) (sum_of_terms h.field h.bound terms p)
sum_negated h terms are p = ap (λ ts. sum_of_terms h.field h.bound ts p) (negatives_scaled h terms are) ∙ sum_scaled h.field h.bound (neg h.field 1) terms p

pub tail_reduced : (h : Header) (rules : List Rule) (rule new : Rule) (given rest : List Term) → IsAllowed h → AreTidy h rules → IsTidy h rule → new.tip ≡ rule.tip → given ≡ map (negative h.field) rule.tail.terms
    → AreReducedTo h rules given rest → new.tail.terms ≡ map (negative h.field) rest → IsTailReduced h rules rule new
tail_reduced h rules rule new given rest ok tidy t tip g reduced e = record {
  tip = tip;
  are = subst (AreElementTerms h) (sym e) (AreElementTerms-negated h rest reduced.are);
  no_tip = subst (All (λ (a : Term). HasNoTip h rules a.path)) (sym e) (all_members (λ (a : Term). HasNoTip h rules a.path) (map (negative h.field) rest) (λ a m.
      let found = from_negatives h rest a m in
      subst (HasNoTip h rules) found.2 (All-contains (λ (b : Term). HasNoTip h rules b.path) rest found.0 reduced.no_tip found.1)));
  value = λ becomes red r.
      let k = tidy_rules h rules ok tidy in
      let one = neg h.field 1 in
      let given_are : AreElementTerms h given = subst (AreElementTerms h) (sym g) (AreElementTerms-negated h rule.tail.terms t.tail) in
      ap (λ ts. sum_of_terms h.field h.bound ts r) e ∙ sum_negated h rest reduced.are r
      ∙ ap (mul h.field one) (reduced.value becomes red r
      ∙ sym (extended-terms h rules k becomes red given (paths_of h given given_are) r)
      ∙ linear-same (extended h becomes) _ (λ p. mul h.field one (sum_of_terms h.field h.bound rule.tail.terms p)) (λ p. ap (λ ts. sum_of_terms h.field h.bound ts p) g ∙ sum_negated h rule.tail.terms t.tail p) r
      ∙ (extended-linear h becomes).scales one (sum_of_terms h.field h.bound rule.tail.terms) r
      ∙ ap (mul h.field one) (extended-terms h rules k becomes red rule.tail.terms (paths_of h rule.tail.terms t.tail) r))
      ∙ twice_minus h.field (reduced_terms h becomes rule.tail.terms r) (reduced_below h becomes rule.tail.terms r);
}

-- the tip stands beside the tail
pub tail_beside : (h : Header) (steps : List Step) (number : ℕ) (rule : Rule) (given : List Term) → IsTidy h rule → given ≡ map (negative h.field) rule.tail.terms → Derives h steps number (rule_element h rule)
    → Derives h steps number (beside h (path_element h.bound rule.tip) (sum_of_terms h.field h.bound given))
tail_beside h steps number rule given t g d = derives_same h steps number (rule_element h rule) _ (λ p.
    sym (ap (add h.field (path_element h.bound rule.tip p)) (ap (λ ts. sum_of_terms h.field h.bound ts p) g ∙ sum_negated h rule.tail.terms t.tail p)
    ∙ minus h.field (path_element h.bound rule.tip p) (sum_of_terms h.field h.bound rule.tail.terms p) (sum_of_terms-below h.field h.bound rule.tail.terms p))) d

pub tail_derives : (h : Header) (steps : List Step) (number : ℕ) (tip : Path) (new : Rule) (rest : List Term) → AreElementTerms h rest → new.tip ≡ tip → new.tail.terms ≡ map (negative h.field) rest
    → Derives h steps number (beside h (path_element h.bound tip) (sum_of_terms h.field h.bound rest)) → Derives h steps number (rule_element h new)
tail_derives h steps number tip new rest are e f d = derives_same h steps number _ (rule_element h new) (λ p.
    let x = sum_of_terms h.field h.bound rest p in
    let below = sum_of_terms-below h.field h.bound rest p in
    ap (add h.field (path_element h.bound tip p)) (sym (twice_minus h.field x below))
    ∙ minus h.field (path_element h.bound tip p) (mul h.field (neg h.field 1) x) (mul_below h.field (neg h.field 1) x)
    ∙ ap₂ (λ t y. sub h.field (path_element h.bound t p) y) (sym e) (sym (ap (λ ts. sum_of_terms h.field h.bound ts p) f ∙ sum_negated h rest are p))) d

-- one more
pub tails_more : (h : Header) (rules : List Rule) (k : ℕ) (new newer : List Rule) (rule with_tail : Rule) → AreTailsReduced h rules k new → k < length rules → rule ≡ get_or rules k rule → IsTailReduced h rules rule with_tail
    → newer ≡ new ++ with_tail ∷ [] → AreTailsReduced h rules (k + 1) newer
tails_more h rules k new newer rule with_tail before l is t pushed = record {
  length_is = (let a = before.length_is in let b = ap length pushed ∙ length-append new (with_tail ∷ []) in omega (arith, a, b));
  each = λ j d m. elim (cases_eq j k) [
    | inl e ↦ subst (λ n. IsTailReduced h rules (get_or rules n d) (get_or newer n d)) (sym e)
        (subst (λ (x : Rule). IsTailReduced h rules x (get_or newer k d)) (is ∙ get_or_default rules k rule d l)
        (subst (IsTailReduced h rules rule) (sym (ap (λ xs. get_or xs k d) pushed ∙ ap (λ n. get_or (new ++ with_tail ∷ []) n d) (sym before.length_is) ∙ get_or-append_seam new with_tail [] d)) t))
    | inr n ↦
        let s : j < k = omega (arith, m, n) in
        subst (IsTailReduced h rules (get_or rules j d)) (sym (ap (λ xs. get_or xs j d) pushed ∙ get_or_append_left new (with_tail ∷ []) d j (let a = before.length_is in omega (arith, s, a)))) (before.each j d s)
  ];
}

-- the rules so far, and one more
pub derived_more : (h : Header) (old new : List Step) (rules newer : List Rule) (rule : Rule) → Lengthens old new → AreDerived h old rules → Derives h new rule.step (rule_element h rule) → newer ≡ rules ++ rule ∷ [] → AreDerived h new newer
derived_more h old new rules newer rule l derived d pushed =
    subst (AreDerived h new) (sym pushed) (All-push (λ (x : Rule). Derives h new x.step (rule_element h x)) rules rule (still_derived h old new rules l d.lawful derived) d)

-- the paths of a reduced tail are within those of the tail
within : (h : Header) (old : List Rule) → IsAllowed h → AreTidy h old → (y x : Rule) → Contains old y → IsTailReduced h old y x → (a : Term) → Contains x.tail.terms a → (b : Term) × Contains y.tail.terms b × IsWithin a.path b.path
within h old ok tidy y x m t a k =
    let red = tidy_reduction h old ok tidy in
    reduced_within h old (tidy_rules h old ok tidy) red.becomes red.is y.tail.terms (paths_of h y.tail.terms (All-contains (IsTidy h) old y tidy.each m).tail) a.path
    (λ z. term_nonzero h x.tail.terms t.are a k (t.value red.becomes red.is a.path ∙ z))

-- a rule with its tail reduced is tidy
pub tidy_with_tail : (h : Header) (old : List Rule) (y x : Rule) → IsAllowed h → AreTidy h old → Contains old y → IsTailReduced h old y x → IsTidy h x
tidy_with_tail h old y x ok tidy listed reduced =
    let t = All-contains (IsTidy h) old y tidy.each listed in
    record {
      path = subst (IsPath h.quiver) (sym reduced.tip) t.path;
      not_trivial = (let l = t.not_trivial in let e = ap path_length reduced.tip in omega (arith, l, e));
      short = subst (λ p. path_length p < h.bound) (sym reduced.tip) t.short;
      tail = reduced.are;
      parallel = all_members (λ (a : Term). IsParallel a.path x.tip) x.tail.terms (λ a k.
          let w = within h old ok tidy y x listed reduced a k in
          let q = All-contains (λ (c : Term). IsParallel c.path y.tip) y.tail.terms w.0 t.parallel w.1 in
          record {
            starts = w.2.parallel.starts ∙ q.starts ∙ ap (λ (p : Path). p.start) (sym reduced.tip);
            ends = w.2.parallel.ends ∙ q.ends ∙ ap (λ (p : Path). p.end) (sym reduced.tip);
          });
      smaller = all_members (λ (a : Term). IsSmaller a.path x.tip) x.tail.terms (λ a k.
          let w = within h old ok tidy y x listed reduced a k in
          let s = All-contains (λ (c : Term). IsSmaller c.path y.tip) y.tail.terms w.0 t.smaller w.1 in
          subst (IsSmaller a.path) (sym reduced.tip) (elim w.2.no_greater [
            | inl e ↦ subst (λ p. IsSmaller p y.tip) (sym e) s
            | inr less ↦ IsSmaller-trans a.path w.0.path y.tip less s
          ]));
    }

-- ---- all of them

module _ (h : Header) (old new : List Rule) (ok : IsAllowed h) (tidy : AreTidy h old) (reduced : AreTailsReduced h old (length old) new) where
  -- the rule whose tail was reduced, and the rule with the reduced tail
  record IsBefore (x : Rule) : Type 0 where
    rule : Rule
    listed : Contains old rule
    tail : IsTailReduced h old rule x

  before : (x : Rule) → Contains new x → IsBefore x
  before x m =
      let l : m.0 < length old = (let a = m.1 in let b = reduced.length_is in omega (arith, a, b)) in
      record {
        rule = get_or old m.0 x;
        listed = (m.0, l, get_or_default old m.0 (get_or old m.0 x) x l);
        tail = subst (IsTailReduced h old (get_or old m.0 x)) m.2 (reduced.each m.0 x l);
      }

  record IsAfter (y : Rule) : Type 0 where
    rule : Rule
    listed : Contains new rule
    tail : IsTailReduced h old y rule

  after : (y : Rule) → Contains old y → IsAfter y
  after y m =
      let l : m.0 < length new = (let a = m.1 in let b = reduced.length_is in omega (arith, a, b)) in
      record {
        rule = get_or new m.0 y;
        listed = (m.0, l, get_or_default new m.0 (get_or new m.0 y) y l);
        tail = subst (λ r. IsTailReduced h old r (get_or new m.0 y)) m.2 (reduced.each m.0 y m.1);
      }

  tidy_of : (y : Rule) → Contains old y → IsTidy h y
  tidy_of y m = All-contains (IsTidy h) old y tidy.each m

  new_rule_tidy : (x : Rule) → Contains new x → IsTidy h x
  new_rule_tidy x m = (let b = before x m in tidy_with_tail h old b.rule x ok tidy b.listed b.tail)

  factor_by : (p t u : Path) → t ≡ u → IsFactor h.quiver t p → IsFactor h.quiver u p
  factor_by p t u e f = record {
    before = f.before;
    behind = f.behind;
    before_is = f.before_is;
    behind_is = f.behind_is;
    meets_before = f.meets_before ∙ ap (λ (x : Path). x.start) e;
    meets_behind = ap (λ (x : Path). x.end) (sym e) ∙ f.meets_behind;
    whole = subst (λ x. p ≡ concat f.before (concat x f.behind)) e f.whole;
  }

  pub new_tidy : AreTidy h new
  new_tidy = record {
    each = all_members (IsTidy h) new new_rule_tidy;
    ascending = λ i j d l m.
        let count = reduced.length_is in
        let a = reduced.each i d (omega (arith, l, m, count)) in
        let b = reduced.each j d (omega (arith, m, count)) in
        subst (λ p. IsSmaller p (get_or new j d).tip) (sym a.tip) (subst (IsSmaller (get_or old i d).tip) (sym b.tip) (tidy.ascending i j d l (omega (arith, m, count))));
    apart = λ a b m n d f.
        let x = before a m in
        let y = before b n in
        tidy.apart x.rule y.rule x.listed y.listed (λ e. d (x.tail.tip ∙ e ∙ sym y.tail.tip))
        (factor_by y.rule.tip a.tip x.rule.tip x.tail.tip (subst (IsFactor h.quiver a.tip) y.tail.tip f));
  }

  pub no_tip_new : (p : Path) → HasNoTip h old p → HasNoTip h new p
  no_tip_new p n rule m f = let b = before rule m in n b.rule b.listed (factor_by p rule.tip b.rule.tip b.tail.tip f)

  no_tip_old : (p : Path) → HasNoTip h new p → HasNoTip h old p
  no_tip_old p n rule m f = let a = after rule m in n a.rule a.listed (factor_by p rule.tip a.rule.tip (sym a.tail.tip) f)

  module _ (becomes : Path → Path → ℕ) (red : IsReduction h old becomes) (closed : HasNoGap h old becomes) where
    -- both tails give the same between two paths
    same_between : (y x : Rule) → Contains old y → Contains new x → IsTailReduced h old y x → (u v : Path) → IsPath h.quiver u → IsPath h.quiver v → Meets u y.tip → Meets y.tip v → (r : Path)
        → sum_between h becomes u x.tail.terms v r ≡ sum_between h becomes u y.tail.terms v r
    same_between y x m n t u v hu hv mu mv r =
        let b = acts_between h old ok tidy becomes red closed u v hu hv in
        let tx = new_rule_tidy x n in
        let ty = tidy_of y m in
        between_reduced h old ok tidy becomes red closed u v hu hv x.tail.terms tx.tail
        (λ a k. let q = All-contains (λ (c : Term). IsParallel c.path x.tip) x.tail.terms a tx.parallel k in
        (mu ∙ ap (λ (p : Path). p.start) (sym t.tip) ∙ sym q.starts, q.ends ∙ ap (λ (p : Path). p.end) t.tip ∙ mv)) r
        ∙ linear-same b.acts _ _ (λ p. sym (stays h old becomes red x.tail.terms t.are t.no_tip p) ∙ t.value becomes red p) r
        ∙ sym (between_reduced h old ok tidy becomes red closed u v hu hv y.tail.terms ty.tail
        (λ a k. let q = All-contains (λ (c : Term). IsParallel c.path y.tip) y.tail.terms a ty.parallel k in (mu ∙ sym q.starts, q.ends ∙ mv)) r)

    occurrence_old : (p : Path) (o : FirstOccurrence h new p) (b : IsBefore o.rule) → FirstOccurrence h old p
    unfolding factor_by
    occurrence_old p o b = record {
      rule = b.rule;
      before = o.before;
      behind = o.behind;
      listed = b.listed;
      before_is = o.before_is;
      behind_is = o.behind_is;
      meets_before = o.meets_before ∙ ap (λ (x : Path). x.start) b.tail.tip;
      meets_behind = ap (λ (x : Path). x.end) (sym b.tail.tip) ∙ o.meets_behind;
      whole = subst (λ x. p ≡ concat o.before (concat x o.behind)) b.tail.tip o.whole;
      first = λ other m f. let a = after other m in o.first a.rule a.listed (factor_by p other.tip a.rule.tip (sym a.tail.tip) f);
    }

    reduction_new : IsReduction h new becomes
    unfolding occurrence_old
    reduction_new = record {
      long = red.long;
      stays = λ p s n r. red.stays p s (no_tip_old p n) r;
      rewritten = λ p s o r.
          let b = before o.rule o.listed in
          red.rewritten p s (occurrence_old p o b) r
          ∙ sym (same_between b.rule o.rule b.listed o.listed b.tail o.before o.behind o.before_is o.behind_is (o.meets_before ∙ ap (λ (x : Path). x.start) b.tail.tip) (ap (λ (x : Path). x.end) (sym b.tail.tip) ∙ o.meets_behind) r);
    }

    no_gap_new : HasNoGap h new becomes
    unfolding factor_by
    no_gap_new p hp l rule m f r =
        let b = before rule m in
        let g = factor_by p rule.tip b.rule.tip b.tail.tip f in
        same_between b.rule rule b.listed m b.tail f.before f.behind f.before_is f.behind_is g.meets_before g.meets_behind r ∙ closed p hp l b.rule b.listed g r

    pub tails_give_reduced : (steps : List Step) → AreDerived h steps new → IsClosed h old → AreReducedRules h new
    tails_give_reduced steps derived is_closed = no_gap_reduced h new becomes ok new_tidy reduction_new no_gap_new
        (λ rule m. let d = All-contains (λ (x : Rule). Derives h steps x.step (rule_element h x)) new rule derived m in
        IsInIdeal-same h (element_at (step_elements h steps) rule.step) (rule_element h rule) (λ p. sym (d.value p)) (steps_are_members h ok steps d.lawful.are rule.step))
        (λ relation m r. is_closed.relations relation m becomes red r)
        (all_members (λ (rule : Rule). All (λ (a : Term). HasNoTip h new a.path) rule.tail.terms) new (λ rule m.
        let b = before rule m in
        all_members (λ (a : Term). HasNoTip h new a.path) rule.tail.terms (λ a k. no_tip_new a.path (All-contains (λ (c : Term). HasNoTip h old c.path) rule.tail.terms a b.tail.no_tip k))))

-- completed rules with reduced tails are the reduced rules
pub closed_reduced : (h : Header) (old new : List Rule) (steps : List Step) → IsAllowed h → AreTidy h old → IsClosed h old → AreTailsReduced h old (length old) new → AreDerived h steps new → AreReducedRules h new
closed_reduced h old new steps ok tidy closed reduced derived =
    let red = tidy_reduction h old ok tidy in
    tails_give_reduced h old new ok tidy reduced red.becomes red.is (closed.no_gap red.becomes red.is) steps derived closed
