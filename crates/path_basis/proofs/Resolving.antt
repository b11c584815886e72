-- What an element that is reduced gives: a new rule, or an occurrence that closes.
use Rattle.std.proofs.Common.{ℕ, ◌≡◌, ◌≢◌, ◌<◌, ◌+◌, ◌-◌, ◌⊎◌, inl, inr, List, [], ◌∷◌, ◌++◌, map, length, get_or, ◌&&◌, eqb, Bool, true, false, refl, sym, ap, ap₂, ◌∙◌, subst, arith}
use Rattle.std.specs.Prelude.{Contains, MatchBool}
use Rattle.std.proofs.lemmas.List.{get_or_default, get_or-map}
use Rattle.std.proofs.lemmas.Bool.{cases_eq, cases_lt, cases_Bool, cond-true, cond-false, and_parts, eqb-true, lt-ltb, le-ltb}
use Rattle.std.proofs.lemmas.List.Elements.{All-contains}
use Rattle.linear_algebra.specs.Field.{Gf, order, add, mul, neg, sub}
use Rattle.linear_algebra.specs.FieldLaws.{add_zero_zero, mul_zero, sub_eq_zero}
use Rattle.quiver_paths.specs.declared.Path.{Path}
use Rattle.quiver_paths.specs.Path.{IsPath, path_length, Meets, concat}
use Rattle.quiver_paths.specs.PathOrder.{IsSmaller}
use Rattle.quiver_paths.proofs.ListLemmas.{Contains-head, Contains-behind}
use Rattle.quiver_paths.proofs.PathOrderLemmas.{IsSmaller-trans}
use Rattle.path_algebra.specs.declared.Term.{Term}
use Rattle.path_algebra.specs.declared.Relation.{Relation}
use Rattle.path_algebra.specs.declared.Header.{Header}
use Rattle.path_algebra.specs.declared.rules.Rule.{Rule}
use Rattle.path_algebra.specs.declared.rules.Step.{Step}
use Rattle.path_algebra.specs.declared.rules.Step.TheVariants as step
use Rattle.path_algebra.specs.Elements.{sum_over, path_element, sum_of_terms, product_between}
use Rattle.path_algebra.specs.Ideals.{relation_element}
use Rattle.path_algebra.specs.Words.{IsShortPath}
use Rattle.path_algebra.specs.Allowed.{IsAllowed, IsParallel, IsRelation, IsTerm}
use Rattle.path_algebra.specs.Rules.{AreElementTerms, rule_element}
use Rattle.path_algebra.specs.Derivations.{element_at}
use Rattle.path_algebra.specs.Reduction.{IsReduction, sum_between}
use Rattle.path_algebra.specs.ElementTerms.{AreTermsOf}
use Rattle.path_algebra.proofs.SumsOver.{sum_over-nil, sum_over-cons, IsLinear, linear-same}
use Rattle.path_algebra.proofs.ElementLemmas.{path_element_support, product_support, product-below, sum_of_terms-below}
use Rattle.path_algebra.proofs.IdealActs.{parallel_terms}
use Rattle.path_algebra.proofs.IdealProducts.{runs_between-ends}
use Rattle.path_algebra.proofs.Congruence.{product-sub, product-tip}
use Rattle.path_algebra.proofs.Reducing.{AreRules, by_reduction, rewritten_smaller, becomes_below, sum_between_below}
use Rattle.path_algebra.proofs.ReductionExists.{HasReduction, reduction_exists}
use Rattle.path_algebra.proofs.ClausesSuffice.{term_at}
use Rattle.path_algebra.proofs.TermLists.{sum_of_terms-nil}
use Rattle.path_reduction.specs.Gaps.{IsTidy, AreTidy, reduced_terms}
use Rattle.path_reduction.specs.Occurrences.{StandsAt, part_before, part_behind}
use Rattle.path_reduction.specs.Derived.{IsDerivation, Derives, rule_between}
use Rattle.path_reduction.specs.Reducing.{AreReducedTo}
use Rattle.path_reduction.specs.FirstGaps.{ForReductions, ClosesAt, IsGap, IsFirstGap}
use Rattle.path_reduction.specs.declared.gaps.Gap.{Gap}
use Rattle.path_basis.specs.Measure.{free_count}
use Rattle.path_reduction.specs.NewRules.{AreParallel}
use Rattle.path_basis.specs.Completing.{RelationReduces, HasGrown}
use Rattle.path_reduction.proofs.TermSums.{term_nonzero}
use Rattle.path_reduction.proofs.TipStands.{IsPartedAt, parted}
use Rattle.path_reduction.proofs.Deriving.{derives_same, derives_push}
use Rattle.path_reduction.proofs.Extended.{tidy_rules, extended, extended-linear, extended-path, extended-terms, extended-between}
use Rattle.path_reduction.proofs.RuleElements.{minus}

-- ---- paths of what an element becomes

-- a sum that is not zero has a member that is not
sum_over-some : {X : Type 0} (q : Gf) (xs : List X) (f : X → ℕ) → sum_over q xs f ≢ 0 → (x : X) × Contains xs x × (f x ≢ 0)
sum_over-some q [] f n = absurd (n (sum_over-nil q f))
sum_over-some q (x ∷ xs) f n = elim (cases_eq (f x) 0) [
  | inr d ↦ (x, Contains-head x xs, d)
  | inl e ↦
      let rest = sum_over-some q xs f (λ z. n (sum_over-cons q x xs f ∙ ap₂ (add q) e z ∙ add_zero_zero q)) in
      (rest.0, Contains-behind x xs rest.0 rest.1, rest.2)
]

-- a path with the ends of the other, and no greater than it
pub record IsWithin (r p : Path) : Type 0 where
  pub parallel : IsParallel r p
  pub no_greater : (r ≡ p) ⊎ IsSmaller r p

within_itself : (r p : Path) → r ≡ p → IsWithin r p
within_itself r p e = record { parallel = record { starts = ap (λ (x : Path). x.start) e; ends = ap (λ (x : Path). x.end) e }; no_greater = inl e }

-- a member of a sum between two paths
record IsMember (becomes : Path → Path → ℕ) (u : Path) (terms : List Term) (v r : Path) : Type 0 where
  term : Term
  listed : Contains terms term
  meets_before : Meets u term.path
  meets_behind : Meets term.path v
  nonzero : becomes (concat u (concat term.path v)) r ≢ 0

sum_between-some : (h : Header) (becomes : Path → Path → ℕ) (u : Path) (terms : List Term) (v r : Path) → sum_between h becomes u terms v r ≢ 0 → IsMember becomes u terms v r
unfolding sum_between
sum_between-some h becomes u terms v r n =
    let found = sum_over-some h.field terms _ n in
    let a : Term = found.0 in
    elim (cases_Bool (eqb u.end a.path.start && eqb a.path.end v.start)) [
      | inr e ↦ absurd (found.2 (cond-false _ _ 0 e))
      | inl e ↦
          let parts = and_parts (eqb u.end a.path.start) (eqb a.path.end v.start) e in
          record {
            term = a;
            listed = found.1;
            meets_before = eqb-true _ _ parts.0;
            meets_behind = eqb-true _ _ parts.1;
            nonzero = λ z. found.2 (cond-true _ _ 0 e ∙ ap (mul h.field a.coef) z ∙ mul_zero h.field a.coef);
          }
    ]

-- a path becomes a combination of parallel paths that are no greater
pub becomes_within : (h : Header) (rules : List Rule) → AreRules h rules → (becomes : Path → Path → ℕ) → IsReduction h rules becomes → (p : Path) → IsPath h.quiver p → (r : Path) → becomes p r ≢ 0 → IsWithin r p
becomes_within h rules k becomes red = by_reduction h rules k (λ p. (r : Path) → becomes p r ≢ 0 → IsWithin r p)
    (λ p hp l r n. absurd (n (red.long p hp l r)))
    (λ p s no r n. within_itself r p (sym (path_element_support h.bound p r (λ z. n (red.stays p s no r ∙ z))).0))
    (λ p s o before r n.
    let m = sum_between-some h becomes o.before o.rule.tail.terms o.behind r (λ z. n (red.rewritten p s o r ∙ z)) in
    let q : Path = concat o.before (concat m.term.path o.behind) in
    let less : IsSmaller q p = rewritten_smaller h rules k p o m.term m.listed m.meets_before m.meets_behind in
    let w = before m.term m.listed m.meets_before m.meets_behind less r m.nonzero in
    record {
      parallel = record { starts = w.parallel.starts ∙ ap (λ (x : Path). x.start) (sym o.whole); ends = w.parallel.ends ∙ ap (λ (x : Path). x.end) (sym o.whole) };
      no_greater = inr (elim w.no_greater [ inl e ↦ subst (λ x. IsSmaller x p) (sym e) less | inr s2 ↦ IsSmaller-trans r q p s2 less ]);
    })

-- where a sum of what terms become is not zero, it is within one of their paths
pub reduced_within : (h : Header) (rules : List Rule) → AreRules h rules → (becomes : Path → Path → ℕ) → IsReduction h rules becomes → (terms : List Term) → ((a : Term) → Contains terms a → IsPath h.quiver a.path)
    → (r : Path) → reduced_terms h becomes terms r ≢ 0 → (a : Term) × Contains terms a × IsWithin r a.path
unfolding reduced_terms
reduced_within h rules k becomes red terms are r n =
    let found = sum_over-some h.field terms _ n in
    let a : Term = found.0 in (
      a,
      found.1,
      becomes_within h rules k becomes red a.path (are a found.1) r (λ z. found.2 (elim (cases_lt (path_length a.path) h.bound) [
        | inl l ↦ cond-true _ _ 0 (lt-ltb _ _ l) ∙ ap (mul h.field a.coef) z ∙ mul_zero h.field a.coef
        | inr l ↦ cond-false _ _ 0 (le-ltb _ _ l)
      ])),
    )

-- there is a reduction
pub tidy_reduction : (h : Header) (rules : List Rule) → IsAllowed h → AreTidy h rules → HasReduction h rules
tidy_reduction h rules ok tidy = reduction_exists h rules (tidy_rules h rules ok tidy) tidy.ascending tidy.apart

pub paths_of : (h : Header) (terms : List Term) → AreElementTerms h terms → (a : Term) → Contains terms a → IsPath h.quiver a.path
paths_of h terms are a m = (All-contains (λ (x : Term). IsShortPath h x.path) terms a are.short m).path

pub path_of_reduced : (h : Header) (rules : List Rule) (given terms : List Term) → IsAllowed h → AreTidy h rules → AreElementTerms h given → AreReducedTo h rules given terms → (a : Term) → Contains terms a
    → (b : Term) × Contains given b × IsWithin a.path b.path
path_of_reduced h rules given terms ok tidy are reduced a m =
    let red = tidy_reduction h rules ok tidy in
    reduced_within h rules (tidy_rules h rules ok tidy) red.becomes red.is given (paths_of h given are) a.path
    (λ z. term_nonzero h terms reduced.are a m (reduced.value red.becomes red.is a.path ∙ z))

-- what parallel terms become is parallel
pub parallel_reduced : (h : Header) (rules : List Rule) (given terms : List Term) → IsAllowed h → AreTidy h rules → AreElementTerms h given → AreParallel given → AreReducedTo h rules given terms → AreParallel terms
parallel_reduced h rules given terms ok tidy are par reduced = record {
  parallel = λ a b m n.
      let x = path_of_reduced h rules given terms ok tidy are reduced a m in
      let y = path_of_reduced h rules given terms ok tidy are reduced b n in
      let p = par.parallel x.0 y.0 x.1 y.1 in
      record {
        starts = x.2.parallel.starts ∙ p.starts ∙ sym y.2.parallel.starts;
        ends = x.2.parallel.ends ∙ p.ends ∙ sym y.2.parallel.ends;
      };
}

-- ---- elements to begin with

-- the terms of what a rule says between two paths are parallel
pub parallel_between : (h : Header) (rule : Rule) (p : Path) (n : ℕ) (terms : List Term) → AreTermsOf h (rule_between h rule p n) terms → AreParallel terms
parallel_between h rule p n terms of = record {
  parallel = λ a b m k. record { starts = (ends a m).0 ∙ sym (ends b k).0; ends = (ends a m).1 ∙ sym (ends b k).1 };
}
  where
    ends : (a : Term) → Contains terms a → (a.path.start ≡ p.start) × (a.path.end ≡ p.end)
    ends a m = runs_between-ends (part_before p rule n) (part_behind p rule n) a.path
        (product_support h.bound (part_before p rule n) (rule_element h rule) (part_behind p rule n) a.path (λ z. term_nonzero h terms of.are a m (of.value a.path ∙ z))).between

-- so are those of a relation
pub parallel_relation : (h : Header) (relation : Relation) (terms : List Term) → IsAllowed h → Contains h.relations relation → AreTermsOf h (relation_element h relation) terms → AreParallel terms
parallel_relation h relation terms ok c of = record {
  parallel = λ a b m k.
      let x = of_relation a m in
      let y = of_relation b k in
      let p = parallel_terms relation.terms (All-contains (IsRelation h) h.relations relation ok.relations c).parallel x.0 y.0 x.1 y.1 in
      record {
        starts = ap (λ (z : Path). z.start) (sym x.2) ∙ p.starts ∙ ap (λ (z : Path). z.start) y.2;
        ends = ap (λ (z : Path). z.end) (sym x.2) ∙ p.ends ∙ ap (λ (z : Path). z.end) y.2;
      };
}
  where
    of_relation : (a : Term) → Contains terms a → (b : Term) × Contains relation.terms b × (b.path ≡ a.path)
    of_relation a m = term_at h.field h.bound relation.terms a.path (λ z. term_nonzero h terms of.are a m (of.value a.path ∙ z))

-- ---- where nothing is left

-- a linear function goes into a difference
linear-sub : (h : Header) (L : (Path → ℕ) → Path → ℕ) → IsLinear h.field L → (x y : Path → ℕ) → ((p : Path) → y p < order h.field) → (r : Path) → L y r < order h.field
    → L (λ p. sub h.field (x p) (y p)) r ≡ sub h.field (L x r) (L y r)
linear-sub h L l x y small r below =
    linear-same L _ _ (λ p. sym (minus h.field (x p) (y p) (small p))) r
    ∙ l.adds x (λ p. mul h.field (neg h.field 1) (y p)) r
    ∙ ap (add h.field (L x r)) (l.scales (neg h.field 1) y r)
    ∙ minus h.field (L x r) (L y r) below

zero_reduced : (h : Header) (rules : List Rule) (becomes : Path → Path → ℕ) (x : Path → ℕ) (given : List Term) → IsAllowed h → AreTidy h rules → IsReduction h rules becomes
    → AreTermsOf h x given → AreReducedTo h rules given [] → (r : Path) → extended h becomes x r ≡ 0
zero_reduced h rules becomes x given ok tidy red of reduced r =
    linear-same (extended h becomes) x (sum_of_terms h.field h.bound given) (λ p. sym (of.value p)) r
    ∙ extended-terms h rules (tidy_rules h rules ok tidy) becomes red given (paths_of h given of.are) r
    ∙ sym (reduced.value becomes red r) ∙ sum_of_terms-nil h.field h.bound r

-- an occurrence closes
pub closes_if_zero : (h : Header) (rules : List Rule) (rule : Rule) (p : Path) (n : ℕ) (given : List Term) → IsAllowed h → AreTidy h rules → IsTidy h rule → IsPath h.quiver p → IsPartedAt h p rule n
    → AreTermsOf h (rule_between h rule p n) given → AreReducedTo h rules given [] → ForReductions h rules (λ becomes. ClosesAt h becomes rule p n)
closes_if_zero h rules rule p n given ok tidy t hp d of reduced becomes red r =
    let k = tidy_rules h rules ok tidy in
    let u = part_before p rule n in
    let v = part_behind p rule n in
    let tail = sum_of_terms h.field h.bound rule.tail.terms in
    let between = extended-between h rules k becomes red u rule.tail.terms v d.before_is d.behind_is (paths_of h rule.tail.terms t.tail) r in
    let below : extended h becomes (product_between h.bound u tail v) r < order h.field = subst (λ z. z < order h.field) (sym between) (sum_between_below h becomes u rule.tail.terms v r) in
    let whole : sub h.field (becomes p r) (sum_between h becomes u rule.tail.terms v r) ≡ 0 =
    sym (ap₂ (sub h.field) (extended-path h rules k becomes red p hp r) between)
    ∙ sym (linear-sub h (extended h becomes) (extended-linear h becomes) (path_element h.bound p) (product_between h.bound u tail v)
    (λ q. product-below h.field h.bound u tail v q (sum_of_terms-below h.field h.bound rule.tail.terms)) r below)
    ∙ linear-same (extended h becomes) _ (rule_between h rule p n)
    (λ q. sym (product-sub h.field h.bound u (path_element h.bound rule.tip) tail v q ∙ ap (λ z. sub h.field z (product_between h.bound u tail v q)) (product-tip h u rule.tip v p refl refl d.whole q))) r
    ∙ zero_reduced h rules becomes (rule_between h rule p n) given ok tidy red of reduced r in
    sym (sub_eq_zero h.field (becomes p r) _ (becomes_below h rules k becomes red p hp r) (sum_between_below h becomes u rule.tail.terms v r) whole)

-- a relation reduces to zero
pub relation_if_zero : (h : Header) (rules : List Rule) (relation : Relation) (given : List Term) → IsAllowed h → AreTidy h rules → Contains h.relations relation
    → AreTermsOf h (relation_element h relation) given → AreReducedTo h rules given [] → RelationReduces h rules relation
relation_if_zero h rules relation given ok tidy c of reduced becomes red r =
    sym (extended-terms h rules (tidy_rules h rules ok tidy) becomes red relation.terms
    (λ a m. (All-contains (IsTerm h) relation.terms a (All-contains (IsRelation h) h.relations relation ok.relations c).terms m).path) r)
    ∙ zero_reduced h rules becomes (relation_element h relation) given ok tidy red of reduced r

-- ---- answers

-- the second of two facts, where the answer is no
pub match_more : (A S B C : Type 0) (b : Bool) → (B → C) → MatchBool b A (S × B) → MatchBool b A (S × C)
match_more A S B C true f m = m
match_more A S B C false f m = (m.0, f m.1)

-- what the rule at a place says between two paths closes it
pub closes_at_place : (h : Header) (rules : List Rule) (k : ℕ) (rule : Rule) (p : Path) (n : ℕ) (given : List Term) → IsAllowed h → AreTidy h rules → k < length rules → rule ≡ get_or rules k rule → IsPath h.quiver p
    → StandsAt rule p.arrows n → AreTermsOf h (rule_between h rule p n) given → AreReducedTo h rules given [] → (d : Rule) → ForReductions h rules (λ becomes. ClosesAt h becomes (get_or rules k d) p n)
closes_at_place h rules k rule p n given ok tidy l is hp s of reduced d =
    let t : IsTidy h rule = All-contains (IsTidy h) rules rule tidy.each (k, l, sym is) in
    subst (λ (x : Rule). ForReductions h rules (λ becomes. ClosesAt h becomes x p n)) (is ∙ get_or_default rules k rule d l)
    (closes_if_zero h rules rule p n given ok tidy t hp (parted h p rule n ok.quiver.ends hp t.path t.not_trivial s) of reduced)

-- the step of a relation
pub relation_derives : (h : Header) (steps new : List Step) (i number : ℕ) (relation : Relation) (terms : List Term) → i < length h.relations → relation ≡ get_or h.relations i relation → new ≡ steps ++ step.Relation (i + 1) ∷ []
    → number ≡ length steps + 1 → IsDerivation h steps → AreTermsOf h (relation_element h relation) terms → Derives h new number (sum_of_terms h.field h.bound terms)
relation_derives h steps new i number relation terms l is pushed count lawful of =
    derives_same h new number (element_at (map (relation_element h) h.relations) (i + 1)) (sum_of_terms h.field h.bound terms)
    (λ p. ap (λ n. get_or (map (relation_element h) h.relations) n (λ _. 0) p) (omega arith)
    ∙ ap (λ (x : Path → ℕ). x p) (get_or-map (relation_element h) h.relations i relation (λ _. 0) l) ∙ ap (λ (x : Relation). relation_element h x p) (sym is) ∙ sym (of.value p))
    (derives_push h steps new (step.Relation (i + 1)) number pushed count lawful (record { from = omega arith; to = omega (arith, l) }) tt)

-- the relation at a place reduces to zero
pub relation_at_place : (h : Header) (rules : List Rule) (i : ℕ) (relation : Relation) (terms : List Term) → IsAllowed h → AreTidy h rules → i < length h.relations → relation ≡ get_or h.relations i relation
    → AreTermsOf h (relation_element h relation) terms → AreReducedTo h rules terms [] → (d : Relation) → RelationReduces h rules (get_or h.relations i d)
relation_at_place h rules i relation terms ok tidy l is of reduced d =
    subst (RelationReduces h rules) (is ∙ get_or_default h.relations i relation d l) (relation_if_zero h rules relation terms ok tidy (i, l, sym is) of reduced)

-- ---- the first gap

pub gap_is : (h : Header) (rules : List Rule) (gap : Gap) (ok : IsAllowed h) (tidy : AreTidy h rules) → ForReductions h rules (λ becomes. IsFirstGap h rules becomes gap) → IsGap h rules (tidy_reduction h rules ok tidy).becomes gap
gap_is h rules gap ok tidy found = (found (tidy_reduction h rules ok tidy).becomes (tidy_reduction h rules ok tidy).is).gap_is

-- an occurrence that does not close gives a rule
pub gap_grows : (h : Header) (old old_removed new new_removed : List Rule) (S : Type 0) (gap : Gap) (b : Bool) (ok : IsAllowed h) (tidy : AreTidy h old) → ForReductions h old (λ becomes. IsFirstGap h old becomes gap)
    → MatchBool b (HasGrown h old old_removed new new_removed) (S × ((d : Rule) → ForReductions h old (λ becomes. ClosesAt h becomes (get_or old (gap.rule - 1) d) gap.path gap.at)))
    → (b ≡ true) × (free_count h new < free_count h old)
gap_grows h old old_removed new new_removed S gap true ok tidy found m = (refl, m.fewer)
gap_grows h old old_removed new new_removed S gap false ok tidy found m =
    let red = tidy_reduction h old ok tidy in
    let d : Rule = record { tip = gap.path; tail = record { terms = [] }; step = 0 } in
    absurd ((gap_is h old gap ok tidy found).differs d (m.1 d red.becomes red.is))
