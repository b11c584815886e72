-- What meets the five clauses: the words are the normal words and a basis of the quotient, and the rules are the reduced rules.
use Rattle.std.proofs.Common.{ℕ, ◌≡◌, ◌≢◌, ◌<◌, ◌≤◌, inl, inr, List, [], ◌∷◌, map, refl, sym, ap, ap₂, ◌∙◌, subst, arith, mod-eq_of_lt}
use Rattle.std.specs.Prelude.{Contains, All}
use Rattle.std.proofs.lemmas.Bool.{cases_eq}
use Rattle.std.proofs.lemmas.List.{length-map}
use Rattle.std.proofs.lemmas.List.Elements.{All-contains, All-contains_itself, All-map, All-weaker, All-head, All-tail}
use Rattle.linear_algebra.specs.Field.{Gf, order, add, mul, sub}
use Rattle.linear_algebra.specs.FieldLaws.{order-pos, mul_zero, zero_mul, mul_one, add_zero_zero, sub_zero, sub_eq_zero, one-lt-order}
use Rattle.quiver_paths.specs.declared.Path.{Path}
use Rattle.quiver_paths.specs.Path.{IsPath, path_length, IsFactor}
use Rattle.quiver_paths.specs.PathOrder.{IsSmaller}
use Rattle.quiver_paths.specs.PathList.{ListsPathsBelow, paths_below}
use Rattle.quiver_paths.proofs.ListLemmas.{Contains-head, Contains-behind, Contains-map}
use Rattle.quiver_paths.proofs.PathLemmas.{IsPath-factor, IsFactor-trans, length-factor}
use Rattle.quiver_paths.proofs.PathOrderLemmas.{IsSmaller-irreflexive, IsSmaller-asymmetric}
use Rattle.quiver_paths.proofs.PathListLemmas.{lists_paths_below}
use Rattle.path_algebra.specs.declared.Term.{Term}
use Rattle.path_algebra.specs.declared.Header.{Header}
use Rattle.path_algebra.specs.declared.rules.Rule.{Rule}
use Rattle.path_algebra.specs.declared.rules.Step.{Step}
use Rattle.path_algebra.specs.Elements.{sum_over, path_element, sum_of_terms, combination}
use Rattle.path_algebra.specs.Ideals.{IsInIdeal}
use Rattle.path_algebra.specs.Words.{IsShortPath, IsGreatestPath, IsTip, IsNormal, AreNormalWords, IsExpansion, IsBasis}
use Rattle.path_algebra.specs.Allowed.{IsAllowed}
use Rattle.path_algebra.specs.Rules.{AreElementTerms, rule_element, IsReducedRule, AreReducedRules}
use Rattle.path_algebra.specs.Derivations.{element_at, step_elements, AreSteps}
use Rattle.path_algebra.specs.Reduction.{HasNoTip}
use Rattle.path_algebra.specs.BasisClauses.{RuleHolds, RulesHold, ReducedHolds, WordsHold, ActionHolds, MeetsClauses, IsBasisClaim}
use Rattle.path_algebra.proofs.ElementLemmas.{path_element-self, path_element-other, path_element_support, combination-below}
use Rattle.path_algebra.proofs.Between.{cases_path}
use Rattle.linear_algebra.proofs.ReducedSpans.{sub_sub}
use Rattle.path_algebra.proofs.Combinations.{AreDistinct, combination-outside, combination-map, coefficients_from_combination, map-same}
use Rattle.path_algebra.proofs.IdealLemmas.{IsInIdeal-below, IsInIdeal-same, IsInIdeal-sub, IsInIdeal_support}
use Rattle.path_algebra.proofs.SumsOver.{sum_over_below, sum_over-zeros}
use Rattle.path_algebra.proofs.Acting.{sum_over-one, cases_listed}
use Rattle.path_algebra.proofs.Occurrences.{cases_occurrence}
use Rattle.path_algebra.proofs.Reducing.{AreRules, tail_term, becomes_below, becomes-outside, becomes-greater}
use Rattle.path_algebra.proofs.Independent.{AreActedOn}
use Rattle.path_algebra.proofs.IdealActs.{ActAsZero, IsInIdeal-long, independent}
use Rattle.path_algebra.proofs.NormalFactors.{whole_factor, tip_between}
use Rattle.path_algebra.proofs.Quotient.{sub-sub_sub}
use Rattle.path_algebra.proofs.IdealSteps.{steps_are_members}
use Rattle.path_algebra.proofs.Congruence.{sums_congruent, congruent_to_reduction}

-- a sum of terms is zero at a path that none of them has
pub sum_of_terms-outside : (q : Gf) (t : ℕ) (terms : List Term) (p : Path) → All (λ (a : Term). a.path ≡ p → ⊥) terms → sum_of_terms q t terms p ≡ 0
unfolding sum_of_terms
sum_of_terms-outside q t [] p n = refl
sum_of_terms-outside q t (a ∷ terms) p n =
    ap₂ (add q) (ap (mul q a.coef) (path_element-other t a.path p (All-head (λ (x : Term). x.path ≡ p → ⊥) a terms n)) ∙ mul_zero q a.coef)
    (sum_of_terms-outside q t terms p (All-tail (λ (x : Term). x.path ≡ p → ⊥) a terms n))
    ∙ add_zero_zero q

-- a term with a path at which their sum is not zero
pub term_at : (q : Gf) (t : ℕ) (terms : List Term) (p : Path) → sum_of_terms q t terms p ≢ 0 → (a : Term) × Contains terms a × (a.path ≡ p)
unfolding sum_of_terms
term_at q t [] p n = absurd (n refl)
term_at q t (a ∷ terms) p n = elim (cases_eq (path_element t a.path p) 0) [
  | inr d ↦ (a, Contains-head a terms, (path_element_support t a.path p d).0)
  | inl e ↦
      let rest = term_at q t terms p (λ z. n (ap₂ (add q) (ap (mul q a.coef) e ∙ mul_zero q a.coef) z ∙ add_zero_zero q)) in
      (rest.0, Contains-behind a terms rest.0 rest.1, rest.2)
]

-- the tip of a rule that is greater than its tail is the greatest path of what the rule says
pub rule_at_tip : (h : Header) (rule : Rule) → path_length rule.tip < h.bound → All (λ (a : Term). IsSmaller a.path rule.tip) rule.tail.terms → rule_element h rule rule.tip ≡ 1
rule_at_tip h rule short greater =
    ap₂ (sub h.field) (path_element-self h.bound rule.tip short)
    (sum_of_terms-outside h.field h.bound rule.tail.terms rule.tip (All-weaker (λ (a : Term). IsSmaller a.path rule.tip) (λ (a : Term). a.path ≡ rule.tip → ⊥)
    (λ a s e. IsSmaller-irreflexive rule.tip (subst (λ x. IsSmaller x rule.tip) e s)) rule.tail.terms greater))
    ∙ sub_zero h.field 1 (one-lt-order h.field)

pub rule_greatest : (h : Header) (rule : Rule) → path_length rule.tip < h.bound → All (λ (a : Term). IsSmaller a.path rule.tip) rule.tail.terms → IsGreatestPath (rule_element h rule) rule.tip
rule_greatest h rule short greater = record {
  nonzero = λ e. absurd (omega (arith, sym (rule_at_tip h rule short greater) ∙ e));
  greatest = λ r n. elim (cases_path rule.tip r) [
    | inl e ↦ inl (sym e)
    | inr d ↦
        let a = term_at h.field h.bound rule.tail.terms r (λ z. n (ap₂ (sub h.field) (path_element-other h.bound rule.tip r d) z ∙ sub_zero h.field 0 (order-pos h.field))) in
        inr (subst (λ x. IsSmaller x rule.tip) a.2 (All-contains (λ (x : Term). IsSmaller x.path rule.tip) rule.tail.terms a.0 greater a.1))
  ];
}

-- ---- where the steps and the rules hold

module _ (h : Header) (steps : List Step) (rules : List Rule) (ok : IsAllowed h) (named : AreSteps h steps) (hold : RulesHold h steps rules) where
  pub held_rule : (rule : Rule) → Contains rules rule → RuleHolds h steps rule
  held_rule rule m = All-contains (RuleHolds h steps) rules rule hold m

  -- each rule is in the ideal
  pub rule_in_ideal : (rule : Rule) → Contains rules rule → IsInIdeal h (rule_element h rule)
  rule_in_ideal rule m = IsInIdeal-same h (element_at (step_elements h steps) rule.step) (rule_element h rule) (held_rule rule m).derived (steps_are_members h ok steps named rule.step)

  pub one_at_tip : (rule : Rule) → Contains rules rule → rule_element h rule rule.tip ≡ 1
  one_at_tip rule m = rule_at_tip h rule (held_rule rule m).short (held_rule rule m).greater

  -- a tip has two arrows or more
  pub long_tip : (rule : Rule) → Contains rules rule → 2 ≤ path_length rule.tip
  long_tip rule m = IsInIdeal-long h ok (rule_element h rule) (rule_in_ideal rule m) rule.tip (λ e. omega (arith, sym (one_at_tip rule m) ∙ e))

-- ---- where all conditions hold

-- Rules in the ideal, by which words are judged: tips are greater than tails, and the last three clauses hold.
pub record AreSound (h : Header) (words : List Path) (rules : List Rule) : Type 0 where
  pub are : AreRules h rules
  pub short : (rule : Rule) → Contains rules rule → path_length rule.tip < h.bound
  pub member : (rule : Rule) → Contains rules rule → IsInIdeal h (rule_element h rule)
  pub reduced : ReducedHolds h rules
  pub word : WordsHold h words rules
  pub action : ActionHolds h words rules

-- what meets the clauses is so
pub are_sound : (h : Header) (words : List Path) (steps : List Step) (rules : List Rule) → IsAllowed h → IsBasisClaim h words steps rules → MeetsClauses h words steps rules → AreSound h words rules
are_sound h words steps rules ok claim c = record {
  are = record {
    allowed = ok;
    tips = claim.tips;
    tails = claim.tails;
    greater = All-weaker (RuleHolds h steps) (λ (x : Rule). All (λ (a : Term). IsSmaller a.path x.tip) x.tail.terms) (λ x r. r.greater) rules c.rule;
  };
  short = λ rule m. (held_rule h steps rules ok c.step.named c.rule rule m).short;
  member = rule_in_ideal h steps rules ok c.step.named c.rule;
  reduced = c.reduced;
  word = c.word;
  action = c.action;
}

module _ (h : Header) (words : List Path) (rules : List Rule) (c : AreSound h words rules) where
  abbrev ok : IsAllowed h
  ok = c.are.allowed

  greater_of : (rule : Rule) → Contains rules rule → All (λ (a : Term). IsSmaller a.path rule.tip) rule.tail.terms
  greater_of rule m = All-contains (λ (x : Rule). All (λ (a : Term). IsSmaller a.path x.tip) x.tail.terms) rules rule c.are.greater m

  tip_long : (rule : Rule) → Contains rules rule → 2 ≤ path_length rule.tip
  tip_long rule m = IsInIdeal-long h ok (rule_element h rule) (c.member rule m) rule.tip (λ e. omega (arith, sym (rule_at_tip h rule (c.short rule m) (greater_of rule m)) ∙ e))

  pub acted_on : AreActedOn h words rules c.action.becomes
  acted_on = record { are = c.are; tips_long = tip_long; reduced = c.reduced; listed = c.word; reduction = c.action.reduction }

  act_as_zero : ActAsZero h words c.action.becomes
  act_as_zero = record { relations = c.action.relations; long = c.action.long }

  abbrev becomes : Path → Path → ℕ
  becomes = c.action.becomes

  becomes_small : (p : Path) → IsPath h.quiver p → (r : Path) → becomes p r < order h.field
  becomes_small = becomes_below h rules c.are becomes c.action.reduction

  becomes_outside : (p : Path) → IsPath h.quiver p → (r : Path) → (Contains words r → ⊥) → becomes p r ≡ 0
  becomes_outside = becomes-outside h rules c.are becomes c.action.reduction words c.word

  congruent : (p : Path) → IsPath h.quiver p → IsInIdeal h (λ r. sub h.field (path_element h.bound p r) (becomes p r))
  congruent = congruent_to_reduction h rules c.are becomes c.action.reduction c.member

  distinct : AreDistinct h.bound words
  distinct = record { ascending = c.word.ascending; short = λ p m. (c.word.only p m).0.short }

  -- a member of the ideal that is a combination of words is zero
  zero_of_words : (x : Path → ℕ) → IsInIdeal h x → ((r : Path) → (Contains words r → ⊥) → x r ≡ 0) → (p : Path) → x p ≡ 0
  zero_of_words x m o = independent h words rules becomes acted_on act_as_zero x m (record { small = IsInIdeal-below h x m; outside = o })

  -- the combination of words that a path becomes
  abbrev pub expansion_of : Path → List ℕ
  expansion_of p = map (becomes p) words

  combination_is : (p : Path) → IsPath h.quiver p → (r : Path) → combination h.field h.bound (expansion_of p) words r ≡ becomes p r
  combination_is p hp r = elim (cases_listed words r) [
    | inl m ↦ combination-map h.field h.bound (becomes p) words r distinct (becomes_small p hp) m
    | inr n ↦ combination-outside h.field h.bound (expansion_of p) words r n ∙ sym (becomes_outside p hp r n)
  ]

  pub expansion : (p : Path) → IsPath h.quiver p → IsExpansion h words p (expansion_of p)
  expansion p hp = record {
    coefficients = record {
      count = length-map words (becomes p);
      small = All-map (λ a. a < order h.field) (becomes p) words (All-weaker (Contains words) (λ w. becomes p w < order h.field) (λ w m. becomes_small p hp w) words (All-contains_itself words));
    };
    congruent = IsInIdeal-same h _ _ (λ r. ap (sub h.field (path_element h.bound p r)) (combination_is p hp r)) (congruent p hp);
  }

  expands_once : (p : Path) (c d : List ℕ) → IsExpansion h words p c → IsExpansion h words p d → d ≡ c
  expands_once p c d e f =
      let q = h.field in
      let x : Path → ℕ = combination q h.bound c words in
      let y : Path → ℕ = combination q h.bound d words in
      let differ : IsInIdeal h (λ r. sub q (y r) (x r)) = IsInIdeal-same h _ _ (λ r. sym (sub-sub_sub q (path_element h.bound p r) (y r) (x r))) (IsInIdeal-sub h _ _ e.congruent f.congruent) in
      let same : (r : Path) → y r ≡ x r = λ r. sub_eq_zero q (y r) (x r) (combination-below q h.bound d words r) (combination-below q h.bound c words r)
      (zero_of_words (λ r. sub q (y r) (x r)) differ (λ r n. ap₂ (sub q) (combination-outside q h.bound d words r n) (combination-outside q h.bound c words r n) ∙ sub_zero q 0 (order-pos q)) r) in
      sym (coefficients_from_combination q h.bound words d distinct f.coefficients.count f.coefficients.small)
      ∙ map-same y x words (λ r m. same r) ∙ coefficients_from_combination q h.bound words c distinct e.coefficients.count e.coefficients.small

  pub words_are_basis : IsBasis h words
  words_are_basis = record {
    paths = All-weaker (Contains words) (IsShortPath h) (λ w m. (c.word.only w m).0) words (All-contains_itself words);
    expands = λ p s. record {
      expansion = expansion_of p;
      expands = expansion p s.path;
      unique = λ d e. expands_once p (expansion_of p) d (expansion p s.path) e;
    };
  }

  -- every element, with each path replaced by what it becomes
  replaced : (Path → ℕ) → Path → ℕ
  replaced x r = sum_over h.field (paths_below h.quiver h.bound) (λ p. mul h.field (x p) (becomes p r))

  lists : ListsPathsBelow h.quiver h.bound (paths_below h.quiver h.bound)
  lists = lists_paths_below h.quiver ok.quiver.ends h.bound

  sum_of_paths : (x : Path → ℕ) → ((r : Path) → x r < order h.field) → ((r : Path) → x r ≢ 0 → IsShortPath h r) → (r : Path)
      → x r ≡ sum_over h.field (paths_below h.quiver h.bound) (λ p. mul h.field (x p) (path_element h.bound p r))
  sum_of_paths x small short r = elim (cases_eq (x r) 0) [
    | inr n ↦
        let s = short r n in
        let at : mul h.field (x r) (path_element h.bound r r) ≡ x r = ap (mul h.field (x r)) (path_element-self h.bound r s.short) ∙ mul_one h.field (x r) (small r) in
        sym (sum_over-one h.field (paths_below h.quiver h.bound) (λ p. mul h.field (x p) (path_element h.bound p r)) r lists.ascending (lists.all r s.path s.short)
        (subst (λ n. n < order h.field) (sym at) (small r)) (λ v m d. ap (mul h.field (x v)) (path_element-other h.bound v r d) ∙ mul_zero h.field (x v)) ∙ at)
    | inl z ↦ z ∙ sym (sum_over-zeros h.field (paths_below h.quiver h.bound) _ (λ p m. elim (cases_path p r) [
      | inl e ↦ ap (λ c. mul h.field c (path_element h.bound p r)) (ap x e ∙ z) ∙ zero_mul h.field _
      | inr d ↦ ap (mul h.field (x p)) (path_element-other h.bound p r d) ∙ mul_zero h.field (x p)
    ]))
  ]

  replaced_differs : (x : Path → ℕ) → IsInIdeal h x → IsInIdeal h (λ r. sub h.field (x r) (replaced x r))
  unfolding replaced
  replaced_differs x m = IsInIdeal-same h _ _
      (λ r. ap (λ z. sub h.field z (replaced x r)) (sum_of_paths x (IsInIdeal-below h x m) (IsInIdeal_support h ok x m) r))
      (sums_congruent h (paths_below h.quiver h.bound) x (path_element h.bound) becomes (λ p c. congruent p (lists.only p c).0))

  replaced_zero : (x : Path → ℕ) → IsInIdeal h x → (r : Path) → replaced x r ≡ 0
  unfolding replaced
  replaced_zero x m = zero_of_words (replaced x)
      (IsInIdeal-same h _ _ (λ r. sym (sub_sub h.field (x r) (replaced x r) ∙ mod-eq_of_lt (sum_over_below h.field (paths_below h.quiver h.bound) _)))
      (IsInIdeal-sub h x (λ r. sub h.field (x r) (replaced x r)) m (replaced_differs x m)))
      (λ r n. sum_over-zeros h.field (paths_below h.quiver h.bound) _ (λ p c. ap (mul h.field (x p)) (becomes_outside p (lists.only p c).0 r n) ∙ mul_zero h.field (x p)))

  -- no word is the greatest path of a member of the ideal
  word_no_tip : (w : Path) → Contains words w → IsTip h w → ⊥
  unfolding replaced
  word_no_tip w m t =
      let x : Path → ℕ = t.element in
      let s = (c.word.only w m).0 in
      let stays : becomes w w ≡ 1 = c.action.reduction.stays w s (c.word.only w m).1 w ∙ path_element-self h.bound w s.short in
      let small : x w < order h.field = IsInIdeal-below h x t.in_ideal w in
      let at : mul h.field (x w) (becomes w w) ≡ x w = ap (mul h.field (x w)) stays ∙ mul_one h.field (x w) small in
      t.greatest.nonzero (sym (sum_over-one h.field (paths_below h.quiver h.bound) (λ p. mul h.field (x p) (becomes p w)) w lists.ascending (lists.all w s.path s.short)
      (subst (λ n. n < order h.field) (sym at) small) (others t) ∙ at) ∙ replaced_zero x t.in_ideal w)
    where
      others : (t : IsTip h w) (v : Path) → Contains (paths_below h.quiver h.bound) v → (v ≡ w → ⊥) → mul h.field (t.element v) (becomes v w) ≡ 0
      others t v l d = elim (cases_eq (t.element v) 0) [
        | inl z ↦ ap (λ n. mul h.field n (becomes v w)) z ∙ zero_mul h.field (becomes v w)
        | inr n ↦ elim (t.greatest.greatest v n) [
          | inl e ↦ absurd (d e)
          | inr less ↦ ap (mul h.field (t.element v)) (becomes-greater h rules c.are becomes c.action.reduction v (lists.only v l).0 w (λ e. d (sym e)) (λ g. IsSmaller-asymmetric v w less g))
              ∙ mul_zero h.field (t.element v)
        ]
      ]

  -- a short path in which a tip occurs is one
  rule_tip : (rule : Rule) → Contains rules rule → IsTip h rule.tip
  rule_tip rule m = record { element = rule_element h rule; in_ideal = c.member rule m; greatest = rule_greatest h rule (c.short rule m) (greater_of rule m) }

  tip_from_occurrence : (p : Path) → IsShortPath h p → (rule : Rule) → Contains rules rule → IsFactor h.quiver rule.tip p → IsTip h p
  tip_from_occurrence p s rule m f = tip_between h rule.tip p (rule_tip rule m) f s.short

  pub word_normal : (w : Path) → Contains words w → IsNormal h w
  word_normal w m = record { short = (c.word.only w m).0; no_tip = word_no_tip w m }

  pub words_are_normal : AreNormalWords h words
  words_are_normal = record {
    ascending = c.word.ascending;
    all = λ p n. c.word.all p n.short (λ rule m f. n.no_tip (tip_from_occurrence p n.short rule m f));
    only = word_normal;
  }

  -- a path without a tip is normal
  no_tip_normal : (p : Path) → IsShortPath h p → HasNoTip h rules p → IsNormal h p
  no_tip_normal p s n = word_normal p (c.word.all p s n)

  reduced_rule : (rule : Rule) → Contains rules rule → IsReducedRule h rule
  reduced_rule rule m = record {
    minimal = record {
      short = short;
      tip = rule_tip rule m;
      factors = λ f i d. no_tip_normal f (record {
        path = IsPath-factor h.quiver f rule.tip ok.quiver.ends short.path i;
        short = omega (arith, short.short, length-factor h.quiver f rule.tip i);
      }) (λ other n j. c.reduced.tips other rule n m (λ e. d (shorter f i other j e)) (IsFactor-trans h.quiver other.tip f rule.tip j i));
    };
    tail = All-contains (λ (x : Rule). AreElementTerms h x.tail.terms) rules rule c.are.tails m;
    normal = All-members rule.tail.terms (λ a n. no_tip_normal a.path (tail_term h rules c.are rule m a n).short
        (All-contains (λ (x : Term). HasNoTip h rules x.path) rule.tail.terms a (All-contains (λ (x : Rule). All (λ (a : Term). HasNoTip h rules a.path) x.tail.terms) rules rule c.reduced.tails m) n));
    congruent = c.member rule m;
  }
    where
      short : IsShortPath h rule.tip
      short = record { path = All-contains (λ (x : Rule). IsPath h.quiver x.tip) rules rule c.are.tips m; short = c.short rule m }

      All-members : (terms : List Term) → ((a : Term) → Contains terms a → IsNormal h a.path) → All (λ (a : Term). IsNormal h a.path) terms
      All-members terms n = All-weaker (Contains terms) (λ (a : Term). IsNormal h a.path) n terms (All-contains_itself terms)

      shorter : (f : Path) → IsFactor h.quiver f rule.tip → (other : Rule) → IsFactor h.quiver other.tip f → other.tip ≡ rule.tip → f ≡ rule.tip
      shorter f i other j e = whole_factor h.quiver f rule.tip i (omega (arith, length-factor h.quiver f rule.tip i, length-factor h.quiver other.tip f j, ap path_length e))

  pub rules_are_reduced : AreReducedRules h rules
  rules_are_reduced = record {
    ascending = c.reduced.ascending;
    each = All-weaker (Contains rules) (IsReducedRule h) reduced_rule rules (All-contains_itself rules);
    all = λ p minimal. elim (cases_occurrence h rules ok.quiver.ends c.are.tips p minimal.short.path) [
      | inr n ↦ absurd (word_no_tip p (c.word.all p minimal.short n) minimal.tip)
      | inl o ↦
          let f : IsFactor h.quiver o.rule.tip p = record { before = o.before; behind = o.behind; before_is = o.before_is; behind_is = o.behind_is; meets_before = o.meets_before; meets_behind = o.meets_behind; whole = o.whole } in
          elim (cases_path o.rule.tip p) [
            | inl e ↦ subst (Contains (map (λ (x : Rule). x.tip) rules)) e (Contains-map (λ (x : Rule). x.tip) rules o.rule o.listed)
            | inr d ↦ absurd ((minimal.factors o.rule.tip f d).no_tip (reduced_rule o.rule o.listed).minimal.tip)
          ]
    ];
  }
