-- The normal words and the reduced rules meet the clauses.
use Rattle.std.proofs.Common.{ℕ, ◌≡◌, ◌<◌, ◌+◌, ◌⊎◌, inl, inr, List, [], ◌∷◌, refl, sym, ap, ap₂, ◌∙◌, subst, arith, mod-eq_of_lt, ltb, eqb, Bool, true, false, if◌then◌else◌, ◌++◌}
use Rattle.linear_algebra.proofs.ReducedSpans.{sub_sub}
use Rattle.std.specs.Prelude.{Contains, All}
use mathlib.Core.Path.{fun_ext}
use Rattle.std.proofs.lemmas.Bool.{cases_lt, cases_eq, cond-true, cond-false, lt-ltb, le-ltb, eq-eqb, ne_eqb}
use Rattle.std.proofs.lemmas.List.{append_assoc, append-nil}
use Rattle.std.proofs.lemmas.List.Elements.{All-nil, All-contains, All-contains_itself, All-weaker, All-head}
use Rattle.linear_algebra.specs.Field.{order, add, mul, sub}
use Rattle.linear_algebra.specs.FieldLaws.{order-pos, mul_zero, mul_one, add_zero, sub_self, sub_eq_zero}
use Rattle.quiver_paths.specs.declared.Path.{Path}
use Rattle.quiver_paths.specs.Quiver.{arrow_count, source}
use Rattle.quiver_paths.specs.Path.{IsPath, Leads, path_length, concat, trivial_path, arrow_path, IsFactor}
use Rattle.quiver_paths.specs.PathOrder.{IsSmaller}
use Rattle.quiver_paths.proofs.ListLemmas.{Contains-head, Contains-cons_cases, Contains-from_map, AllPairs-head}
use Rattle.quiver_paths.proofs.PathLemmas.{IsPath-concat, IsPath-arrow, IsPath-trivial, IsPath-end, path_length-concat, concat-trivial_left, concat-trivial_right, same_path}
use Rattle.quiver_paths.proofs.PathOrderLemmas.{IsSmaller-irreflexive, IsSmaller-trans, IsSmaller-total}
use Rattle.path_algebra.specs.declared.Term.{Term}
use Rattle.path_algebra.specs.declared.Relation.{Relation}
use Rattle.path_algebra.specs.declared.Header.{Header}
use Rattle.path_algebra.specs.declared.rules.Rule.{Rule}
use Rattle.path_algebra.specs.declared.rules.Step.{Step}
use Rattle.path_algebra.specs.Elements.{sum_over, path_element, sum_of_terms, product_between, middle}
use Rattle.path_algebra.specs.Ideals.{relation_element, IsInIdeal}
use Rattle.path_algebra.specs.Words.{IsShortPath, IsGreatestPath, IsTip, IsNormal, AreNormalWords}
use Rattle.path_algebra.specs.Allowed.{IsAllowed, IsRelation, IsTerm, IsParallel}
use Rattle.path_algebra.specs.Rules.{AreElementTerms, rule_element, IsReducedRule, AreReducedRules}
use Rattle.path_algebra.specs.Derivations.{times_arrow, element_at, step_elements}
use Rattle.path_algebra.specs.Reduction.{HasNoTip, IsReduction, sum_between, act_arrow, act_arrows, act_terms}
use Rattle.path_algebra.specs.BasisClauses.{StepsHold, RuleHolds, ReducedHolds, WordsHold, ActionHolds, MeetsClauses}
use Rattle.path_algebra.proofs.Between.{cases_path, composite, middle-start, middle-end}
use Rattle.path_algebra.proofs.ElementLemmas.{path_element-self, path_element-other, path_element_support, product-add, product_support}
use Rattle.path_algebra.proofs.Combinations.{IsCombination, AreDistinct}
use Rattle.path_algebra.proofs.IdealLemmas.{IsInIdeal-same, IsInIdeal-zero, IsInIdeal-add, IsInIdeal-sub, IsInIdeal-product}
use Rattle.path_algebra.proofs.IdealProducts.{product-mul}
use Rattle.path_algebra.proofs.IdealSteps.{IsInIdeal-times_arrow}
use Rattle.path_algebra.proofs.IdealActs.{parallel_terms, product-terms}
use Rattle.path_algebra.proofs.SumsOver.{sum_over_below, sum_over-nil, sum_over-same, sum_over-zeros, IsLinear, linear-same, linear-sum}
use Rattle.path_algebra.proofs.Acting.{combination_sum, along_by, starts_apart}
use Rattle.path_algebra.proofs.Reducing.{sum_between_below, sum_between-zeros}
use Rattle.path_algebra.proofs.Congruence.{sub_telescope, product-sub, product-tip, sums_congruent, rewritten_congruent}
use Rattle.path_algebra.proofs.ClausesSuffice.{sum_of_terms-outside, term_at}
use Rattle.path_algebra.proofs.NormalFactors.{tip_between, cases_normal, minimal_factor}
use Rattle.path_algebra.proofs.NormalForms.{zero_of_normal, normal_form, normal_form_is, normal_form_congruent, normal_form_unique, normal_form-long, normal_form-word}

-- the tail of a reduced rule is smaller than its tip
first_term : (h : Header) (f : Term) (rest : List Term) → AreElementTerms h (f ∷ rest) → sum_of_terms h.field h.bound (f ∷ rest) f.path ≡ f.coef
unfolding sum_of_terms
first_term h f rest e =
    let small : f.coef < order h.field = All-head (λ (a : Term). a.coef < order h.field) f rest e.small in
    let short = All-head (λ (a : Term). IsShortPath h a.path) f rest e.short in
    ap₂ (add h.field) (ap (mul h.field f.coef) (path_element-self h.bound f.path short.short) ∙ mul_one h.field f.coef small)
    (sum_of_terms-outside h.field h.bound rest f.path (All-weaker (Contains rest) (λ (a : Term). a.path ≡ f.path → ⊥)
    (λ a m i. IsSmaller-irreflexive f.path (subst (λ x. IsSmaller x f.path) i (AllPairs-head (λ (x y : Term). IsSmaller y.path x.path) f rest e.descending a m))) rest (All-contains_itself rest)))
    ∙ add_zero h.field f.coef small

module _ (h : Header) (ok : IsAllowed h) (words : List Path) (w : AreNormalWords h words) (rules : List Rule) (a : AreReducedRules h rules) where
  reduced_rule : (rule : Rule) → Contains rules rule → IsReducedRule h rule
  reduced_rule rule m = All-contains (IsReducedRule h) rules rule a.each m

  greater : (rule : Rule) → IsReducedRule h rule → All (λ (t : Term). IsSmaller t.path rule.tip) rule.tail.terms
  greater rule r = go rule.tail.terms refl
    where
      go : (terms : List Term) → rule.tail.terms ≡ terms → All (λ (t : Term). IsSmaller t.path rule.tip) terms
      go [] e = All-nil (λ (t : Term). IsSmaller t.path rule.tip)
      go (f ∷ rest) e =
          let tail : AreElementTerms h (f ∷ rest) = subst (AreElementTerms h) e r.tail in
          let normal : IsNormal h f.path = All-head (λ (t : Term). IsNormal h t.path) f rest (subst (All (λ (t : Term). IsNormal h t.path)) e r.normal) in
          let below : (t : Term) → Contains (f ∷ rest) t → (t.path ≡ f.path) ⊎ IsSmaller t.path f.path = λ t m. elim (Contains-cons_cases f rest t m) [
            | inl i ↦ inl (ap (λ (x : Term). x.path) (sym i))
            | inr n ↦ inr (AllPairs-head (λ (x y : Term). IsSmaller y.path x.path) f rest tail.descending t n)
          ] in
          elim (IsSmaller-total h.quiver f.path rule.tip normal.short.path r.minimal.short.path) [
            | inl same ↦ absurd (normal.no_tip (subst (IsTip h) (sym same) r.minimal.tip))
            | inr other ↦ elim other [
              | inl less ↦ All-weaker (Contains (f ∷ rest)) (λ (t : Term). IsSmaller t.path rule.tip) (λ t m. elim (below t m) [
                | inl i ↦ subst (λ x. IsSmaller x rule.tip) (sym i) less
                | inr s ↦ IsSmaller-trans t.path f.path rule.tip s less
              ]) (f ∷ rest) (All-contains_itself (f ∷ rest))
              | inr more ↦ absurd (normal.no_tip (record { element = rule_element h rule; in_ideal = r.congruent; greatest = tail_greatest f rest e tail below more }))
            ]
          ]
        where
          tail_greatest : (f : Term) (rest : List Term) → rule.tail.terms ≡ f ∷ rest → AreElementTerms h (f ∷ rest)
              → ((t : Term) → Contains (f ∷ rest) t → (t.path ≡ f.path) ⊎ IsSmaller t.path f.path) → IsSmaller rule.tip f.path → IsGreatestPath (rule_element h rule) f.path
          tail_greatest f rest e tail below more = record {
            nonzero = λ z.
                let coef : f.coef < order h.field = All-head (λ (t : Term). t.coef < order h.field) f rest tail.small in
                let positive : 0 < f.coef = All-head (λ (t : Term). 0 < t.coef) f rest tail.nonzero in
                let at : rule_element h rule f.path ≡ sub h.field 0 f.coef =
                ap₂ (sub h.field) (path_element-other h.bound rule.tip f.path (λ i. IsSmaller-irreflexive f.path (subst (λ x. IsSmaller x f.path) i more)))
                (ap (λ ts. sum_of_terms h.field h.bound ts f.path) e ∙ first_term h f rest tail) in
                let zero_coef : 0 ≡ f.coef = sub_eq_zero h.field 0 f.coef (order-pos h.field) coef (sym at ∙ z) in
                absurd (omega (arith, positive, zero_coef));
            greatest = λ r n. elim (cases_path rule.tip r) [
              | inl i ↦ inr (subst (λ x. IsSmaller x f.path) i more)
              | inr d ↦
                  let t = term_at h.field h.bound (f ∷ rest) r (λ z. n (ap₂ (sub h.field) (path_element-other h.bound rule.tip r d) (ap (λ ts. sum_of_terms h.field h.bound ts r) e ∙ z) ∙ sub_self h.field 0)) in
                  elim (below t.0 t.1) [ inl i ↦ inl (sym t.2 ∙ i) | inr s ↦ inr (subst (λ x. IsSmaller x f.path) t.2 s) ]
            ];
          }

  -- no tip occurs in a normal path
  normal_no_tip : (p : Path) → IsNormal h p → HasNoTip h rules p
  normal_no_tip p n rule m f = n.no_tip (tip_between h rule.tip p (reduced_rule rule m).minimal.tip f n.short.short)

  pub reduced_holds : ReducedHolds h rules
  reduced_holds = record {
    ascending = a.ascending;
    tips = λ x y m n d f. ((reduced_rule y n).minimal.factors x.tip f d).no_tip (reduced_rule x m).minimal.tip;
    tails = All-weaker (IsReducedRule h) (λ (rule : Rule). All (λ (t : Term). HasNoTip h rules t.path) rule.tail.terms)
        (λ rule r. All-weaker (λ (t : Term). IsNormal h t.path) (λ (t : Term). HasNoTip h rules t.path) (λ t n. normal_no_tip t.path n) rule.tail.terms r.normal) rules a.each;
  }

  pub words_hold : WordsHold h words rules
  words_hold = record {
    ascending = w.ascending;
    all = λ p s n. elim (cases_normal h ok p s) [
      | inl normal ↦ w.all p normal
      | inr tip ↦
          let m = minimal_factor h ok (path_length p + 1) p (omega arith) s tip in
          let rule = Contains-from_map (λ (x : Rule). x.tip) rules m.tip (a.all m.tip m.minimal) in
          absurd (n rule.0 rule.1 (subst (λ x. IsFactor h.quiver x p) (sym rule.2) m.factor))
    ];
    only = λ p m. let n = w.only p m in (n.short, normal_no_tip p n);
  }

  abbrev form : Path → Path → ℕ
  form = normal_form h ok words w

  -- normal forms are what paths become by reduction
  pub forms_are_reduction : IsReduction h rules form
  forms_are_reduction = record {
    long = normal_form-long h ok words w;
    stays = λ p s n. normal_form-word h ok words w p (words_hold.all p s n);
    rewritten = λ p s o r. normal_form_unique h ok words w p s.path (sum_between h form o.before o.rule.tail.terms o.behind)
        (record {
          small = sum_between_below h form o.before o.rule.tail.terms o.behind;
          outside = λ x n. sum_between-zeros h form o.before o.rule.tail.terms o.behind x (λ t m mu mv. (normal_form_is h ok words w (concat o.before (concat t.path o.behind))).outside x n);
        })
        (rewritten_congruent h form o.rule (reduced_rule o.rule o.listed).congruent o.before o.behind p o.before_is o.behind_is o.meets_before o.meets_behind o.whole
        (λ t m mu mv. normal_form_congruent h ok words w (composite o.before t.path o.behind)
        (IsPath-concat h.quiver o.before (concat t.path o.behind) o.before_is
        (IsPath-concat h.quiver t.path o.behind (All-contains (λ (x : Term). IsShortPath h x.path) o.rule.tail.terms t (reduced_rule o.rule o.listed).tail.short m).path o.behind_is mv) mu)))
        r;
  }

  distinct : AreDistinct h.bound words
  distinct = record { ascending = w.ascending; short = λ p m. (w.only p m).short.short }

  times_arrow-linear : (b : ℕ) → IsLinear h.field (λ x. times_arrow h x b)
  times_arrow-linear b = record {
    adds = λ x y r. product-add h.field h.bound (trivial_path r.start) x y (arrow_path h.quiver b) r;
    scales = λ c x r. product-mul h.field h.bound c (trivial_path r.start) x (arrow_path h.quiver b) r;
  }

  -- a path times an arrow
  path_times_arrow : (b : ℕ) (p : Path) → p.end ≡ source h.quiver b → (r : Path) → times_arrow h (path_element h.bound p) b r ≡ path_element h.bound (concat p (arrow_path h.quiver b)) r
  path_times_arrow b p e r = elim (cases_eq r.start p.start) [
    | inl s ↦ product-tip h (trivial_path r.start) p (arrow_path h.quiver b) (concat p (arrow_path h.quiver b)) s e
        (sym (ap (λ v. concat (trivial_path v) (concat p (arrow_path h.quiver b))) s ∙ concat-trivial_left (concat p (arrow_path h.quiver b)))) r
    | inr d ↦ elim (cases_eq (times_arrow h (path_element h.bound p) b r) 0) [
      | inl z ↦ z ∙ sym (path_element-other h.bound (concat p (arrow_path h.quiver b)) r (λ i. d (ap (λ (x : Path). x.start) (sym i))))
      | inr n ↦
          let o = product_support h.bound (trivial_path r.start) (path_element h.bound p) (arrow_path h.quiver b) r n in
          let is = (path_element_support h.bound p (middle (trivial_path r.start) (arrow_path h.quiver b) r) o.nonzero).0 in
          absurd (d (middle-start (trivial_path r.start) (arrow_path h.quiver b) r ∙ ap (λ (x : Path). x.start) (sym is)))
    ]
  ]

  path_times_apart : (b : ℕ) (p : Path) → (p.end ≡ source h.quiver b → ⊥) → (r : Path) → times_arrow h (path_element h.bound p) b r ≡ 0
  path_times_apart b p d r = elim (cases_eq (times_arrow h (path_element h.bound p) b r) 0) [
    | inl z ↦ z
    | inr n ↦
        let o = product_support h.bound (trivial_path r.start) (path_element h.bound p) (arrow_path h.quiver b) r n in
        let is = (path_element_support h.bound p (middle (trivial_path r.start) (arrow_path h.quiver b) r) o.nonzero).0 in
        absurd (d (ap (λ (x : Path). x.end) is ∙ middle-end (trivial_path r.start) (arrow_path h.quiver b) r))
  ]

  -- an arrow acts on a combination of normal words as it multiplies, modulo the ideal
  arrow_congruent : (b : ℕ) → b < arrow_count h.quiver → (y : Path → ℕ) → IsCombination h words y
      → IsInIdeal h (λ r. sub h.field (times_arrow h y b r) (act_arrow h form words b y r))
  unfolding act_arrow
  arrow_congruent b l y c = IsInIdeal-same h _ _
      (λ r. ap₂ (sub h.field)
      (linear-same (λ x. times_arrow h x b) y _ (combination_sum h words distinct y c) r ∙ linear-sum h.field (λ x. times_arrow h x b) (times_arrow-linear b) words y (path_element h.bound) r)
      (sum_over-same h.field words _ _ (λ v m. chosen (eqb v.end (source h.quiver b)) (y v) (form (concat v (arrow_path h.quiver b)) r))))
      (sums_congruent h words y (λ v. times_arrow h (path_element h.bound v) b) (λ v r. if eqb v.end (source h.quiver b) then form (concat v (arrow_path h.quiver b)) r else 0) word_case)
    where
      chosen : (t : Bool) (c n : ℕ) → (if t then mul h.field c n else 0) ≡ mul h.field c (if t then n else 0)
      chosen true c n = refl
      chosen false c n = sym (mul_zero h.field c)

      word_case : (v : Path) → Contains words v
          → IsInIdeal h (λ r. sub h.field (times_arrow h (path_element h.bound v) b r) (if eqb v.end (source h.quiver b) then form (concat v (arrow_path h.quiver b)) r else 0))
      word_case v m = elim (cases_eq v.end (source h.quiver b)) [
        | inl e ↦ IsInIdeal-same h _ _ (λ r. ap₂ (sub h.field) (path_times_arrow b v e r) (cond-true _ _ 0 (eq-eqb _ _ e)))
            (normal_form_congruent h ok words w (concat v (arrow_path h.quiver b)) (IsPath-concat h.quiver v (arrow_path h.quiver b) (w.only v m).short.path (IsPath-arrow h.quiver b ok.quiver.ends l) e))
        | inr d ↦ IsInIdeal-same h (λ _. 0) _ (λ r. ap₂ (sub h.field) (path_times_apart b v d r) (cond-false _ _ 0 (ne_eqb _ _ d)) ∙ sub_self h.field 0) (IsInIdeal-zero h)
      ]

  act_arrow_is : (b : ℕ) (x : Path → ℕ) → IsCombination h words (act_arrow h form words b x)
  unfolding act_arrow
  act_arrow_is b x = record {
    small = λ r. sum_over_below h.field words _;
    outside = λ r n. sum_over-zeros h.field words _ (λ v m. elim (cases_eq v.end (source h.quiver b)) [
      | inl e ↦ cond-true _ _ 0 (eq-eqb _ _ e) ∙ ap (mul h.field (x v)) ((normal_form_is h ok words w (concat v (arrow_path h.quiver b))).outside r n) ∙ mul_zero h.field (x v)
      | inr d ↦ cond-false _ _ 0 (ne_eqb _ _ d)
    ]);
  }

  -- an arrow takes the normal form of a path that it meets to that of the path with the arrow
  acts_on_form : (b : ℕ) → b < arrow_count h.quiver → (p : Path) → IsPath h.quiver p → p.end ≡ source h.quiver b
      → act_arrow h form words b (form p) ≡ form (concat p (arrow_path h.quiver b))
  acts_on_form b l p hp e = fun_ext (λ r. sym (normal_form_unique h ok words w (concat p (arrow_path h.quiver b))
      (IsPath-concat h.quiver p (arrow_path h.quiver b) hp (IsPath-arrow h.quiver b ok.quiver.ends l) e)
      (act_arrow h form words b (form p)) (act_arrow_is b (form p))
      (IsInIdeal-same h _ _
      (λ s. ap (λ z. sub h.field z (act_arrow h form words b (form p) s)) (sym (path_times_arrow b p e s))
      ∙ sym (sub_telescope h.field (times_arrow h (path_element h.bound p) b s) (times_arrow h (form p) b s) (act_arrow h form words b (form p) s)))
      (IsInIdeal-add h _ _
      (IsInIdeal-same h _ _ (λ s. sym (product-sub h.field h.bound (trivial_path s.start) (path_element h.bound p) (form p) (arrow_path h.quiver b) s))
      (IsInIdeal-times_arrow h ok.quiver.ends (λ s. sub h.field (path_element h.bound p s) (form p s)) b l (normal_form_congruent h ok words w p hp)))
      (arrow_congruent b l (form p) (normal_form_is h ok words w p)))) r))

  -- arrows take the normal form of a path to that of the path with the arrows
  pub along_path : (xs : List ℕ) (p : Path) (v : ℕ) → IsPath h.quiver p → Leads h.quiver p.end xs v
      → act_arrows h form words xs (form p) ≡ form (record { start = p.start; end = v; arrows = p.arrows ++ xs })
  unfolding act_arrows
  along_path [] p v hp l = ap form (same_path p (record { start = p.start; end = v; arrows = p.arrows ++ [] }) refl l (sym (append-nil p.arrows)))
  along_path (b ∷ xs) p v hp l =
      ap (act_arrows h form words xs) (acts_on_form b l.0 p hp (sym l.1))
      ∙ along_path xs (concat p (arrow_path h.quiver b)) v (IsPath-concat h.quiver p (arrow_path h.quiver b) hp (IsPath-arrow h.quiver b ok.quiver.ends l.0) (sym l.1)) l.2
      ∙ ap form (same_path (record { start = p.start; end = v; arrows = (p.arrows ++ b ∷ []) ++ xs }) (record { start = p.start; end = v; arrows = p.arrows ++ b ∷ xs }) refl refl (append_assoc p.arrows (b ∷ []) xs))

  -- so a path takes a word that it meets to the normal form of their composite, and other words to zero
  word_along : (v : Path) → Contains words v → (p : Path) → IsPath h.quiver p → v.end ≡ p.start → (r : Path)
      → act_arrows h form words p.arrows (path_element h.bound v) r ≡ form (concat v p) r
  word_along v m p hp e r =
      ap (λ x. act_arrows h form words p.arrows x r) (fun_ext (λ s. sym (normal_form-word h ok words w v m s)))
      ∙ ap (λ x. x r) (along_by h form words ok.quiver.ends acts_on_form p.arrows v p.end (w.only v m).short.path (subst (λ s. Leads h.quiver s p.arrows p.end) (sym e) hp.leads))

  pub action_holds : ActionHolds h words rules
  unfolding act_terms
  action_holds = record { becomes = form; reduction = forms_are_reduction; relations = relations; long = long }
    where
      long : (p : Path) → IsPath h.quiver p → path_length p ≡ h.bound → (v : Path) → Contains words v → (r : Path) → act_arrows h form words p.arrows (path_element h.bound v) r ≡ 0
      long p hp l v m r = elim (cases_eq v.end p.start) [
        | inl e ↦ word_along v m p hp e r ∙ normal_form-long h ok words w (concat v p) (IsPath-concat h.quiver v p (w.only v m).short.path hp e) (omega (arith, l, path_length-concat v p)) r
        | inr d ↦ starts_apart h form words p.arrows v p.start p.end (omega (arith, l, ok.bound_from)) hp.leads (λ i. d (sym i)) r
      ]

      term_is : (rel : Relation) → Contains h.relations rel → (t : Term) → Contains rel.terms t → IsTerm h t
      term_is rel c t m = All-contains (IsTerm h) rel.terms t (All-contains (IsRelation h) h.relations rel ok.relations c).terms m

      -- the sum of the normal forms of a word with the terms of a relation behind it
      sum_of_forms : (rel : Relation) → Path → Path → ℕ
      sum_of_forms rel v r = sum_over h.field rel.terms (λ (t : Term). mul h.field t.coef (form (concat v t.path) r))

      forms_zero : (rel : Relation) → Contains h.relations rel → (v : Path) → Contains words v → (f : Term) → Contains rel.terms f → v.end ≡ f.path.start → (r : Path) → sum_of_forms rel v r ≡ 0
      forms_zero rel c v m f n e = zero_of_normal h ok words w (sum_of_forms rel v)
          (IsInIdeal-same h _ _ (λ r. sym (sub_sub h.field (product_between h.bound v (relation_element h rel) (trivial_path f.path.end) r) (sum_of_forms rel v r) ∙ mod-eq_of_lt (sum_over_below h.field rel.terms _)))
          (IsInIdeal-sub h _ _
          (IsInIdeal-product h v (trivial_path f.path.end) rel (w.only v m).short.path c (IsPath-trivial h.quiver f.path.end (IsPath-end h.quiver f.path ok.quiver.ends (term_is rel c f n).path)))
          (IsInIdeal-same h _ _
          (λ r. ap (λ z. sub h.field z (sum_of_forms rel v r)) (product-terms h v (trivial_path f.path.end) rel.terms meets r
          ∙ sum_over-same h.field rel.terms _ _ (λ t k. ap (λ x. mul h.field t.coef (path_element h.bound x r)) (ap (concat v) (behind t k)))))
          (sums_congruent h rel.terms (λ (t : Term). t.coef) (λ t. path_element h.bound (concat v t.path)) (λ t. form (concat v t.path))
          (λ t k. normal_form_congruent h ok words w (concat v t.path) (IsPath-concat h.quiver v t.path (w.only v m).short.path (term_is rel c t k).path (meets t k).0))))))
          (record {
            small = λ r. sum_over_below h.field rel.terms _;
            outside = λ r o. sum_over-zeros h.field rel.terms _ (λ t k. ap (mul h.field t.coef) ((normal_form_is h ok words w (concat v t.path)).outside r o) ∙ mul_zero h.field t.coef);
          })
        where
          parallel : (t : Term) → Contains rel.terms t → IsParallel f.path t.path
          parallel t k = parallel_terms rel.terms (All-contains (IsRelation h) h.relations rel ok.relations c).parallel f t n k

          meets : (t : Term) → Contains rel.terms t → (v.end ≡ t.path.start) × (t.path.end ≡ (trivial_path f.path.end).start)
          meets t k = let q = parallel t k in (e ∙ q.starts, sym q.ends)

          behind : (t : Term) → Contains rel.terms t → concat t.path (trivial_path f.path.end) ≡ t.path
          behind t k = ap (λ x. concat t.path (trivial_path x)) (parallel t k).ends ∙ concat-trivial_right t.path

      relations : (rel : Relation) → Contains h.relations rel → (v : Path) → Contains words v → (r : Path) → act_terms h form words rel.terms (path_element h.bound v) r ≡ 0
      relations rel c v m r = go rel.terms refl
        where
          go : (terms : List Term) → rel.terms ≡ terms → act_terms h form words rel.terms (path_element h.bound v) r ≡ 0
          go [] e = ap (λ ts. act_terms h form words ts (path_element h.bound v) r) e ∙ sum_over-nil {X = Term} h.field _
          go (f ∷ rest) i =
              let n : Contains rel.terms f = subst (λ ts. Contains ts f) (sym i) (Contains-head f rest) in
              elim (cases_eq v.end f.path.start) [
                | inl e ↦ sum_over-same h.field rel.terms _ _ (λ t k. term_acts t (term_is rel c t k) (e ∙ (parallel_terms rel.terms (All-contains (IsRelation h) h.relations rel ok.relations c).parallel f t n k).starts))
                    ∙ forms_zero rel c v m f n e r
                | inr d ↦ sum_over-zeros h.field rel.terms _ (λ t k. term_apart t (term_is rel c t k) (λ j. d (j ∙ sym (parallel_terms rel.terms (All-contains (IsRelation h) h.relations rel ok.relations c).parallel f t n k).starts)))
              ]
            where
              term_acts : (t : Term) → IsTerm h t → v.end ≡ t.path.start
                  → (if ltb (path_length t.path) h.bound then mul h.field t.coef (act_arrows h form words t.path.arrows (path_element h.bound v) r) else 0) ≡ mul h.field t.coef (form (concat v t.path) r)
              term_acts t is e = elim (cases_lt (path_length t.path) h.bound) [
                | inl l ↦ cond-true _ _ 0 (lt-ltb _ _ l) ∙ ap (mul h.field t.coef) (word_along v m t.path is.path e r)
                | inr l ↦ cond-false _ _ 0 (le-ltb _ _ l) ∙ sym (ap (mul h.field t.coef)
                    (normal_form-long h ok words w (concat v t.path) (IsPath-concat h.quiver v t.path (w.only v m).short.path is.path e) (omega (arith, l, path_length-concat v t.path)) r) ∙ mul_zero h.field t.coef)
              ]

              term_apart : (t : Term) → IsTerm h t → (v.end ≡ t.path.start → ⊥)
                  → (if ltb (path_length t.path) h.bound then mul h.field t.coef (act_arrows h form words t.path.arrows (path_element h.bound v) r) else 0) ≡ 0
              term_apart t is d = elim (cases_lt (path_length t.path) h.bound) [
                | inl l ↦ cond-true _ _ 0 (lt-ltb _ _ l) ∙ ap (mul h.field t.coef)
                    (starts_apart h form words t.path.arrows v t.path.start t.path.end (omega (arith, is.not_short)) is.path.leads (λ j. d (sym j)) r) ∙ mul_zero h.field t.coef
                | inr l ↦ cond-false _ _ 0 (le-ltb _ _ l)
              ]

-- where the steps derive the rules, all five clauses hold
pub meets_clauses : (h : Header) → IsAllowed h → (words : List Path) → AreNormalWords h words → (rules : List Rule) → AreReducedRules h rules → (steps : List Step)
    → StepsHold h steps rules → ((rule : Rule) → Contains rules rule → (p : Path) → rule_element h rule p ≡ element_at (step_elements h steps) rule.step p) → MeetsClauses h words steps rules
meets_clauses h ok words w rules a steps s d = record {
  step = s;
  rule = All-weaker (Contains rules) (RuleHolds h steps) (λ rule m. record {
    short = (reduced_rule h ok words w rules a rule m).minimal.short.short;
    greater = greater h ok words w rules a rule (reduced_rule h ok words w rules a rule m);
    derived = d rule m;
  }) rules (All-contains_itself rules);
  reduced = reduced_holds h ok words w rules a;
  word = words_hold h ok words w rules a;
  action = action_holds h ok words w rules a;
}
