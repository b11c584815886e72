-- Without a gap arrows may be put before and behind a path before or after it is reduced, so relations and long paths act as zero.
use Rattle.std.proofs.Common.{ℕ, ◌≡◌, ◌<◌, inl, inr, List, [], ◌∷◌, ◌++◌, ◌&&◌, eqb, ltb, if◌then◌else◌, refl, sym, ap, ap₂, ◌∙◌, subst, arith}
use Rattle.std.specs.Prelude.{Contains, All}
use mathlib.Core.Path.{fun_ext}
use Rattle.std.proofs.lemmas.Bool.{cases_lt, cases_eq, cases_Bool, cond-true, cond-false, and_parts, eqb-true, eq-eqb, lt-ltb, le-ltb}
use Rattle.std.proofs.lemmas.List.Elements.{All-contains, All-weaker}
use Rattle.linear_algebra.specs.Field.{mul, order}
use Rattle.linear_algebra.specs.FieldLaws.{add_mul, mul_assoc, mul_zero, zero_mul, one_mul}
use Rattle.quiver_paths.specs.declared.Path.{Path}
use Rattle.quiver_paths.specs.Quiver.{arrow_count, vertex_count, source, target}
use Rattle.quiver_paths.specs.Path.{IsPath, Leads, path_length, Meets, concat, arrow_path, IsFactor}
use Rattle.quiver_paths.specs.PathOrder.{IsSmaller, IsAscending}
use Rattle.quiver_paths.specs.PathList.{ListsPathsBelow, paths_below}
use Rattle.quiver_paths.proofs.ListLemmas.{Contains-head, Contains-behind, Contains-cons_cases, Contains-nil, AllPairs-nil, AllPairs-front, AllPairs-head, AllPairs-tail}
use Rattle.quiver_paths.proofs.PathLemmas.{Leads-append, IsPath-concat, IsPath-arrow, path_length-concat, concat_assoc, same_path}
use Rattle.quiver_paths.proofs.PathListLemmas.{lists_paths_below}
use Rattle.path_algebra.specs.declared.Term.{Term}
use Rattle.path_algebra.specs.declared.Relation.{Relation}
use Rattle.path_algebra.specs.declared.Header.{Header}
use Rattle.path_algebra.specs.declared.rules.Rule.{Rule}
use Rattle.path_algebra.specs.Elements.{sum_over, path_element}
use Rattle.path_algebra.specs.Ideals.{IsInIdeal}
use Rattle.path_algebra.specs.Words.{IsShortPath}
use Rattle.path_algebra.specs.Allowed.{IsAllowed, IsRelation, IsTerm}
use Rattle.path_algebra.specs.Rules.{AreElementTerms, rule_element, AreReducedRules}
use Rattle.path_algebra.specs.Reduction.{HasNoTip, IsReduction, sum_between, act_arrow, act_arrows, act_terms}
use Rattle.path_algebra.specs.BasisClauses.{WordsHold, ActionHolds}
use Rattle.path_algebra.proofs.SumsOver.{sum_over-nil, sum_over-same, sum_over-zeros, sum_over-add, mul-sum_over, IsLinear, linear-same, linear-zero, linear-sum, linear-compose}
use Rattle.path_algebra.proofs.Acting.{chosen-add, chosen-mul, chosen-zero, act_arrow-linear, act_arrows-linear, act_arrow-word, along_by, sum_over-one, starts_apart}
use Rattle.path_algebra.proofs.ElementLemmas.{path_element-self, path_element-other}
use Rattle.path_algebra.proofs.Occurrences.{cases_occurrence}
use Rattle.path_algebra.proofs.Reducing.{AreRules, by_reduction, becomes_below, rewritten_smaller}
use Rattle.path_algebra.proofs.IdealActs.{parallel_terms}
use Rattle.path_algebra.proofs.ClausesSuffice.{rules_are_reduced}
use Rattle.path_reduction.specs.Gaps.{IsTidy, AreTidy, HasNoGap, reduced_terms}

-- a linear function goes into a sum between two paths
linear-between : (h : Header) (L : (Path → ℕ) → Path → ℕ) → IsLinear h.field L → (f : Path → Path → ℕ) (u : Path) (terms : List Term) (v r : Path)
    → L (sum_between h f u terms v) r ≡ sum_between h (λ p. L (f p)) u terms v r
unfolding sum_between
linear-between h L l f u terms v r =
    linear-same L _ _ (λ p. sum_over-same h.field terms _ _ (λ a m. factored a (f (concat u (concat a.path v)) p))) r
    ∙ linear-sum h.field L l terms chosen (λ a. f (concat u (concat a.path v))) r
    ∙ sum_over-same h.field terms _ _ (λ a m. sym (factored a (L (f (concat u (concat a.path v))) r)))
  where
    chosen : Term → ℕ
    chosen a = if eqb u.end a.path.start && eqb a.path.end v.start then a.coef else 0

    factored : (a : Term) (n : ℕ) → (if eqb u.end a.path.start && eqb a.path.end v.start then mul h.field a.coef n else 0) ≡ mul h.field (chosen a) n
    factored a n = elim (cases_Bool (eqb u.end a.path.start && eqb a.path.end v.start)) [
      | inl e ↦ cond-true _ _ 0 e ∙ ap (λ c. mul h.field c n) (sym (cond-true _ a.coef 0 e))
      | inr e ↦ cond-false _ _ 0 e ∙ sym (ap (λ c. mul h.field c n) (cond-false _ a.coef 0 e) ∙ zero_mul h.field n)
    ]

-- sums between two pairs of paths that meet the same terms
between-same : (h : Header) (u u' : Path) (terms : List Term) (v v' : Path) (f g : Path → Path → ℕ) → u.end ≡ u'.end → v.start ≡ v'.start → (r : Path)
    → ((a : Term) → Contains terms a → Meets u' a.path → Meets a.path v' → f (concat u (concat a.path v)) r ≡ g (concat u' (concat a.path v')) r)
    → sum_between h f u terms v r ≡ sum_between h g u' terms v' r
unfolding sum_between
between-same h u u' terms v v' f g e e' r m = sum_over-same h.field terms _ _ (λ a n.
    ap₂ (λ x y. if eqb x a.path.start && eqb a.path.end y then mul h.field a.coef (f (concat u (concat a.path v)) r) else 0) e e'
    ∙ elim (cases_Bool (eqb u'.end a.path.start && eqb a.path.end v'.start)) [
      | inl t ↦
          let parts = and_parts (eqb u'.end a.path.start) (eqb a.path.end v'.start) t in
          cond-true _ _ 0 t ∙ ap (mul h.field a.coef) (m a n (eqb-true _ _ parts.0) (eqb-true _ _ parts.1)) ∙ sym (cond-true _ _ 0 t)
      | inr t ↦ cond-false _ _ 0 t ∙ sym (cond-false _ _ 0 t)
    ])

-- short paths without a tip, as a list
record WordsAmong (h : Header) (rules : List Rule) (ps : List Path) : Type 0 where
  words : List Path
  ascending : IsAscending words
  all : (p : Path) → Contains ps p → HasNoTip h rules p → Contains words p
  only : (p : Path) → Contains words p → Contains ps p × HasNoTip h rules p

words_among : (h : Header) (rules : List Rule) → AreRules h rules → (ps : List Path) → IsAscending ps → ((p : Path) → Contains ps p → IsPath h.quiver p) → WordsAmong h rules ps
words_among h rules k [] asc are = record { words = []; ascending = AllPairs-nil IsSmaller; all = λ p m n. absurd (Contains-nil p m); only = λ p m. absurd (Contains-nil p m) }
words_among h rules k (x ∷ ps) asc are =
    let rest = words_among h rules k ps (AllPairs-tail IsSmaller x ps asc) (λ p m. are p (Contains-behind x ps p m)) in
    elim (cases_occurrence h rules k.allowed.quiver.ends k.tips x (are x (Contains-head x ps))) [
      | inl o ↦ record {
        words = rest.words;
        ascending = rest.ascending;
        all = λ p m n. elim (Contains-cons_cases x ps p m) [
          | inl e ↦ absurd (n o.rule o.listed (subst (IsFactor h.quiver o.rule.tip) e (record { before = o.before; behind = o.behind; before_is = o.before_is; behind_is = o.behind_is; meets_before = o.meets_before; meets_behind = o.meets_behind; whole = o.whole })))
          | inr c ↦ rest.all p c n
        ];
        only = λ p m. let is = rest.only p m in (Contains-behind x ps p is.0, is.1);
      }
      | inr n ↦ record {
        words = x ∷ rest.words;
        ascending = AllPairs-front IsSmaller x rest.words (λ y m. AllPairs-head IsSmaller x ps asc y (rest.only y m).0) rest.ascending;
        all = λ p m d. elim (Contains-cons_cases x ps p m) [
          | inl e ↦ subst (Contains (x ∷ rest.words)) e (Contains-head x rest.words)
          | inr c ↦ Contains-behind x rest.words p (rest.all p c d)
        ];
        only = λ p m. elim (Contains-cons_cases x rest.words p m) [
          | inl e ↦ (subst (Contains (x ∷ ps)) e (Contains-head x ps), subst (HasNoTip h rules) e n)
          | inr c ↦ let is = rest.only p c in (Contains-behind x ps p is.0, is.1)
        ];
      }
    ]

module _ (h : Header) (rules : List Rule) (ok : IsAllowed h) (tidy : AreTidy h rules) (becomes : Path → Path → ℕ) (red : IsReduction h rules becomes) (closed : HasNoGap h rules becomes) where
  are : AreRules h rules
  are = record {
    allowed = ok;
    tips = All-weaker (IsTidy h) (λ (x : Rule). IsPath h.quiver x.tip) (λ x t. t.path) rules tidy.each;
    tails = All-weaker (IsTidy h) (λ (x : Rule). AreElementTerms h x.tail.terms) (λ x t. t.tail) rules tidy.each;
    greater = All-weaker (IsTidy h) (λ (x : Rule). All (λ (a : Term). IsSmaller a.path x.tip) x.tail.terms) (λ x t. t.smaller) rules tidy.each;
  }

  lists : ListsPathsBelow h.quiver h.bound (paths_below h.quiver h.bound)
  lists = lists_paths_below h.quiver ok.quiver.ends h.bound

  among : WordsAmong h rules (paths_below h.quiver h.bound)
  among = words_among h rules are (paths_below h.quiver h.bound) lists.ascending (λ p m. (lists.only p m).0)

  abbrev words : List Path
  words = among.words

  words_hold : WordsHold h words rules
  words_hold = record {
    ascending = among.ascending;
    all = λ p s n. among.all p (lists.all p s.path s.short) n;
    only = λ p m. let is = among.only p m in let l = lists.only p is.0 in (record { path = l.0; short = l.1 }, is.1);
  }

  -- an arrow behind a path
  arrow_behind : (b : ℕ) → b < arrow_count h.quiver → (p : Path) → IsPath h.quiver p → p.end ≡ source h.quiver b → (r : Path)
      → becomes (concat p (arrow_path h.quiver b)) r ≡ act_arrow h becomes words b (becomes p) r
  arrow_behind b l = by_reduction h rules are (λ p. p.end ≡ source h.quiver b → (r : Path) → becomes (concat p (arrow_path h.quiver b)) r ≡ act_arrow h becomes words b (becomes p) r)
      (λ p hp m e r. red.long (concat p (arrow_path h.quiver b)) (whole p hp e) (omega (arith, m, path_length-concat p (arrow_path h.quiver b))) r
      ∙ sym (linear-same (act_arrow h becomes words b) (becomes p) (λ s. 0) (red.long p hp m) r ∙ linear-zero h.field (act_arrow h becomes words b) (act_arrow-linear h becomes words b) r))
      (λ p s n e r. sym (linear-same (act_arrow h becomes words b) (becomes p) (path_element h.bound p) (red.stays p s n) r
      ∙ act_arrow-word h becomes words b p r among.ascending (words_hold.all p s n) s.short e (becomes_below h rules are becomes red (concat p (arrow_path h.quiver b)) (whole p s.path e) r)))
      (λ p s o before e r.
      let v : Path = concat o.behind (arrow_path h.quiver b) in
      let meets : Meets o.behind (arrow_path h.quiver b) = ap (λ (x : Path). x.end) (sym o.whole) ∙ e in
      let is : concat p (arrow_path h.quiver b) ≡ concat o.before (concat o.rule.tip v) =
      ap (λ x. concat x (arrow_path h.quiver b)) o.whole ∙ concat_assoc o.before (concat o.rule.tip o.behind) (arrow_path h.quiver b) ∙ ap (concat o.before) (concat_assoc o.rule.tip o.behind (arrow_path h.quiver b)) in
      sym (closed (concat p (arrow_path h.quiver b)) (whole p s.path e) (omega (arith, s.short, path_length-concat p (arrow_path h.quiver b))) o.rule o.listed
      (record { before = o.before; behind = v; before_is = o.before_is; behind_is = whole o.behind o.behind_is meets; meets_before = o.meets_before; meets_behind = o.meets_behind; whole = is }) r)
      ∙ between-same h o.before o.before o.rule.tail.terms v o.behind becomes (λ q. act_arrow h becomes words b (becomes q)) refl refl r
      (λ a m mu mv. ap (λ x. becomes x r) (sym (concat_assoc o.before (concat a.path o.behind) (arrow_path h.quiver b) ∙ ap (concat o.before) (concat_assoc a.path o.behind (arrow_path h.quiver b))))
      ∙ before a m mu mv (rewritten_smaller h rules are p o a m mu mv) meets r)
      ∙ sym (linear-between h (act_arrow h becomes words b) (act_arrow-linear h becomes words b) becomes o.before o.rule.tail.terms o.behind r)
      ∙ linear-same (act_arrow h becomes words b) _ (becomes p) (λ q. sym (red.rewritten p s o q)) r)
    where
      whole : (p : Path) → IsPath h.quiver p → p.end ≡ source h.quiver b → IsPath h.quiver (concat p (arrow_path h.quiver b))
      whole p hp e = IsPath-concat h.quiver p (arrow_path h.quiver b) hp (IsPath-arrow h.quiver b ok.quiver.ends l) e

  -- the words with an arrow before them, with the coefficients that x has at the words
  act_before : ℕ → (Path → ℕ) → Path → ℕ
  act_before b x r = sum_over h.field words (λ w. if eqb (target h.quiver b) w.start then mul h.field (x w) (becomes (concat (arrow_path h.quiver b) w) r) else 0)

  act_before-linear : (b : ℕ) → IsLinear h.field (act_before b)
  unfolding act_before
  act_before-linear b = record {
    adds = λ x y r.
        sum_over-same h.field words _ _ (λ w m. ap (λ z. if eqb (target h.quiver b) w.start then z else 0) (add_mul h.field (x w) (y w) _) ∙ chosen-add h.field (eqb (target h.quiver b) w.start) _ _)
        ∙ sum_over-add h.field words _ _;
    scales = λ c x r.
        sum_over-same h.field words _ _ (λ w m. ap (λ z. if eqb (target h.quiver b) w.start then z else 0) (mul_assoc h.field c (x w) _) ∙ chosen-mul h.field (eqb (target h.quiver b) w.start) c _)
        ∙ sym (mul-sum_over h.field c words _);
  }

  with_before : (b : ℕ) → b < arrow_count h.quiver → (p : Path) → IsPath h.quiver p → target h.quiver b ≡ p.start → IsPath h.quiver (concat (arrow_path h.quiver b) p)
  with_before b l p hp e = IsPath-concat h.quiver (arrow_path h.quiver b) p (IsPath-arrow h.quiver b ok.quiver.ends l) hp e

  act_before-word : (b : ℕ) → b < arrow_count h.quiver → (w : Path) → Contains words w → target h.quiver b ≡ w.start → (r : Path)
      → act_before b (path_element h.bound w) r ≡ becomes (concat (arrow_path h.quiver b) w) r
  unfolding act_before
  act_before-word b l w m e r =
      let short = (words_hold.only w m).0 in
      let value = becomes_below h rules are becomes red (concat (arrow_path h.quiver b) w) (with_before b l w short.path e) r in
      let at : (if eqb (target h.quiver b) w.start then mul h.field (path_element h.bound w w) (becomes (concat (arrow_path h.quiver b) w) r) else 0) ≡ becomes (concat (arrow_path h.quiver b) w) r =
      cond-true _ _ 0 (eq-eqb _ _ e) ∙ ap (λ c. mul h.field c (becomes (concat (arrow_path h.quiver b) w) r)) (path_element-self h.bound w short.short) ∙ one_mul h.field _ value in
      sum_over-one h.field words _ w among.ascending m (subst (λ n. n < order h.field) (sym at) value)
      (λ v n d. ap (λ c. if eqb (target h.quiver b) v.start then mul h.field c (becomes (concat (arrow_path h.quiver b) v) r) else 0) (path_element-other h.bound w v (λ i. d (sym i)))
      ∙ ap (λ c. if eqb (target h.quiver b) v.start then c else 0) (zero_mul h.field _) ∙ chosen-zero (eqb (target h.quiver b) v.start))
      ∙ at

  -- an arrow before a path
  arrow_before : (b : ℕ) → b < arrow_count h.quiver → (p : Path) → IsPath h.quiver p → target h.quiver b ≡ p.start → (r : Path)
      → becomes (concat (arrow_path h.quiver b) p) r ≡ act_before b (becomes p) r
  arrow_before b l = by_reduction h rules are (λ p. target h.quiver b ≡ p.start → (r : Path) → becomes (concat (arrow_path h.quiver b) p) r ≡ act_before b (becomes p) r)
      (λ p hp m e r. red.long (concat (arrow_path h.quiver b) p) (with_before b l p hp e) (omega (arith, m, path_length-concat (arrow_path h.quiver b) p)) r
      ∙ sym (linear-same (act_before b) (becomes p) (λ s. 0) (red.long p hp m) r ∙ linear-zero h.field (act_before b) (act_before-linear b) r))
      (λ p s n e r. sym (linear-same (act_before b) (becomes p) (path_element h.bound p) (red.stays p s n) r ∙ act_before-word b l p (words_hold.all p s n) e r))
      (λ p s o before e r.
      let u : Path = concat (arrow_path h.quiver b) o.before in
      let meets : Meets (arrow_path h.quiver b) o.before = e ∙ ap (λ (x : Path). x.start) o.whole in
      let is : concat (arrow_path h.quiver b) p ≡ concat u (concat o.rule.tip o.behind) =
      ap (concat (arrow_path h.quiver b)) o.whole ∙ sym (concat_assoc (arrow_path h.quiver b) o.before (concat o.rule.tip o.behind)) in
      sym (closed (concat (arrow_path h.quiver b) p) (with_before b l p s.path e) (omega (arith, s.short, path_length-concat (arrow_path h.quiver b) p)) o.rule o.listed
      (record { before = u; behind = o.behind; before_is = with_before b l o.before o.before_is meets; behind_is = o.behind_is; meets_before = o.meets_before; meets_behind = o.meets_behind; whole = is }) r)
      ∙ between-same h u o.before o.rule.tail.terms o.behind o.behind becomes (λ q. act_before b (becomes q)) refl refl r
      (λ a m mu mv. ap (λ x. becomes x r) (concat_assoc (arrow_path h.quiver b) o.before (concat a.path o.behind))
      ∙ before a m mu mv (rewritten_smaller h rules are p o a m mu mv) meets r)
      ∙ sym (linear-between h (act_before b) (act_before-linear b) becomes o.before o.rule.tail.terms o.behind r)
      ∙ linear-same (act_before b) _ (becomes p) (λ q. sym (red.rewritten p s o q)) r)

  -- arrows before a path act linearly on what it becomes
  record ActsBefore (xs : List ℕ) (s e : ℕ) : Type 0 where
    acts : (Path → ℕ) → Path → ℕ
    linear : IsLinear h.field acts
    is : (p : Path) → IsPath h.quiver p → p.start ≡ e → (r : Path) → becomes (record { start = s; end = p.end; arrows = xs ++ p.arrows }) r ≡ acts (becomes p) r

  path_before : (xs : List ℕ) (s e : ℕ) → s < vertex_count h.quiver → Leads h.quiver s xs e → ActsBefore xs s e
  path_before [] s e b l = record {
    acts = λ x. x;
    linear = record { adds = λ x y r. refl; scales = λ c x r. refl };
    is = λ p hp i r. ap (λ q. becomes q r) (same_path (record { start = s; end = p.end; arrows = p.arrows }) p (l ∙ sym i) refl refl);
  }
  path_before (a ∷ xs) s e b l =
      let rest = path_before xs (target h.quiver a) e (ok.quiver.ends.targets a l.0) l.2 in
      record {
        acts = λ x. act_before a (rest.acts x);
        linear = linear-compose h.field rest.acts (act_before a) rest.linear (act_before-linear a);
        is = λ p hp i r.
            let q : Path = record { start = target h.quiver a; end = p.end; arrows = xs ++ p.arrows } in
            let hq : IsPath h.quiver q = record { starts = ok.quiver.ends.targets a l.0; leads = Leads-append h.quiver (target h.quiver a) xs e p.arrows p.end l.2 (subst (λ v. Leads h.quiver v p.arrows p.end) i hp.leads) } in
            ap (λ x. becomes x r) (same_path (record { start = s; end = p.end; arrows = a ∷ (xs ++ p.arrows) }) (concat (arrow_path h.quiver a) q) (sym l.1) refl refl)
            ∙ arrow_before a l.0 q hq refl r
            ∙ linear-same (act_before a) (becomes q) (rest.acts (becomes p)) (rest.is p hp i) r;
      }

  -- a path takes a word that it meets to what their composite becomes
  word_along : (v : Path) → Contains words v → (p : Path) → IsPath h.quiver p → v.end ≡ p.start → (r : Path)
      → act_arrows h becomes words p.arrows (path_element h.bound v) r ≡ becomes (concat v p) r
  word_along v m p hp e r =
      let is = words_hold.only v m in
      ap (λ x. act_arrows h becomes words p.arrows x r) (fun_ext (λ s. sym (red.stays v is.0 is.1 s)))
      ∙ ap (λ x. x r) (along_by h becomes words ok.quiver.ends (λ b l q hq i. fun_ext (λ s. sym (arrow_behind b l q hq i s))) p.arrows v p.end is.0.path (subst (λ s. Leads h.quiver s p.arrows p.end) (sym e) hp.leads))

  action_holds : ((relation : Relation) → Contains h.relations relation → (r : Path) → reduced_terms h becomes relation.terms r ≡ 0) → ActionHolds h words rules
  unfolding act_terms reduced_terms
  action_holds zero_terms = record { becomes = becomes; reduction = red; relations = relations; long = long }
    where
      long : (p : Path) → IsPath h.quiver p → path_length p ≡ h.bound → (v : Path) → Contains words v → (r : Path) → act_arrows h becomes words p.arrows (path_element h.bound v) r ≡ 0
      long p hp l v m r = elim (cases_eq v.end p.start) [
        | inl e ↦ word_along v m p hp e r ∙ red.long (concat v p) (IsPath-concat h.quiver v p (words_hold.only v m).0.path hp e) (omega (arith, l, path_length-concat v p)) r
        | inr d ↦ starts_apart h becomes words p.arrows v p.start p.end (omega (arith, l, ok.bound_from)) hp.leads (λ i. d (sym i)) r
      ]

      relations : (rel : Relation) → Contains h.relations rel → (v : Path) → Contains words v → (r : Path) → act_terms h becomes words rel.terms (path_element h.bound v) r ≡ 0
      relations rel c v m r = go rel.terms refl
        where
          lawful : IsRelation h rel
          lawful = All-contains (IsRelation h) h.relations rel ok.relations c

          is : IsShortPath h v
          is = (words_hold.only v m).0

          term_is : (t : Term) → Contains rel.terms t → IsTerm h t
          term_is t k = All-contains (IsTerm h) rel.terms t lawful.terms k

          before : ActsBefore v.arrows v.start v.end
          before = path_before v.arrows v.start v.end is.path.starts is.path.leads

          short_coefficient : Term → ℕ
          short_coefficient t = if ltb (path_length t.path) h.bound then t.coef else 0

          term_acts : (t : Term) → Contains rel.terms t → v.end ≡ t.path.start
              → (if ltb (path_length t.path) h.bound then mul h.field t.coef (act_arrows h becomes words t.path.arrows (path_element h.bound v) r) else 0) ≡ mul h.field (short_coefficient t) (before.acts (becomes t.path) r)
          term_acts t k e = elim (cases_lt (path_length t.path) h.bound) [
            | inl l ↦ cond-true _ _ 0 (lt-ltb _ _ l)
                ∙ ap₂ (mul h.field) (sym (cond-true _ t.coef 0 (lt-ltb _ _ l))) (word_along v m t.path (term_is t k).path e r ∙ before.is t.path (term_is t k).path (sym e) r)
            | inr l ↦ cond-false _ _ 0 (le-ltb _ _ l) ∙ sym (ap (λ n. mul h.field n (before.acts (becomes t.path) r)) (cond-false _ t.coef 0 (le-ltb _ _ l)) ∙ zero_mul h.field _)
          ]

          term_apart : (t : Term) → Contains rel.terms t → (v.end ≡ t.path.start → ⊥)
              → (if ltb (path_length t.path) h.bound then mul h.field t.coef (act_arrows h becomes words t.path.arrows (path_element h.bound v) r) else 0) ≡ 0
          term_apart t k d = elim (cases_lt (path_length t.path) h.bound) [
            | inl l ↦ cond-true _ _ 0 (lt-ltb _ _ l) ∙ ap (mul h.field t.coef)
                (starts_apart h becomes words t.path.arrows v t.path.start t.path.end (let n = (term_is t k).not_short in omega (arith, n)) (term_is t k).path.leads (λ j. d (sym j)) r) ∙ mul_zero h.field t.coef
            | inr l ↦ cond-false _ _ 0 (le-ltb _ _ l)
          ]

          reduced_is : (q : Path) → sum_over h.field rel.terms (λ (t : Term). mul h.field (short_coefficient t) (becomes t.path q)) ≡ 0
          reduced_is q = sum_over-same h.field rel.terms _ _ (λ t k. elim (cases_lt (path_length t.path) h.bound) [
            | inl l ↦ ap (λ n. mul h.field n (becomes t.path q)) (cond-true _ t.coef 0 (lt-ltb _ _ l)) ∙ sym (cond-true _ _ 0 (lt-ltb _ _ l))
            | inr l ↦ ap (λ n. mul h.field n (becomes t.path q)) (cond-false _ t.coef 0 (le-ltb _ _ l)) ∙ zero_mul h.field _ ∙ sym (cond-false _ _ 0 (le-ltb _ _ l))
          ]) ∙ zero_terms rel c q

          go : (terms : List Term) → rel.terms ≡ terms → act_terms h becomes words rel.terms (path_element h.bound v) r ≡ 0
          go [] e = ap (λ ts. act_terms h becomes words ts (path_element h.bound v) r) e ∙ sum_over-nil {X = Term} h.field _
          go (f ∷ rest) i =
              let n : Contains rel.terms f = subst (λ ts. Contains ts f) (sym i) (Contains-head f rest) in
              elim (cases_eq v.end f.path.start) [
                | inl e ↦ sum_over-same h.field rel.terms _ _ (λ t k. term_acts t k (e ∙ (parallel_terms rel.terms lawful.parallel f t n k).starts))
                    ∙ sym (linear-sum h.field before.acts before.linear rel.terms short_coefficient (λ (t : Term). becomes t.path) r)
                    ∙ linear-same before.acts _ (λ q. 0) reduced_is r ∙ linear-zero h.field before.acts before.linear r
                | inr d ↦ sum_over-zeros h.field rel.terms _ (λ t k. term_apart t k (λ j. d (j ∙ sym (parallel_terms rel.terms lawful.parallel f t n k).starts)))
              ]

  -- a path on each side acts linearly on what the paths become that it meets
  pub record ActsBetween (u v : Path) : Type 0 where
    pub acts : (Path → ℕ) → Path → ℕ
    pub linear : IsLinear h.field acts
    pub is : (m : Path) → IsPath h.quiver m → Meets u m → Meets m v → (r : Path) → becomes (concat u (concat m v)) r ≡ acts (becomes m) r

  pub acts_between : (u v : Path) → IsPath h.quiver u → IsPath h.quiver v → ActsBetween u v
  acts_between u v hu hv =
      let before = path_before u.arrows u.start u.end hu.starts hu.leads in
      let behind : (Path → ℕ) → Path → ℕ = act_arrows h becomes words v.arrows in
      record {
        acts = λ x. before.acts (behind x);
        linear = linear-compose h.field behind before.acts (act_arrows-linear h becomes words v.arrows) before.linear;
        is = λ m hm a b r.
            before.is (concat m v) (IsPath-concat h.quiver m v hm hv b) (sym a) r
            ∙ linear-same before.acts (becomes (concat m v)) (behind (becomes m))
            (λ q. ap (λ (x : Path → ℕ). x q) (sym (along_by h becomes words ok.quiver.ends (λ b l q hq i. fun_ext (λ s. sym (arrow_behind b l q hq i s))) v.arrows m v.end hm
            (subst (λ n. Leads h.quiver n v.arrows v.end) (sym b) hv.leads)))) r;
      }

  -- between two paths terms give what the paths make of their reduced sum
  pub between_reduced : (u v : Path) (hu : IsPath h.quiver u) (hv : IsPath h.quiver v) (terms : List Term) → AreElementTerms h terms → ((a : Term) → Contains terms a → Meets u a.path × Meets a.path v) → (r : Path)
      → sum_between h becomes u terms v r ≡ (acts_between u v hu hv).acts (reduced_terms h becomes terms) r
  unfolding sum_between reduced_terms
  between_reduced u v hu hv terms ts meets r =
      let b = acts_between u v hu hv in
      sum_over-same h.field terms _ _ (λ a m.
      cond-true _ _ 0 (ap₂ (λ x y. x && y) (eq-eqb _ _ (meets a m).0) (eq-eqb _ _ (meets a m).1))
      ∙ ap (mul h.field a.coef) (b.is a.path (All-contains (λ (x : Term). IsShortPath h x.path) terms a ts.short m).path (meets a m).0 (meets a m).1 r))
      ∙ sym (linear-sum h.field b.acts b.linear terms (λ (a : Term). a.coef) (λ (a : Term). becomes a.path) r)
      ∙ linear-same b.acts _ _ (λ p. sum_over-same h.field terms _ _ (λ a m. sym (cond-true _ _ 0 (lt-ltb _ _ (All-contains (λ (x : Term). IsShortPath h x.path) terms a ts.short m).short)))) r

-- rules of the ideal without a gap, by which relations reduce to zero, are the reduced rules
pub no_gap_reduced : (h : Header) (rules : List Rule) (becomes : Path → Path → ℕ) → IsAllowed h → AreTidy h rules → IsReduction h rules becomes → HasNoGap h rules becomes
    → ((rule : Rule) → Contains rules rule → IsInIdeal h (rule_element h rule))
    → ((relation : Relation) → Contains h.relations relation → (r : Path) → reduced_terms h becomes relation.terms r ≡ 0)
    → All (λ (rule : Rule). All (λ (a : Term). HasNoTip h rules a.path) rule.tail.terms) rules
    → AreReducedRules h rules
no_gap_reduced h rules becomes ok tidy red closed member zero_terms tails = rules_are_reduced h (words h rules ok tidy becomes red closed) rules (record {
  are = are h rules ok tidy becomes red closed;
  short = λ rule m. (All-contains (IsTidy h) rules rule tidy.each m).short;
  member = member;
  reduced = record { ascending = tidy.ascending; tips = tidy.apart; tails = tails };
  word = words_hold h rules ok tidy becomes red closed;
  action = action_holds h rules ok tidy becomes red closed zero_terms;
})
