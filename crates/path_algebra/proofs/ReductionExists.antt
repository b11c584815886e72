-- Where no tip has another as a factor, there is a reduction: each path becomes something, in one way.
use Rattle.std.proofs.Common.{ℕ, zero, suc, ◌≡◌, ◌≢◌, ◌<◌, ◌≤◌, ◌+◌, ◌-◌, ◌⊎◌, inl, inr, List, [], ◌∷◌, ◌&&◌, eqb, refl, sym, ap, ◌∙◌, subst, arith}
use Rattle.std.specs.Prelude.{Contains, AllPairs}
use Rattle.std.proofs.lemmas.List.Elements.{All-contains}
use Rattle.std.proofs.lemmas.Bool.{cases_lt, cases_eq, cases_Bool, and_parts, eqb-true, cond-true, cond-false}
use Rattle.linear_algebra.specs.Field.{mul}
use Rattle.quiver_paths.specs.declared.Quiver.{Quiver}
use Rattle.quiver_paths.specs.declared.Path.{Path}
use Rattle.quiver_paths.specs.Quiver.{arrow_count, vertex_count, source, target}
use Rattle.quiver_paths.specs.Path.{IsPath, Leads, path_length, Meets, concat, trivial_path, IsFactor}
use Rattle.quiver_paths.specs.PathOrder.{IsSmaller}
use Rattle.quiver_paths.proofs.ListLemmas.{Contains-head, Contains-behind, Contains-cons_cases, Contains-nil, AllPairs-head, AllPairs-tail}
use Rattle.quiver_paths.proofs.PathLemmas.{IsPath-concat, IsPath-trivial, IsPath-end, path_length-concat, length-factor, concat_assoc, concat-trivial_right, cut, cut_once}
use Rattle.quiver_paths.specs.PathParts.{IsCut}
use Rattle.quiver_paths.proofs.PathOrderLemmas.{IsSmaller-irreflexive, cases_path}
use Rattle.quiver_paths.proofs.PathListLemmas.{smaller_induction}
use Rattle.path_algebra.specs.declared.Term.{Term}
use Rattle.path_algebra.specs.declared.Header.{Header}
use Rattle.path_algebra.specs.declared.rules.Rule.{Rule}
use Rattle.path_algebra.specs.Elements.{path_element}
pub use Rattle.path_algebra.specs.Reduction.{HasReduction}
use Rattle.path_algebra.specs.Reduction.{HasNoTip, FirstOccurrence, sum_between, IsReduction}
use Rattle.path_algebra.proofs.SumsOver.{sum_over-same}
use Rattle.path_algebra.proofs.Occurrences.{cases_occurrence}
use Rattle.path_algebra.proofs.Reducing.{AreRules, tail_term, by_reduction, rewritten_smaller}

-- arrows lead from one vertex to another, or they do not
pub cases_leads : (Q : Quiver) (u : ℕ) (xs : List ℕ) (w : ℕ) → Leads Q u xs w ⊎ (Leads Q u xs w → ⊥)
cases_leads Q u [] w = cases_eq u w
cases_leads Q u (a ∷ xs) w = elim (cases_lt a (arrow_count Q)) [
  | inr l ↦ inr (λ h. omega (arith, l, h.0))
  | inl l ↦ elim (cases_eq (source Q a) u) [
    | inr d ↦ inr (λ h. d h.1)
    | inl e ↦ elim (cases_leads Q (target Q a) xs w) [ inl r ↦ inl (l, e, r) | inr n ↦ inr (λ h. n h.2) ]
  ]
]

pub cases_path_of : (Q : Quiver) (p : Path) → IsPath Q p ⊎ (IsPath Q p → ⊥)
cases_path_of Q p = elim (cases_lt p.start (vertex_count Q)) [
  | inr l ↦ inr (λ h. omega (arith, l, h.starts))
  | inl l ↦ elim (cases_leads Q p.start p.arrows p.end) [ inl r ↦ inl (record { starts = l; leads = r }) | inr n ↦ inr (λ h. n h.leads) ]
]

pub sum_between-same : (h : Header) (f g : Path → Path → ℕ) (u : Path) (terms : List Term) (v r : Path)
    → ((a : Term) → Contains terms a → Meets u a.path → Meets a.path v → f (concat u (concat a.path v)) r ≡ g (concat u (concat a.path v)) r)
    → sum_between h f u terms v r ≡ sum_between h g u terms v r
unfolding sum_between
sum_between-same h f g u terms v r m = sum_over-same h.field terms _ _ (λ a n. elim (cases_Bool (eqb u.end a.path.start && eqb a.path.end v.start)) [
  | inl e ↦
      let parts = and_parts (eqb u.end a.path.start) (eqb a.path.end v.start) e in
      cond-true _ _ 0 e ∙ ap (mul h.field a.coef) (m a n (eqb-true _ _ parts.0) (eqb-true _ _ parts.1)) ∙ sym (cond-true _ _ 0 e)
  | inr e ↦ cond-false _ _ 0 e ∙ sym (cond-false _ _ 0 e)
])

-- what a path is to the rules
data Kind (h : Header) (rules : List Rule) (p : Path) : Type 0 where
  other : (IsPath h.quiver p → ⊥) → Kind h rules p
  long : h.bound ≤ path_length p → Kind h rules p
  word : path_length p < h.bound → HasNoTip h rules p → Kind h rules p
  has_tip : path_length p < h.bound → FirstOccurrence h rules p → Kind h rules p

module _ (h : Header) (rules : List Rule) (k : AreRules h rules)
    (antichain : (a b : Rule) → Contains rules a → Contains rules b → (a.tip ≡ b.tip → ⊥) → IsFactor h.quiver a.tip b.tip → ⊥)
    (tips_once : (a b : Rule) → Contains rules a → Contains rules b → a.tip ≡ b.tip → a ≡ b) where
  kind_of : (p : Path) → Kind h rules p
  kind_of p = elim (cases_path_of h.quiver p) [
    | inr n ↦ other n
    | inl hp ↦ elim (cases_lt (path_length p) h.bound) [
      | inr l ↦ long l
      | inl l ↦ elim (cases_occurrence h rules k.allowed.quiver.ends k.tips p hp) [ inl o ↦ has_tip l o | inr n ↦ word l n ]
    ]
  ]

  -- what a path becomes, where the smaller paths become what `before` says
  by_kind : (before : Path → Path → ℕ) → (p : Path) → Kind h rules p → Path → ℕ
  by_kind before p (other d) r = 0
  by_kind before p (long l) r = 0
  by_kind before p (word l d) r = path_element h.bound p r
  by_kind before p (has_tip l o) r = sum_between h before o.before o.rule.tail.terms o.behind r

  -- what a path becomes in so many steps
  steps_of : ℕ → Path → Path → ℕ
  steps_of zero p r = 0
  steps_of (suc n) p r = by_kind (steps_of n) p (kind_of p) r

  -- from some number of steps on it stays
  record Stays (p : Path) : Type 0 where
    enough : ℕ
    stays : (n : ℕ) → enough ≤ n → (r : Path) → steps_of n p r ≡ steps_of enough p r

  -- the same for all terms of a tail
  record AllStay (u : Path) (terms : List Term) (v : Path) : Type 0 where
    enough : ℕ
    stays : (a : Term) → Contains terms a → Meets u a.path → Meets a.path v → (n : ℕ) → enough ≤ n → (r : Path)
        → steps_of n (concat u (concat a.path v)) r ≡ steps_of enough (concat u (concat a.path v)) r

  one_stays : (u : Path) (a : Term) (terms : List Term) (v : Path) → AllStay u terms v → Stays (concat u (concat a.path v)) → AllStay u (a ∷ terms) v
  one_stays u a terms v rest first = record {
    enough = first.enough + rest.enough;
    stays = λ b n mu mv k l r. elim (Contains-cons_cases a terms b n) [
      | inl i ↦ subst (λ (x : Term). steps_of k (concat u (concat x.path v)) r ≡ steps_of (first.enough + rest.enough) (concat u (concat x.path v)) r) i
          (first.stays k (omega (arith, l)) r ∙ sym (first.stays (first.enough + rest.enough) (omega arith) r))
      | inr n2 ↦ rest.stays b n2 mu mv k (omega (arith, l)) r ∙ sym (rest.stays b n2 mu mv (first.enough + rest.enough) (omega arith) r)
    ];
  }

  apart_stays : (u : Path) (a : Term) (terms : List Term) (v : Path) → AllStay u terms v → (Meets u a.path → Meets a.path v → ⊥) → AllStay u (a ∷ terms) v
  apart_stays u a terms v rest d = record {
    enough = rest.enough;
    stays = λ b n mu mv. elim (Contains-cons_cases a terms b n) [
      | inl i ↦ absurd (d (subst (λ (x : Term). Meets u x.path) (sym i) mu) (subst (λ (x : Term). Meets x.path v) (sym i) mv))
      | inr n2 ↦ rest.stays b n2 mu mv
    ];
  }

  all_stay : (u : Path) (terms : List Term) (v : Path) → ((a : Term) → Contains terms a → Meets u a.path → Meets a.path v → Stays (concat u (concat a.path v))) → AllStay u terms v
  all_stay u [] v m = record { enough = 0; stays = λ a n. absurd (Contains-nil a n) }
  all_stay u (a ∷ terms) v m =
      let rest = all_stay u terms v (λ b n. m b (Contains-behind a terms b n)) in
      elim (cases_eq u.end a.path.start) [
        | inr d ↦ apart_stays u a terms v rest (λ mu mv. d mu)
        | inl e ↦ elim (cases_eq a.path.end v.start) [
          | inr d ↦ apart_stays u a terms v rest (λ mu mv. d mv)
          | inl f ↦ one_stays u a terms v rest (m a (Contains-head a terms) e f)
        ]
      ]

  -- one step more
  one_more : (n : ℕ) (p : Path) (c : Kind h rules p) → kind_of p ≡ c → (r : Path) → steps_of (suc n) p r ≡ by_kind (steps_of n) p c r
  unfolding steps_of
  one_more n p c e r = ap (λ x. by_kind (steps_of n) p x r) e

  stays_from_one : (p : Path) → ((n : ℕ) (r : Path) → steps_of (suc n) p r ≡ steps_of 1 p r) → Stays p
  stays_from_one p f = record { enough = 1; stays = λ n m r. fixed n m r }
    where
      fixed : (n : ℕ) → 1 ≤ n → (r : Path) → steps_of n p r ≡ steps_of 1 p r
      fixed zero m r = absurd (omega (arith, m))
      fixed (suc n) m r = f n r

  terms_stay : (p : Path) (o : FirstOccurrence h rules p) → ((q : Path) → IsPath h.quiver q → IsSmaller q p → Stays q) → AllStay o.before o.rule.tail.terms o.behind
  terms_stay p o before = all_stay o.before o.rule.tail.terms o.behind (λ a m mu mv. before (concat o.before (concat a.path o.behind))
      (IsPath-concat h.quiver o.before (concat a.path o.behind) o.before_is (IsPath-concat h.quiver a.path o.behind (tail_term h rules k o.rule o.listed a m).short.path o.behind_is mv) mu)
      (rewritten_smaller h rules k p o a m mu mv))

  stays_by : (p : Path) → IsPath h.quiver p → ((q : Path) → IsPath h.quiver q → IsSmaller q p → Stays q) → (c : Kind h rules p) → kind_of p ≡ c → Stays p
  unfolding by_kind
  stays_by p hp before (other d) e = absurd (d hp)
  stays_by p hp before (long l) e = stays_from_one p (λ n r. one_more n p (long l) e r ∙ sym (one_more 0 p (long l) e r))
  stays_by p hp before (word l d) e = stays_from_one p (λ n r. one_more n p (word l d) e r ∙ sym (one_more 0 p (word l d) e r))
  stays_by p hp before (has_tip l o) e = record { enough = suc inner.enough; stays = λ n m r. fixed n m r }
    where
      inner : AllStay o.before o.rule.tail.terms o.behind
      inner = terms_stay p o before

      fixed : (n : ℕ) → suc inner.enough ≤ n → (r : Path) → steps_of n p r ≡ steps_of (suc inner.enough) p r
      fixed zero m r = absurd (omega (arith, m))
      fixed (suc n) m r = one_more n p (has_tip l o) e r
          ∙ sum_between-same h (steps_of n) (steps_of inner.enough) o.before o.rule.tail.terms o.behind r (λ a c mu mv. inner.stays a c mu mv n (omega (arith, m)) r)
          ∙ sym (one_more inner.enough p (has_tip l o) e r)

  stays_always : (p : Path) → IsPath h.quiver p → Stays p
  stays_always = smaller_induction h.quiver k.allowed.quiver.ends Stays (λ p hp before. stays_by p hp before (kind_of p) refl)

  becomes_by : (p : Path) → IsPath h.quiver p ⊎ (IsPath h.quiver p → ⊥) → Path → ℕ
  becomes_by p (inl hp) r = steps_of (stays_always p hp).enough p r
  becomes_by p (inr d) r = 0

  becomes_of : Path → Path → ℕ
  becomes_of p = becomes_by p (cases_path_of h.quiver p)

  -- it is reached in each larger number of steps
  reached_by : (p : Path) (hp : IsPath h.quiver p) → (c : IsPath h.quiver p ⊎ (IsPath h.quiver p → ⊥)) → (n : ℕ) → (stays_always p hp).enough ≤ n → (r : Path) → becomes_by p c r ≡ steps_of n p r
  unfolding becomes_by
  reached_by p hp (inl hq) n l r =
      let more : ℕ = n + (stays_always p hq).enough in
      sym ((stays_always p hq).stays more (omega arith) r) ∙ ((stays_always p hp).stays more (omega (arith, l)) r ∙ sym ((stays_always p hp).stays n l r))
  reached_by p hp (inr d) n l r = absurd (d hp)

  reached : (p : Path) (hp : IsPath h.quiver p) → (n : ℕ) → (stays_always p hp).enough ≤ n → (r : Path) → becomes_of p r ≡ steps_of n p r
  unfolding becomes_of
  reached p hp n l r = reached_by p hp (cases_path_of h.quiver p) n l r

  -- two occurrences that end first are one
  record SameOccurrence (p : Path) (o o' : FirstOccurrence h rules p) : Type 0 where
    rules_same : o.rule ≡ o'.rule
    befores : o.before ≡ o'.before
    behinds : o.behind ≡ o'.behind

  abbrev occurrence_of : (p : Path) (o : FirstOccurrence h rules p) → IsFactor h.quiver o.rule.tip p
  occurrence_of p o = record { before = o.before; behind = o.behind; before_is = o.before_is; behind_is = o.behind_is; meets_before = o.meets_before; meets_behind = o.meets_behind; whole = o.whole }

  tip_is : (rule : Rule) → Contains rules rule → IsPath h.quiver rule.tip
  tip_is rule m = All-contains (λ (x : Rule). IsPath h.quiver x.tip) rules rule k.tips m

  cut_at : (p : Path) (o : FirstOccurrence h rules p) (n : ℕ) → path_length o.before + path_length o.rule.tip ≡ n → IsCut h.quiver p n (concat o.before o.rule.tip) o.behind
  cut_at p o n e = record {
    front_is = IsPath-concat h.quiver o.before o.rule.tip o.before_is (tip_is o.rule o.listed) o.meets_before;
    rest_is = o.behind_is;
    meets = o.meets_behind;
    whole = concat_assoc o.before o.rule.tip o.behind ∙ sym o.whole;
    front_length = path_length-concat o.before o.rule.tip ∙ e;
  }

  -- where the first tip is no longer
  same_by_length : (p : Path) (o o' : FirstOccurrence h rules p) → concat o.before o.rule.tip ≡ concat o'.before o'.rule.tip → o.behind ≡ o'.behind → path_length o.rule.tip ≤ path_length o'.rule.tip
      → SameOccurrence p o o'
  same_by_length p o o' fronts behinds l = record {
    rules_same = tips_once o.rule o'.rule o.listed o'.listed tips;
    befores = (cut_once h.quiver (concat o'.before o'.rule.tip) (path_length o'.before) o.before o.rule.tip o'.before o'.rule.tip
        (record { front_is = o.before_is; rest_is = tip_is o.rule o.listed; meets = o.meets_before; whole = fronts; front_length = omega (arith, lengths, ap path_length tips) })
        (record { front_is = o'.before_is; rest_is = tip_is o'.rule o'.listed; meets = o'.meets_before; whole = refl; front_length = refl })).0;
    behinds = behinds;
  }
    where
      lengths : path_length o.before + path_length o.rule.tip ≡ path_length o'.before + path_length o'.rule.tip
      lengths = sym (path_length-concat o.before o.rule.tip) ∙ ap path_length fronts ∙ path_length-concat o'.before o'.rule.tip

      tips : o.rule.tip ≡ o'.rule.tip
      tips =
          let Q = h.quiver in
          let s = cut Q o'.rule.tip (path_length o'.rule.tip - path_length o.rule.tip) k.allowed.quiver.ends (tip_is o'.rule o'.listed) (omega arith) in
          let meets : Meets o'.before s.0 = o'.meets_before ∙ ap (λ (x : Path). x.start) (sym s.2.whole) in
          let front_is : IsPath Q (concat o'.before s.0) = IsPath-concat Q o'.before s.0 o'.before_is s.2.front_is meets in
          let suffix : o.rule.tip ≡ s.1 = (cut_once Q (concat o'.before o'.rule.tip) (path_length o.before) o.before o.rule.tip (concat o'.before s.0) s.1
          (record { front_is = o.before_is; rest_is = tip_is o.rule o.listed; meets = o.meets_before; whole = fronts; front_length = refl })
          (record {
            front_is = front_is;
            rest_is = s.2.rest_is;
            meets = s.2.meets;
            whole = concat_assoc o'.before s.0 s.1 ∙ ap (concat o'.before) s.2.whole;
            front_length = path_length-concat o'.before s.0 ∙ omega (arith, lengths, s.2.front_length, l);
          })).1 in
          elim (cases_path o.rule.tip o'.rule.tip) [
            | inl e ↦ e
            | inr d ↦ absurd (antichain o.rule o'.rule o.listed o'.listed d (subst (λ x. IsFactor Q x o'.rule.tip) (sym suffix) (record {
              before = s.0;
              behind = trivial_path s.1.end;
              before_is = s.2.front_is;
              behind_is = IsPath-trivial Q s.1.end (IsPath-end Q s.1 k.allowed.quiver.ends s.2.rest_is);
              meets_before = s.2.meets;
              meets_behind = refl;
              whole = sym (ap (concat s.0) (concat-trivial_right s.1) ∙ s.2.whole);
            })))
          ]

  same_occurrence : (p : Path) (o o' : FirstOccurrence h rules p) → SameOccurrence p o o'
  same_occurrence p o o' =
      let lengths : path_length o.behind ≡ path_length o'.behind = omega (arith, o.first o'.rule o'.listed (occurrence_of p o'), o'.first o.rule o.listed (occurrence_of p o)) in
      let n : ℕ = path_length o.before + path_length o.rule.tip in
      let other_n : path_length o'.before + path_length o'.rule.tip ≡ n = omega (arith, lengths, length-factor h.quiver o.rule.tip p (occurrence_of p o), length-factor h.quiver o'.rule.tip p (occurrence_of p o')) in
      let parts = cut_once h.quiver p n (concat o.before o.rule.tip) o.behind (concat o'.before o'.rule.tip) o'.behind (cut_at p o n refl) (cut_at p o' n other_n) in
      elim (cases_lt (path_length o'.rule.tip) (path_length o.rule.tip)) [
        | inr l ↦ same_by_length p o o' parts.0 parts.1 l
        | inl l ↦
            let s = same_by_length p o' o (sym parts.0) (sym parts.1) (omega (arith, l)) in
            record { rules_same = sym s.rules_same; befores = sym s.befores; behinds = sym s.behinds }
      ]

  -- what a path with a tip becomes
  rewritten_by : (p : Path) (hp : IsPath h.quiver p) → path_length p < h.bound → (o : FirstOccurrence h rules p) → (c : Kind h rules p) → kind_of p ≡ c → (r : Path)
      → becomes_of p r ≡ sum_between h becomes_of o.before o.rule.tail.terms o.behind r
  unfolding by_kind
  rewritten_by p hp s o (other d) e r = absurd (d hp)
  rewritten_by p hp s o (long l) e r = absurd (omega (arith, l, s))
  rewritten_by p hp s o (word l d) e r = absurd (d o.rule o.listed (occurrence_of p o))
  rewritten_by p hp s o (has_tip l o') e r =
      let inner = terms_stay p o' (λ q hq less. stays_always q hq) in
      let n : ℕ = inner.enough + (stays_always p hp).enough in
      let same = same_occurrence p o' o in
      reached p hp (suc n) (omega arith) r
      ∙ one_more n p (has_tip l o') e r
      ∙ sum_between-same h (steps_of n) becomes_of o'.before o'.rule.tail.terms o'.behind r (λ a c mu mv.
      let ha = IsPath-concat h.quiver o'.before (concat a.path o'.behind) o'.before_is (IsPath-concat h.quiver a.path o'.behind (tail_term h rules k o'.rule o'.listed a c).short.path o'.behind_is mv) mu in
      inner.stays a c mu mv n (omega arith) r
      ∙ sym (inner.stays a c mu mv (inner.enough + (stays_always (concat o'.before (concat a.path o'.behind)) ha).enough) (omega arith) r)
      ∙ sym (reached (concat o'.before (concat a.path o'.behind)) ha (inner.enough + (stays_always (concat o'.before (concat a.path o'.behind)) ha).enough) (omega arith) r))
      ∙ ap (λ u. sum_between h becomes_of u o'.rule.tail.terms o'.behind r) same.befores
      ∙ ap (λ (x : Rule). sum_between h becomes_of o.before x.tail.terms o'.behind r) same.rules_same
      ∙ ap (λ v. sum_between h becomes_of o.before o.rule.tail.terms v r) same.behinds

  long_by : (p : Path) (hp : IsPath h.quiver p) → h.bound ≤ path_length p → (c : Kind h rules p) → kind_of p ≡ c → (r : Path) → becomes_of p r ≡ 0
  unfolding by_kind
  long_by p hp l (other d) e r = absurd (d hp)
  long_by p hp l (long m) e r = reached p hp (suc (stays_always p hp).enough) (omega arith) r ∙ one_more (stays_always p hp).enough p (long m) e r
  long_by p hp l (word s d) e r = absurd (omega (arith, l, s))
  long_by p hp l (has_tip s o) e r = absurd (omega (arith, l, s))

  word_by : (p : Path) (hp : IsPath h.quiver p) → path_length p < h.bound → HasNoTip h rules p → (c : Kind h rules p) → kind_of p ≡ c → (r : Path) → becomes_of p r ≡ path_element h.bound p r
  unfolding by_kind
  word_by p hp s n (other d) e r = absurd (d hp)
  word_by p hp s n (long m) e r = absurd (omega (arith, m, s))
  word_by p hp s n (word l d) e r = reached p hp (suc (stays_always p hp).enough) (omega arith) r ∙ one_more (stays_always p hp).enough p (word l d) e r
  word_by p hp s n (has_tip l o) e r = absurd (n o.rule o.listed (occurrence_of p o))

  is_reduction : IsReduction h rules becomes_of
  is_reduction = record {
    long = λ p hp l. long_by p hp l (kind_of p) refl;
    stays = λ p s n. word_by p s.path s.short n (kind_of p) refl;
    rewritten = λ p s o. rewritten_by p s.path s.short o (kind_of p) refl;
  }

-- rules with one tip are one, where tips ascend
pub tips_are_once : (rules : List Rule) → AllPairs (λ (a b : Rule). IsSmaller a.tip b.tip) rules → (a b : Rule) → Contains rules a → Contains rules b → a.tip ≡ b.tip → a ≡ b
tips_are_once [] asc a b m n e = absurd (Contains-nil a m)
tips_are_once (x ∷ rules) asc a b m n e = elim (Contains-cons_cases x rules a m) [
  | inl i ↦ elim (Contains-cons_cases x rules b n) [
    | inl j ↦ sym i ∙ j
    | inr n2 ↦ absurd (IsSmaller-irreflexive b.tip (subst (λ y. IsSmaller y b.tip) (ap (λ (y : Rule). y.tip) i ∙ e) (AllPairs-head (λ (y z : Rule). IsSmaller y.tip z.tip) x rules asc b n2)))
  ]
  | inr m2 ↦ elim (Contains-cons_cases x rules b n) [
    | inl j ↦ absurd (IsSmaller-irreflexive a.tip (subst (λ y. IsSmaller y a.tip) (ap (λ (y : Rule). y.tip) j ∙ sym e) (AllPairs-head (λ (y z : Rule). IsSmaller y.tip z.tip) x rules asc a m2)))
    | inr n2 ↦ tips_are_once rules (AllPairs-tail (λ (y z : Rule). IsSmaller y.tip z.tip) x rules asc) a b m2 n2 e
  ]
]

pub reduction_exists : (h : Header) (rules : List Rule) → AreRules h rules → AllPairs (λ (a b : Rule). IsSmaller a.tip b.tip) rules
    → ((a b : Rule) → Contains rules a → Contains rules b → a.tip ≢ b.tip → IsFactor h.quiver a.tip b.tip → ⊥) → HasReduction h rules
reduction_exists h rules k asc antichain = record {
  becomes = becomes_of h rules k antichain (tips_are_once rules asc);
  is = is_reduction h rules k antichain (tips_are_once rules asc);
}

-- two reductions make the same of each path of the quiver
pub reduction_once : (h : Header) (rules : List Rule) → AreRules h rules → (f g : Path → Path → ℕ) → IsReduction h rules f → IsReduction h rules g
    → (p : Path) → IsPath h.quiver p → (r : Path) → f p r ≡ g p r
reduction_once h rules k f g a b = by_reduction h rules k (λ p. (r : Path) → f p r ≡ g p r)
    (λ p hp l r. a.long p hp l r ∙ sym (b.long p hp l r))
    (λ p s n r. a.stays p s n r ∙ sym (b.stays p s n r))
    (λ p s o before r. a.rewritten p s o r
    ∙ sum_between-same h f g o.before o.rule.tail.terms o.behind r (λ t m mu mv. before t m mu mv (rewritten_smaller h rules k p o t m mu mv) r)
    ∙ sym (b.rewritten p s o r))
