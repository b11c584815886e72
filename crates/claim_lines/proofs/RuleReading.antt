-- Rules: their spellings differ, and what their readers conclude.
use Rattle.std.proofs.Common.{◌≡◌, ◌≢◌, ℕ, ◌+◌, ◌-◌, ◌<◌, ◌≤◌, ◌^◌, Bool, true, false, List, [], ◌∷◌, ◌++◌, ◌⊎◌, map, length, get_or, cond, eqb, codes, decimal, Some, None, inl, inr, refl, sym, ap, ◌∙◌, subst, arith, append_assoc, lit<}
use Rattle.std.specs.Prelude.{All, AllPairs}
use Rattle.std.specs.declared.option.Option.{Option}
use Rattle.std.proofs.lemmas.Bool.{cases_lt}
use Rattle.std.proofs.lemmas.List.{get_or_default}
use Rattle.quiver_paths.proofs.PathOrderLemmas.{IsSmaller-trans}
use Rattle.std.proofs.lemmas.List.Elements.{All-nil, All-head, All-tail, All-weaker, All-push}
use Rattle.quiver_paths.specs.declared.Path.{Path}
use Rattle.quiver_paths.specs.declared.Quiver.{Quiver}
use Rattle.quiver_paths.specs.Path.{IsPath, path_length}
use Rattle.quiver_paths.specs.PathOrder.{IsSmaller}
use Rattle.path_algebra.specs.declared.Term.{Term}
use Rattle.path_algebra.specs.declared.Header.{Header}
use Rattle.path_algebra.specs.declared.rules.Rule.{Rule}
use Rattle.path_algebra.specs.Allowed.{is_letter}
use Rattle.path_algebra.specs.Words.{IsShortPath}
use Rattle.path_algebra.specs.Rules.{AreElementTerms}
use Rattle.text_lines.specs.Parts.{Lacks}
use Rattle.header_text.specs.Spelling.{path_text, term_text, plus_between}
use Rattle.header_text.specs.Named.{IsNamed}
use Rattle.header_text.specs.Reading.{ReadsFirst}
use Rattle.header_text.proofs.Names.{path_text-trivial}
use Rattle.header_text.proofs.Clean.{not_lacks, lacks_by_test}
use Rattle.header_text.proofs.Uniqueness.{decimal_one}
use Rattle.report_types.specs.BasisBlocks.{IsWrittenRule}
use Rattle.claim_lines.specs.Spelling.{tail_form, rule_line}
use Rattle.claim_lines.specs.Reading.{IsTailTerm, AreTailTerms, separated, tail_then_by, rule_form, IsRuleForm, HasLimits}
use Rattle.claim_lines.proofs.PathReading.{cases_nil, long_begins, one_any_path, one_tail_term}
use Rattle.claim_lines.proofs.StepReading.{head_of, tail_of}

-- terms with a `+` behind each
abbrev pub followed : Quiver → List Term → List (List ℕ)
followed Q [] = []
followed Q (t ∷ ts) = term_text Q t ∷ codes "+" ∷ followed Q ts

-- the tokens of terms of which the last was read, or was not
abbrev pub so_far : Quiver → Bool → List Term → List (List ℕ)
so_far Q true ts = tail_then_by Q ts
so_far Q false ts = followed Q ts

between : Quiver → List Term → List (List ℕ)
between Q ts = plus_between (map (term_text Q) ts)

some_none : {X : Type 0} (x : X) (xs : List X) → x ∷ xs ≡ [] → ⊥
some_none x xs e = cc

tail_form-between : (Q : Quiver) (ts : List Term) → ts ≢ [] → tail_form Q ts ≡ between Q ts
unfolding between
tail_form-between Q [] some = absurd (some refl)
tail_form-between Q (t ∷ ts) some = refl

between-push : (Q : Quiver) (ts : List Term) (t : Term) (rest : List (List ℕ)) → between Q (ts ++ t ∷ []) ++ rest ≡ followed Q ts ++ term_text Q t ∷ rest
unfolding between
between-push Q [] t rest = refl
between-push Q (u ∷ []) t rest = refl
between-push Q (u ∷ v ∷ us) t rest = ap (λ r. term_text Q u ∷ codes "+" ∷ r) (between-push Q (v ∷ us) t rest)

followed-push : (Q : Quiver) (ts : List Term) (t : Term) (rest : List (List ℕ)) → followed Q (ts ++ t ∷ []) ++ rest ≡ followed Q ts ++ term_text Q t ∷ codes "+" ∷ rest
followed-push Q [] t rest = refl
followed-push Q (u ∷ us) t rest = ap (λ r. term_text Q u ∷ codes "+" ∷ r) (followed-push Q us t rest)

pub pushed_some : {X : Type 0} (xs : List X) (x : X) → xs ++ x ∷ [] ≢ []
pushed_some [] x e = some_none _ _ e
pushed_some (y ∷ xs) x e = some_none _ _ e

tail_then_by-form : (Q : Quiver) (ts : List Term) (rest : List (List ℕ)) → ts ≢ [] → tail_then_by Q ts ++ rest ≡ between Q ts ++ codes "by" ∷ rest
tail_then_by-form Q ts rest some = append_assoc (tail_form Q ts) (codes "by" ∷ []) rest ∙ ap (λ r. r ++ codes "by" ∷ rest) (tail_form-between Q ts some)

-- one term more
pub so_far-push : (Q : Quiver) (ts : List Term) (t : Term) (last : Bool) (tokens left rest : List (List ℕ)) → tokens ≡ followed Q ts ++ left → left ≡ separated Q (t, last) ++ rest
    → tokens ≡ so_far Q last (ts ++ t ∷ []) ++ rest
so_far-push Q ts t true tokens left rest e f =
    e ∙ (ap (λ r. followed Q ts ++ r) f ∙ sym (tail_then_by-form Q (ts ++ t ∷ []) rest (pushed_some ts t) ∙ between-push Q ts t (codes "by" ∷ rest)))
so_far-push Q ts t false tokens left rest e f = e ∙ (ap (λ r. followed Q ts ++ r) f ∙ sym (followed-push Q ts t rest))

plus_not_by : codes "+" ≡ codes "by" → ⊥
plus_not_by e = absurd (omega (arith, ap (λ w. get_or w 0 0) e))

-- tokens that begin with some terms, each followed by `+`, go on with a term
next_term : (Q : Quiver) (P : Term → Type 0) (ts us : List Term) (left rest : List (List ℕ)) → us ≢ [] → All P us → followed Q ts ++ left ≡ between Q us ++ codes "by" ∷ rest
    → (x : Term × Bool) × (after : List (List ℕ)) × P x.0 × (left ≡ separated Q x ++ after)
unfolding between
next_term Q P ts [] left rest some all e = absurd (some refl)
next_term Q P [] (u ∷ []) left rest some all e = ((u, true), rest, All-head P u [] all, e)
next_term Q P [] (u ∷ v ∷ us) left rest some all e = ((u, false), between Q (v ∷ us) ++ codes "by" ∷ rest, All-head P u (v ∷ us) all, e)
next_term Q P (t ∷ ts) (u ∷ []) left rest some all e = absurd (plus_not_by (head_of _ _ _ _ (tail_of _ _ _ _ e)))
next_term Q P (t ∷ ts) (u ∷ v ∷ us) left rest some all e =
    next_term Q P ts (v ∷ us) left rest (λ f. some_none v us f) (All-tail P u (v ∷ us) all) (tail_of _ _ _ _ (tail_of _ _ _ _ e))

pub no_more_terms : (h : Header) (ts : List Term) (tokens left : List (List ℕ)) → tokens ≡ followed h.quiver ts ++ left
    → ((x : Term × Bool) (after : List (List ℕ)) → IsTailTerm h x.0 → left ≡ separated h.quiver x ++ after → ⊥)
    → (us : List Term) (rest : List (List ℕ)) → AreTailTerms h us → tokens ≡ tail_then_by h.quiver us ++ rest → ⊥
no_more_terms h ts tokens left whole none us rest are e =
    let x = next_term h.quiver (IsTailTerm h) ts us left rest are.some are.all (sym whole ∙ (e ∙ tail_then_by-form h.quiver us rest are.some)) in
    none x.0 x.1 x.2 x.3

pub are_pushed : (h : Header) (ts : List Term) (t : Term) → All (IsTailTerm h) ts → IsTailTerm h t → AreTailTerms h (ts ++ t ∷ [])
are_pushed h ts t all is = record { some = pushed_some ts t; all = All-push (IsTailTerm h) ts t all is }

-- ---- the tail `0`

bool_clash : true ≡ false → ⊥
bool_clash e = cc

zero_path : (Q : Quiver) → IsNamed Q → (p : Path) → IsPath Q p → path_text Q p ≡ 48 ∷ [] → ⊥
zero_path Q named p path e = elim (cases_nil p.arrows) [
  | inl nil ↦ absurd (omega (arith, ap (λ t. get_or t 0 0) (sym (path_text-trivial Q p nil) ∙ e)))
  | inr some ↦ bool_clash (sym (long_begins Q named p record { path = path; some = some }) ∙ ap (λ t. is_letter (get_or t 0 0)) e)
]

zero_by : (h : Header) → IsNamed h.quiver → (t : Term) → IsTailTerm h t → (b : Bool) → cond b [] (decimal t.coef ++ 42 ∷ []) ++ path_text h.quiver t.path ≡ 48 ∷ [] → ⊥
zero_by h named t is true e = zero_path h.quiver named t.path is.path e
zero_by h named t is false e =
    not_lacks 42 (decimal t.coef) (path_text h.quiver t.path) (subst (Lacks 42) (sym e ∙ append_assoc (decimal t.coef) (42 ∷ []) (path_text h.quiver t.path)) (lacks_by_test 42 (codes "0") refl))

zero_no_term : (h : Header) → IsNamed h.quiver → (t : Term) → IsTailTerm h t → codes "0" ≡ term_text h.quiver t → ⊥
zero_no_term h named t is e = zero_by h named t is (eqb t.coef 1) (sym e)

pub zero_reads : (h : Header) → IsNamed h.quiver → (rest new : List (List ℕ)) (r : Option (List Term))
    → ReadsFirst (λ (ts : List Term). ts ≡ []) (λ (ts : List Term). codes "by" ∷ []) rest new r
    → ReadsFirst (All (IsTailTerm h)) (tail_then_by h.quiver) (codes "0" ∷ rest) new r
zero_reads h named rest new None none = λ ts after all e. no_tail ts after all e
  where
    no_tail : (ts : List Term) (after : List (List ℕ)) → All (IsTailTerm h) ts → codes "0" ∷ rest ≡ tail_then_by h.quiver ts ++ after → ⊥
    no_tail [] after all e = none [] after refl (tail_of _ _ _ _ e)
    no_tail (t ∷ ts) after all e = zero_no_term h named t (All-head (IsTailTerm h) t ts all) (head_of _ _ _ _ e)
zero_reads h named rest new (Some ts) found =
    (subst (All (IsTailTerm h)) (sym found.0) (All-nil (IsTailTerm h)), ap (λ r. codes "0" ∷ r) found.1 ∙ ap (λ us. tail_then_by h.quiver us ++ new) (sym found.0))

pub some_reads : (h : Header) (token : List ℕ) (rest new : List (List ℕ)) (r : Option (List Term)) → (token ≡ codes "0" → ⊥)
    → ReadsFirst (AreTailTerms h) (tail_then_by h.quiver) (token ∷ rest) new r → ReadsFirst (All (IsTailTerm h)) (tail_then_by h.quiver) (token ∷ rest) new r
some_reads h token rest new None other none = λ ts after all e. no_tail ts after all e
  where
    no_tail : (ts : List Term) (after : List (List ℕ)) → All (IsTailTerm h) ts → token ∷ rest ≡ tail_then_by h.quiver ts ++ after → ⊥
    no_tail [] after all e = other (head_of _ _ _ _ e)
    no_tail (t ∷ ts) after all e = none (t ∷ ts) after record { some = λ f. some_none t ts f; all = all } e
some_reads h token rest new (Some ts) other found = (found.0.all, found.1)

-- ---- uniqueness

cons_same : (x y : Term) (xs ys : List Term) → x ≡ y → xs ≡ ys → x ∷ xs ≡ y ∷ ys
cons_same x y xs ys a b = cc

one_between : (h : Header) → IsNamed h.quiver → (ts us : List Term) (x y : List (List ℕ)) → ts ≢ [] → us ≢ [] → All (IsTailTerm h) ts → All (IsTailTerm h) us
    → between h.quiver ts ++ codes "by" ∷ x ≡ between h.quiver us ++ codes "by" ∷ y → (ts ≡ us) × (x ≡ y)
unfolding between
one_between h named [] us x y some also a b e = absurd (some refl)
one_between h named (t ∷ ts) [] x y some also a b e = absurd (also refl)
one_between h named (t ∷ []) (u ∷ []) x y some also a b e =
    (cons_same t u [] [] (one_tail_term h named t u (All-head (IsTailTerm h) t [] a) (All-head (IsTailTerm h) u [] b) (head_of _ _ _ _ e)) refl, tail_of _ _ _ _ (tail_of _ _ _ _ e))
one_between h named (t ∷ []) (u ∷ v ∷ us) x y some also a b e = absurd (plus_not_by (sym (head_of _ _ _ _ (tail_of _ _ _ _ e))))
one_between h named (t ∷ s ∷ ts) (u ∷ []) x y some also a b e = absurd (plus_not_by (head_of _ _ _ _ (tail_of _ _ _ _ e)))
one_between h named (t ∷ s ∷ ts) (u ∷ v ∷ us) x y some also a b e =
    let more = one_between h named (s ∷ ts) (v ∷ us) x y (λ f. some_none s ts f) (λ f. some_none v us f) (All-tail (IsTailTerm h) t (s ∷ ts) a) (All-tail (IsTailTerm h) u (v ∷ us) b)
    (tail_of _ _ _ _ (tail_of _ _ _ _ e)) in
    (cons_same t u (s ∷ ts) (v ∷ us) (one_tail_term h named t u (All-head (IsTailTerm h) t (s ∷ ts) a) (All-head (IsTailTerm h) u (v ∷ us) b) (head_of _ _ _ _ e)) more.0, more.1)

-- a tail and what stands behind its `by` can be told from the tokens
pub one_tail : (h : Header) → IsNamed h.quiver → (ts us : List Term) (x y : List (List ℕ)) → All (IsTailTerm h) ts → All (IsTailTerm h) us
    → tail_then_by h.quiver ts ++ x ≡ tail_then_by h.quiver us ++ y → (ts ≡ us) × (x ≡ y)
one_tail h named [] [] x y a b e = (refl, tail_of _ _ _ _ (tail_of _ _ _ _ e))
one_tail h named [] (u ∷ us) x y a b e = absurd (zero_no_term h named u (All-head (IsTailTerm h) u us b) (head_of _ _ _ _ e))
one_tail h named (t ∷ ts) [] x y a b e = absurd (zero_no_term h named t (All-head (IsTailTerm h) t ts a) (sym (head_of _ _ _ _ e)))
one_tail h named (t ∷ ts) (u ∷ us) x y a b e =
    one_between h named (t ∷ ts) (u ∷ us) x y (λ f. some_none t ts f) (λ f. some_none u us f) a b
    (sym (tail_then_by-form h.quiver (t ∷ ts) x (λ f. some_none t ts f)) ∙ (e ∙ tail_then_by-form h.quiver (u ∷ us) y (λ f. some_none u us f)))

rule_same : (r s : Rule) → r.tip ≡ s.tip → r.tail.terms ≡ s.tail.terms → r.step ≡ s.step → r ≡ s
rule_same r s a b c = λ k. record { tip = a k; tail = record { terms = b k }; step = c k }

number_below : (n last : ℕ) → n ≤ last → last < 2 ^ 32 → n < 2 ^ 64
number_below n last a b = let big : 2 ^ 32 < 2 ^ 64 = lit< tt in omega arith

-- two rules of one spelling are one
pub one_rule_form : (h : Header) → IsNamed h.quiver → (steps : ℕ) → steps < 2 ^ 32 → (r s : Rule) → IsRuleForm h steps r → IsRuleForm h steps s → rule_form h.quiver r ≡ rule_form h.quiver s → r ≡ s
one_rule_form h named steps few r s a b e =
    let tip = one_any_path h.quiver named r.tip s.tip a.tip b.tip (head_of _ _ _ _ e) in
    let tail = one_tail h named r.tail.terms s.tail.terms (decimal r.step ∷ []) (decimal s.step ∷ []) a.tail b.tail (tail_of _ _ _ _ (tail_of _ _ _ _ e)) in
    rule_same r s tip tail.0 (decimal_one r.step s.step (number_below r.step steps a.named.to few) (number_below s.step steps b.named.to few) (head_of _ _ _ _ tail.1))

tail_term_of : (h : Header) (ts : List Term) → AreElementTerms h ts → All (IsTailTerm h) ts
tail_term_of h ts are = λ k d l. record { nonzero = are.nonzero k d l; small = are.small k d l; path = (are.short k d l).path }

pub form_of_rule : (h : Header) (steps : ℕ) (r : Rule) → IsWrittenRule h steps r → IsRuleForm h steps r
form_of_rule h steps r is = record { tip = is.tip; tail = tail_term_of h r.tail.terms is.tail; named = is.named }

limits_of_rule : (h : Header) (steps : ℕ) (r : Rule) → IsWrittenRule h steps r → HasLimits h r
limits_of_rule h steps r is = record {
  tip_limit = is.tip_limit;
  descending = is.tail.descending;
  short = All-weaker (λ (t : Term). IsShortPath h t.path) (λ (t : Term). path_length t.path < h.bound) (λ t s. s.short) r.tail.terms is.tail.short;
}

pub rule_from_form : (h : Header) (steps : ℕ) (r : Rule) → IsRuleForm h steps r → HasLimits h r → IsWrittenRule h steps r
rule_from_form h steps r form limits = record {
  tip = form.tip;
  tip_limit = limits.tip_limit;
  tail = record {
    descending = limits.descending;
    nonzero = λ k d l. (form.tail k d l).nonzero;
    small = λ k d l. (form.tail k d l).small;
    short = λ k d l. record { path = (form.tail k d l).path; short = limits.short k d l };
  };
  named = form.named;
}

-- what stands behind two tokens
pub behind_two : (a b x y : List ℕ) (tokens more left rest : List (List ℕ)) → tokens ≡ a ∷ more → more ≡ b ∷ left → tokens ≡ x ∷ y ∷ rest → left ≡ rest
behind_two a b x y tokens more left rest e f g = tail_of _ _ _ _ (sym f ∙ tail_of _ _ _ _ (sym e ∙ g))

-- a form without the limits is no rule's
pub no_limits_no_rule : (h : Header) → IsNamed h.quiver → (steps : ℕ) → steps < 2 ^ 32 → (r : Rule) (tokens : List (List ℕ)) → IsRuleForm h steps r → tokens ≡ rule_form h.quiver r → (HasLimits h r → ⊥)
    → (s : Rule) → IsWrittenRule h steps s → tokens ≡ rule_form h.quiver s → ⊥
no_limits_no_rule h named steps few r tokens form spelled none s is e =
    none (subst (HasLimits h) (one_rule_form h named steps few s r (form_of_rule h steps s is) form (sym e ∙ spelled)) (limits_of_rule h steps s is))

-- the spelling of a rule, with its `by` counted to the tail
pub rule_form-line : (Q : Quiver) (r : Rule) → tail_then_by Q r.tail.terms ++ decimal r.step ∷ [] ≡ tail_form Q r.tail.terms ++ codes "by" ∷ decimal r.step ∷ []
rule_form-line Q r = append_assoc (tail_form Q r.tail.terms) (codes "by" ∷ []) (decimal r.step ∷ [])

-- where the last was not read
pub still_open : (Q : Quiver) (b : Bool) (ts : List Term) (tokens left : List (List ℕ)) → b ≡ false → tokens ≡ so_far Q b ts ++ left → tokens ≡ followed Q ts ++ left
still_open Q b ts tokens left e f = f ∙ ap (λ x. so_far Q x ts ++ left) e

pub rule_behind : (Q : Quiver) (r : Rule) (tokens rest : List (List ℕ)) → tokens ≡ codes "rule" ∷ rest → tokens ≡ rule_line Q r → rest ≡ rule_form Q r
rule_behind Q r tokens rest e f = tail_of _ _ _ _ (sym e ∙ f) ∙ ap (λ x. path_text Q r.tip ∷ codes "->" ∷ x) (sym (rule_form-line Q r))

pub rule_spelled : (Q : Quiver) (r : Rule) (tokens rest : List (List ℕ)) → tokens ≡ codes "rule" ∷ rest → rest ≡ rule_form Q r → tokens ≡ rule_line Q r
rule_spelled Q r tokens rest e f = e ∙ (ap (λ x. codes "rule" ∷ x) f ∙ ap (λ x. codes "rule" ∷ path_text Q r.tip ∷ codes "->" ∷ x) (rule_form-line Q r))

-- paths that descend step by step descend
pub descend_more : (ts : List Term) (i : ℕ) → 1 ≤ i → i < length ts → ((d : Term) → IsSmaller (get_or ts i d).path (get_or ts (i - 1) d).path)
    → ((j k : ℕ) (d : Term) → j < k → k < i → IsSmaller (get_or ts k d).path (get_or ts j d).path) → (j k : ℕ) (d : Term) → j < k → k < i + 1 → IsSmaller (get_or ts k d).path (get_or ts j d).path
descend_more ts i from inside one before j k d less up = elim (cases_lt k i) [
  | inl low ↦ before j k d less low
  | inr high ↦
      let e : i ≡ k = omega arith in
      subst (λ m. IsSmaller (get_or ts m d).path (get_or ts j d).path) e (last (cases_lt j (i - 1)))
]
  where
    last : (j < i - 1) ⊎ (i - 1 ≤ j) → IsSmaller (get_or ts i d).path (get_or ts j d).path
    last (inl low) = IsSmaller-trans (get_or ts i d).path (get_or ts (i - 1) d).path (get_or ts j d).path (one d) (before j (i - 1) d low (omega arith))
    last (inr high) = let e : i - 1 ≡ j = omega arith in subst (λ m. IsSmaller (get_or ts i d).path (get_or ts m d).path) e (one d)

pub descend_one : (ts : List Term) (i : ℕ) (a b : Term) → 1 ≤ i → i < length ts → AllPairs (λ (x y : Term). IsSmaller y.path x.path) ts → IsSmaller (get_or ts i a).path (get_or ts (i - 1) b).path
descend_one ts i a b from inside pairs =
    subst (λ (t : Term). IsSmaller (get_or ts i a).path t.path) (get_or_default ts (i - 1) a b (omega arith)) (pairs (i - 1) i a (omega arith) inside)
