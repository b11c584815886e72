-- The paths without a tip of the reduced rules are the normal words, and with the steps they meet the conditions on a basis.
use Rattle.std.proofs.Common.{ℕ, ◌≡◌, ◌<◌, ◌≤◌, ◌+◌, ◌^◌, inl, inr, List, [], ◌∷◌, ◌++◌, length, get_or, sym, ap, ◌∙◌, subst, arith, length-append}
use Rattle.std.specs.Prelude.{Contains, All}
use Rattle.std.proofs.lemmas.Bool.{cases_eq}
use Rattle.std.proofs.lemmas.List.{get_or_default}
use Rattle.std.proofs.lemmas.List.Elements.{All-contains, All-weaker, All-contains_itself, Contains-append_cases, Contains-append_left, Contains-append_right}
use Rattle.quiver_paths.specs.declared.Path.{Path}
use Rattle.quiver_paths.specs.Path.{IsPath, path_length, IsFactor}
use Rattle.quiver_paths.specs.PathOrder.{IsSmaller}
use Rattle.quiver_paths.specs.PathList.{ListsPathsBelow}
use Rattle.quiver_paths.proofs.ListLemmas.{AllPairs-nil, AllPairs-front, AllPairs-append, Contains-head, Contains-nil, Contains-from_map}
use Rattle.path_algebra.specs.declared.Header.{Header}
use Rattle.path_algebra.specs.declared.rules.Rule.{Rule}
use Rattle.path_algebra.specs.declared.rules.Step.{Step}
use Rattle.path_algebra.specs.declared.rules.BasisFault.{BasisFault}
use Rattle.path_algebra.specs.declared.rules.BasisFault.TheVariants as fault
use Rattle.path_algebra.specs.Words.{IsShortPath, IsNormal, AreNormalWords}
use Rattle.path_algebra.specs.Allowed.{IsAllowed}
use Rattle.path_algebra.specs.Rules.{AreElementTerms, rule_element, IsReducedRule, AreReducedRules}
use Rattle.path_algebra.specs.Reduction.{HasNoTip}
use Rattle.path_algebra.specs.Derivations.{IsNumber}
use Rattle.path_algebra.specs.Occurring.{HasTip, AreLongTips}
use Rattle.path_algebra.specs.BasisClauses.{MeetsClauses, IsFirstFault, IsBasisClaim}
use Rattle.path_algebra.proofs.TermLists.{Contains-one}
use Rattle.path_algebra.proofs.IdealActs.{IsInIdeal-long}
use Rattle.path_algebra.proofs.NormalFactors.{tip_between, cases_normal, minimal_factor}
use Rattle.path_algebra.proofs.TipFactors.{found_tip, factor_found, no_tip_if}
use Rattle.path_algebra.proofs.ClausesNecessary.{meets_clauses}
use Rattle.path_algebra.proofs.ClausesSuffice.{are_sound, rules_are_reduced}
use Rattle.path_reduction.specs.Gaps.{IsTidy, AreTidy}
use Rattle.path_reduction.specs.Derived.{IsDerivation, Derives, AreDerived}
use Rattle.path_basis.specs.declared.basis.Reduced.{Reduced}
use Rattle.path_basis.specs.Used.{HasNoUnusedStep}
use Rattle.path_basis.specs.Results.{IsResult}
use Rattle.path_basis.specs.Sifting.{AreSifted}

all_members : {X : Type 0} (P : X → Type 0) (xs : List X) → ((x : X) → Contains xs x → P x) → All P xs
all_members P xs m = All-weaker (Contains xs) P m xs (All-contains_itself xs)

-- ---- sifting

pub sifted_none : (rules : List Rule) (paths : List Path) → AreSifted rules paths 0 []
sifted_none rules paths = record {
  few = omega arith;
  ascending = λ a. AllPairs-nil IsSmaller;
  all = λ k d l. absurd (omega (arith, l));
  only = λ p m. absurd (Contains-nil p m);
}

pub sifted_out : (rules : List Rule) (paths : List Path) (k : ℕ) (x : Path) (words : List Path) → k < length paths → x ≡ get_or paths k x → HasTip rules x.arrows → AreSifted rules paths k words → AreSifted rules paths (k + 1) words
sifted_out rules paths k x words l is tip s = record {
  few = (let f = s.few in omega (arith, f));
  ascending = s.ascending;
  all = λ j d m n. elim (cases_eq j k) [
    | inl e ↦ absurd (n (subst (λ (p : Path). HasTip rules p.arrows) (is ∙ get_or_default paths k x d l ∙ ap (λ i. get_or paths i d) (sym e)) tip))
    | inr d2 ↦ s.all j d (omega (arith, m, d2)) n
  ];
  only = λ p m. let o = s.only p m in (o.0, (let b = o.1 in omega (arith, b)), o.2, o.3);
}

pub sifted_in : (rules : List Rule) (paths : List Path) (k : ℕ) (x : Path) (words new : List Path) → k < length paths → x ≡ get_or paths k x → (HasTip rules x.arrows → ⊥) → new ≡ words ++ x ∷ [] → AreSifted rules paths k words
    → AreSifted rules paths (k + 1) new
sifted_in rules paths k x words new l is no_tip pushed s = subst (AreSifted rules paths (k + 1)) (sym pushed) (record {
  few = (let f = s.few in let e = length-append words (x ∷ []) in omega (arith, f, e));
  ascending = λ a. AllPairs-append IsSmaller words (x ∷ []) (s.ascending a) (AllPairs-front IsSmaller x [] (λ y m. absurd (Contains-nil y m)) (AllPairs-nil IsSmaller))
      (λ p y m n. let o = s.only p m in
      subst (λ z. IsSmaller z y) o.2 (subst (IsSmaller (get_or paths o.0 p)) (sym (get_or_default paths k x p l) ∙ sym is ∙ Contains-one x y n) (a o.0 k p o.1 l)));
  all = λ j d m n. elim (cases_eq j k) [
    | inl e ↦ subst (Contains (words ++ x ∷ [])) (is ∙ get_or_default paths k x d l ∙ ap (λ i. get_or paths i d) (sym e)) (Contains-append_right words (x ∷ []) x (Contains-head x []))
    | inr d2 ↦ Contains-append_left words (x ∷ []) (get_or paths j d) (s.all j d (omega (arith, m, d2)) n)
  ];
  only = λ p m. elim (Contains-append_cases words (x ∷ []) p m) [
    | inl c ↦ let o = s.only p c in (o.0, (let b = o.1 in omega (arith, b)), o.2, o.3)
    | inr c ↦ let e = Contains-one x p c in (k, omega arith, get_or_default paths k p x l ∙ sym is ∙ e, subst (λ (q : Path). HasTip rules q.arrows → ⊥) e no_tip)
  ];
})

-- ---- normal words

module _ (h : Header) (rules : List Rule) (ok : IsAllowed h) (reduced : AreReducedRules h rules) where
  reduced_rule : (rule : Rule) → Contains rules rule → IsReducedRule h rule
  reduced_rule rule m = All-contains (IsReducedRule h) rules rule reduced.each m

  long_tips : AreLongTips h rules
  long_tips = record {
    ends = ok.quiver.ends;
    paths = all_members (λ (rule : Rule). IsPath h.quiver rule.tip) rules (λ rule m. (reduced_rule rule m).minimal.short.path);
    long = all_members (λ (rule : Rule). 2 ≤ path_length rule.tip) rules (λ rule m. let t = (reduced_rule rule m).minimal.tip in IsInIdeal-long h ok t.element t.in_ideal rule.tip t.greatest.nonzero);
  }

  normal_without : (p : Path) → IsShortPath h p → HasNoTip h rules p → IsNormal h p
  normal_without p s n = elim (cases_normal h ok p s) [
    | inl is ↦ is
    | inr t ↦
        let m = minimal_factor h ok (path_length p + 1) p (omega arith) s t in
        let found = Contains-from_map (λ (rule : Rule). rule.tip) rules m.tip (reduced.all m.tip m.minimal) in
        absurd (n found.0 found.1 (subst (λ q. IsFactor h.quiver q p) (sym found.2) m.factor))
  ]

  pub words_normal : (paths words : List Path) → ListsPathsBelow h.quiver h.bound paths → AreSifted rules paths (length paths) words → AreNormalWords h words
  words_normal paths words listed s = record {
    ascending = s.ascending listed.ascending;
    all = λ p n.
        let place = listed.all p n.short.path n.short.short in
        subst (Contains words) place.2 (s.all place.0 p place.1 (subst (λ (q : Path). HasTip rules q.arrows → ⊥) (sym place.2) (λ tip.
        let f = found_tip rules p.arrows tip in
        n.no_tip (tip_between h f.rule.tip p (reduced_rule f.rule f.stands.listed).minimal.tip (factor_found h rules p long_tips n.short.path f) n.short.short))));
    only = λ p m.
        let o = s.only p m in
        let is = listed.only p (o.0, o.1, o.2) in
        normal_without p (record { path = is.0; short = is.1 }) (no_tip_if h rules p long_tips o.3);
  }

  pub basis_meets : (paths words : List Path) (steps : List Step) → ListsPathsBelow h.quiver h.bound paths → AreSifted rules paths (length paths) words → IsDerivation h steps → AreDerived h steps rules → MeetsClauses h words steps rules
  basis_meets paths words steps listed s lawful derived = meets_clauses h ok words (words_normal paths words listed s) rules reduced steps
      (record {
        named = lawful.are;
        derived = All-weaker (λ (rule : Rule). Derives h steps rule.step (rule_element h rule)) (λ (rule : Rule). IsNumber (length steps) rule.step) (λ rule d. d.number_is) rules derived;
      })
      (λ rule m p. sym ((All-contains (λ (x : Rule). Derives h steps x.step (rule_element h x)) rules rule derived m).value p))

-- conditions that hold have no first that fails
pub no_first_fault : (h : Header) (words : List Path) (steps : List Step) (rules : List Rule) (f : BasisFault) → MeetsClauses h words steps rules → IsFirstFault h words steps rules f → ⊥
no_first_fault h words steps rules fault.Step m f = f m.step
no_first_fault h words steps rules fault.Rule m f = f.1 m.rule
no_first_fault h words steps rules fault.Reduced m f = f.2 m.reduced
no_first_fault h words steps rules fault.Words m f = f.3 m.word
no_first_fault h words steps rules fault.Action m f = f.4 m.action

-- ---- of what is read

-- what is asked before the conditions, of rules that may have gaps
pub read_claim : (h : Header) (rules read_rules : List Rule) (paths words read_words : List Path) (steps read_steps : List Step) → AreTidy h rules → length paths ≤ 4096 → ListsPathsBelow h.quiver h.bound paths
    → AreSifted read_rules paths (length paths) words → IsDerivation h steps → read_rules ≡ rules → read_words ≡ words → read_steps ≡ steps → IsBasisClaim h read_words read_steps rules
read_claim h rules read_rules paths words read_words steps read_steps tidy few listed s lawful e g i =
    subst (λ ws. IsBasisClaim h ws read_steps rules) (sym g) (subst (λ ss. IsBasisClaim h words ss rules) (sym i) (record {
      few = (let f = s.few in omega (arith, f, few));
      paths = all_members (IsPath h.quiver) words (λ p m. let o = s.only p m in (listed.only p (o.0, o.1, o.2)).0);
      factors = lawful.factors;
      tips = All-weaker (IsTidy h) (λ (rule : Rule). IsPath h.quiver rule.tip) (λ rule t. t.path) rules tidy.each;
      tails = All-weaker (IsTidy h) (λ (rule : Rule). AreElementTerms h rule.tail.terms) (λ rule t. t.tail) rules tidy.each;
    }))

pub read_meets : (h : Header) (rules read_rules : List Rule) (paths words read_words : List Path) (steps read_steps : List Step) → IsAllowed h → AreReducedRules h rules → ListsPathsBelow h.quiver h.bound paths
    → AreSifted read_rules paths (length paths) words → IsDerivation h steps → AreDerived h steps rules → read_rules ≡ rules → read_words ≡ words → read_steps ≡ steps → MeetsClauses h read_words read_steps rules
read_meets h rules read_rules paths words read_words steps read_steps ok reduced listed s lawful derived e g i =
    subst (λ ws. MeetsClauses h ws read_steps rules) (sym g) (subst (λ ss. MeetsClauses h words ss rules) (sym i)
    (basis_meets h rules ok reduced paths words steps listed (subst (λ xs. AreSifted xs paths (length paths) words) e s) lawful derived))

-- what meets the conditions is the result
pub result_is : (h : Header) (r : Reduced) (words : List Path) (steps read_steps : List Step) (rules read_rules : List Rule) → IsAllowed h → r.table.header ≡ h → r.table.words ≡ words → read_steps ≡ steps → read_rules ≡ rules
    → r.steps ≡ steps → r.rules ≡ rules → IsBasisClaim h words read_steps read_rules → MeetsClauses h words read_steps read_rules → HasNoUnusedStep steps rules → length steps < 2 ^ 32 → length rules ≤ 4096 → IsResult h r
result_is h r words steps read_steps rules read_rules ok top e f g i j claim holds used few_steps few_rules = record {
  header = top;
  rules = rules_are_reduced h r.table.words r.rules (are_sound h r.table.words r.steps r.rules ok is_claim is_met);
  claim = is_claim;
  holds = is_met;
  used = subst (λ ss. HasNoUnusedStep ss r.rules) (sym i) (subst (HasNoUnusedStep steps) (sym j) used);
  few_steps = (let n = ap length i in omega (arith, n, few_steps));
  few_rules = (let n = ap length j in omega (arith, n, few_rules));
}
  where
    moved : (P : List Path → List Step → List Rule → Type 0) → P words read_steps read_rules → P r.table.words r.steps r.rules
    moved P p = subst (λ ws. P ws r.steps r.rules) (sym e) (subst (λ ss. P words ss r.rules) (f ∙ sym i) (subst (P words read_steps) (g ∙ sym j) p))

    is_claim : IsBasisClaim h r.table.words r.steps r.rules
    is_claim = moved (IsBasisClaim h) claim

    is_met : MeetsClauses h r.table.words r.steps r.rules
    is_met = moved (MeetsClauses h) holds
