-- Marked steps: those of rules, and what marked steps name.
use Rattle.std.proofs.Common.{ℕ, suc, ◌≡◌, ◌<◌, ◌+◌, ◌-◌, ◌⊎◌, inl, inr, Bool, true, false, List, [], ◌∷◌, ◌++◌, length, take, get_or, set, replicate, refl, sym, ap, ◌∙◌, subst, arith}
use Rattle.std.specs.Prelude.{Contains, All}
use Rattle.std.proofs.lemmas.Bool.{cases_lt, cases_eq}
use Rattle.std.proofs.lemmas.List.{length-set, length-replicate, get_or-replicate, get_or-set_same, get_or-set_other, get_or_past, get_or_default, take_more}
use Rattle.std.proofs.lemmas.List.Elements.{All-weaker, All-push, All-cons, All-tail, Contains-append_left, Contains-push}
use Rattle.path_algebra.specs.declared.rules.Rule.{Rule}
use Rattle.path_algebra.specs.declared.rules.Step.{Step}
use Rattle.path_algebra.specs.Derivations.{IsNumber}
use Rattle.path_basis.specs.Used.{named}
use Rattle.path_basis.specs.Pruning.{AreOrdered, IsMarked, mark_all, AreMarked}

-- ---- marks of some numbers

pub length-mark_all : (numbers : List ℕ) (marks : List Bool) → length (mark_all numbers marks) ≡ length marks
length-mark_all [] marks = refl
length-mark_all (n ∷ numbers) marks = length-mark_all numbers (set marks (n - 1) true) ∙ length-set marks (n - 1) true

-- there is no mark past the last
mark_inside : (marks : List Bool) (k : ℕ) → get_or marks k false ≡ true → k < length marks
mark_inside marks k e = elim (cases_lt k (length marks)) [
  | inl l ↦ l
  | inr g ↦ absurd (let f = sym (get_or_past marks k false g) ∙ e in cc)
]

-- a mark that was read
pub mark_is : (marks : List Bool) (k : ℕ) (x b : Bool) → k < length marks → x ≡ get_or marks k x → x ≡ b → get_or marks k false ≡ b
mark_is marks k x b l is e = get_or_default marks k false x l ∙ sym is ∙ e

-- a mark stays
mark_set : (marks : List Bool) (i k : ℕ) → get_or marks k false ≡ true → get_or (set marks i true) k false ≡ true
mark_set marks i k e = elim (cases_eq k i) [
  | inl s ↦ subst (λ j. get_or (set marks j true) k false ≡ true) s (get_or-set_same marks k true false (mark_inside marks k e))
  | inr d ↦ get_or-set_other marks i k true false d ∙ e
]

pub mark_stays : (numbers : List ℕ) (marks : List Bool) (k : ℕ) → get_or marks k false ≡ true → get_or (mark_all numbers marks) k false ≡ true
mark_stays [] marks k e = e
mark_stays (n ∷ numbers) marks k e = mark_stays numbers (set marks (n - 1) true) k (mark_set marks (n - 1) k e)

-- the numbers are marked
pub all_marked : (numbers : List ℕ) (marks : List Bool) → All (IsNumber (length marks)) numbers → All (IsMarked (mark_all numbers marks)) numbers
all_marked [] marks all = λ k d l. absurd (omega (arith, l))
all_marked (n ∷ numbers) marks all =
    All-cons (IsMarked (mark_all (n ∷ numbers) marks)) n numbers
    (mark_stays numbers (set marks (n - 1) true) (n - 1) (get_or-set_same marks (n - 1) true false (let i = all 0 n (omega arith) in let a = i.from in let b = i.to in omega (arith, a, b))))
    (all_marked numbers (set marks (n - 1) true) (subst (λ c. All (IsNumber c) numbers) (sym (length-set marks (n - 1) true)) (All-tail (IsNumber (length marks)) n numbers all)))

-- nothing else is
record IsMarkedFor (numbers : List ℕ) (k : ℕ) : Type 0 where
  number : ℕ
  listed : Contains numbers number
  at : number - 1 ≡ k

marked_before : (numbers : List ℕ) (marks : List Bool) (k : ℕ) → get_or (mark_all numbers marks) k false ≡ true → (get_or marks k false ≡ true) ⊎ IsMarkedFor numbers k
marked_before [] marks k e = inl e
marked_before (n ∷ numbers) marks k e = elim (marked_before numbers (set marks (n - 1) true) k e) [
  | inl f ↦ elim (cases_eq k (n - 1)) [
    | inl s ↦ inr (record { number = n; listed = (0, omega arith, refl); at = sym s })
    | inr d ↦ inl (sym (get_or-set_other marks (n - 1) k true false d) ∙ f)
  ]
  | inr m ↦ inr (record { number = m.number; listed = (suc m.listed.0, (let l = m.listed.1 in omega (arith, l)), m.listed.2); at = m.at })
]

-- ---- the rules

pub none_marked : (steps : List Step) (marks : List Bool) → marks ≡ replicate (length steps) false → AreMarked steps [] marks (length steps)
none_marked steps marks e = record {
  count = ap length e ∙ length-replicate (length steps) false;
  of_rules = λ k d l. absurd (omega (arith, l));
  closed = λ k d l m t. absurd (omega (arith, l, m));
  only = λ n l t. absurd (let f = sym (zeros (n - 1)) ∙ t in cc);
}
  where
    zeros : (k : ℕ) → get_or marks k false ≡ false
    zeros k = ap (λ xs. get_or xs k false) e ∙ elim (cases_lt k (length steps)) [
      | inl l ↦ get_or-replicate (length steps) k false false l
      | inr g ↦ get_or_past (replicate (length steps) false) k false (let q = length-replicate (length steps) false in omega (arith, g, q))
    ]

pub rule_marked : (steps : List Step) (rules : List Rule) (rule : Rule) (marks : List Bool) → IsNumber (length steps) rule.step → AreMarked steps rules marks (length steps)
    → AreMarked steps (rules ++ rule ∷ []) (set marks (rule.step - 1) true) (length steps)
rule_marked steps rules rule marks i m = record {
  count = length-set marks (rule.step - 1) true ∙ m.count;
  of_rules = All-push (λ (x : Rule). IsMarked (set marks (rule.step - 1) true) x.step) rules rule
      (All-weaker (λ (x : Rule). IsMarked marks x.step) (λ (x : Rule). IsMarked (set marks (rule.step - 1) true) x.step) (λ x e. mark_set marks (rule.step - 1) (x.step - 1) e) rules m.of_rules)
      (get_or-set_same marks (rule.step - 1) true false (let a = i.from in let b = i.to in let c = m.count in omega (arith, a, b, c)));
  closed = λ k d l n t. absurd (omega (arith, l, n));
  only = λ n l t. elim (cases_eq (n - 1) (rule.step - 1)) [
    | inl e ↦ inl (record { rule = rule; listed = Contains-push rules rule; same = (let a = i.from in omega (arith, a, l, e)) })
    | inr d ↦ elim (m.only n l (sym (get_or-set_other marks (rule.step - 1) (n - 1) true false d) ∙ t)) [
      | inl r ↦ inl (record { rule = r.rule; listed = Contains-append_left rules (rule ∷ []) r.rule r.listed; same = r.same })
      | inr b ↦ inr (record { place = b.place; later = b.later; inside = b.inside; marked = mark_set marks (rule.step - 1) b.place b.marked; names = b.names })
    ]
  ];
}

-- as the code goes
pub rule_marked_at : (steps : List Step) (rules : List Rule) (i : ℕ) (rule : Rule) (marks newer : List Bool) → i < length rules → rule ≡ get_or rules i rule → IsNumber (length steps) rule.step
    → newer ≡ set marks (rule.step - 1) true → AreMarked steps (take i rules) marks (length steps) → AreMarked steps (take (i + 1) rules) newer (length steps)
rule_marked_at steps rules i rule marks newer l is n e m =
    subst (λ xs. AreMarked steps xs newer (length steps)) (sym (take_more rules i rule l ∙ ap (λ (x : Rule). take i rules ++ x ∷ []) (sym is)))
    (subst (λ xs. AreMarked steps (take i rules ++ rule ∷ []) xs (length steps)) (sym e) (rule_marked steps (take i rules) rule marks n m))

-- ---- the steps, from the last on

-- a step that is not marked marks nothing
pub marks_stay : (steps : List Step) (rules : List Rule) (marks : List Bool) (place : ℕ) → get_or marks place false ≡ false → AreMarked steps rules marks (place + 1) → AreMarked steps rules marks place
marks_stay steps rules marks place e m = record {
  count = m.count;
  of_rules = m.of_rules;
  closed = λ k d l n t. elim (cases_eq k place) [
    | inl s ↦ absurd (let f = sym t ∙ ap (λ j. get_or marks j false) s ∙ e in cc)
    | inr s ↦ m.closed k d (omega (arith, l, s)) n t
  ];
  only = m.only;
}

-- one that is marked marks what it names
pub marks_grow : (steps : List Step) (rules : List Rule) (marks newer : List Bool) (place : ℕ) (e : Step) → AreOrdered steps → place < length steps → get_or marks place false ≡ true
    → newer ≡ mark_all (named (get_or steps place e)) marks → AreMarked steps rules marks (place + 1) → AreMarked steps rules newer place
marks_grow steps rules marks newer place e ordered l t made m = subst (λ xs. AreMarked steps rules xs place) (sym made) (record {
  count = length-mark_all (named s) marks ∙ m.count;
  of_rules = All-weaker (λ (x : Rule). IsMarked marks x.step) (λ (x : Rule). IsMarked new x.step) (λ x o. mark_stays (named s) marks (x.step - 1) o) rules m.of_rules;
  closed = λ k d g n f. elim (cases_eq k place) [
    | inl same ↦ subst (λ (x : Step). All (IsMarked new) (named x)) (get_or_default steps place e d l ∙ ap (λ j. get_or steps j d) (sym same)) own
    | inr other ↦ elim (marked_before (named s) marks k f) [
      | inl old ↦ All-weaker (IsMarked marks) (IsMarked new) (λ x o. mark_stays (named s) marks (x - 1) o) (named (get_or steps k d)) (m.closed k d (omega (arith, g, other)) n old)
      | inr o ↦ absurd (let i = before o.number o.listed in let a = i.from in let b = i.to in let c = o.at in omega (arith, a, b, c, g))
    ]
  ];
  only = λ n g f. elim (marked_before (named s) marks (n - 1) f) [
    | inl old ↦ elim (m.only n g old) [
      | inl r ↦ inl r
      | inr b ↦ inr (record { place = b.place; later = b.later; inside = b.inside; marked = mark_stays (named s) marks b.place b.marked; names = b.names })
    ]
    | inr o ↦
        let i = before o.number o.listed in
        let same : o.number ≡ n = (let a = i.from in let b = o.at in omega (arith, a, b, g)) in
        inr (record {
          place = place;
          later = (let b = i.to in omega (arith, b, same));
          inside = l;
          marked = mark_stays (named s) marks place t;
          names = λ d. subst (λ (x : Step). Contains (named x) n) (get_or_default steps place e d l) (subst (Contains (named s)) same o.listed);
        })
  ];
})
  where
    s : Step
    s = get_or steps place e

    new : List Bool
    new = mark_all (named s) marks

    earlier : All (IsNumber place) (named s)
    earlier = ordered.earlier place e l

    before : (n : ℕ) → Contains (named s) n → IsNumber place n
    before n c = subst (IsNumber place) c.2 (earlier c.0 n c.1)

    own : All (IsMarked new) (named s)
    own = all_marked (named s) marks (All-weaker (IsNumber place) (IsNumber (length marks)) (λ x i. record { from = i.from; to = (let b = i.to in let c = m.count in omega (arith, b, c, l)) }) (named s) earlier)
