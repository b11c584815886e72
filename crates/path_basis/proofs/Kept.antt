-- Kept steps with new numbers make what they made.
use Rattle.std.proofs.Common.{ℕ, zero, suc, ◌≡◌, ◌<◌, ◌≤◌, ◌+◌, ◌-◌, inl, inr, Bool, true, false, List, [], ◌∷◌, ◌++◌, length, map, take, drop, get_or, refl, sym, ap, ap₂, ◌∙◌, subst, arith}
use Rattle.std.specs.Prelude.{Contains, All}
use Rattle.std.proofs.lemmas.Bool.{cases_lt, cases_eq}
use Rattle.std.proofs.Math.Seq.{get_or-append_seam}
use Rattle.std.proofs.lemmas.List.{get_or_append_left, get_or_past, get_or_default, length_push, take_more, length-take-le, take-append-drop}
use Rattle.std.proofs.lemmas.List.Elements.{All-nil, All-cons, All-weaker, All-map}
use Rattle.linear_algebra.specs.Field.{add, mul}
use Rattle.quiver_paths.specs.declared.Path.{Path}
use Rattle.quiver_paths.proofs.ListLemmas.{Contains-map}
use Rattle.path_algebra.specs.declared.Header.{Header}
use Rattle.path_algebra.specs.declared.rules.Rule.{Rule}
use Rattle.path_algebra.specs.declared.rules.Step.{Step}
use Rattle.path_algebra.specs.declared.rules.Step.TheVariants.{Relation, Left, Right, Add}
use Rattle.path_algebra.specs.Rules.{rule_element}
use Rattle.path_algebra.specs.Derivations.{IsNumber, NamesEarlier, AreSteps, element_at, step_elements, step_element, arrow_times, times_arrow}
use Rattle.path_algebra.specs.BasisClauses.{HasFactor}
use Rattle.path_reduction.specs.Derived.{IsDerivation, Derives, AreDerived}
use Rattle.path_reduction.proofs.Deriving.{element_at-append, element_at-last}
use Rattle.path_basis.specs.Used.{named, HasNoUnusedStep}
use Rattle.path_basis.specs.Pruning.{AreOrdered, IsMarked, AreMarked, new_number, renumbered, with_new_number, HasOldPlace, IsKept}

-- ---- what a step names

names_earlier : (h : Header) (k : ℕ) (s : Step) → NamesEarlier h k s → All (IsNumber k) (named s)
names_earlier h k (Relation r) n = All-nil (IsNumber k)
names_earlier h k (Left a j) n = All-cons (IsNumber k) j [] n.1 (All-nil (IsNumber k))
names_earlier h k (Right j a) n = All-cons (IsNumber k) j [] n.0 (All-nil (IsNumber k))
names_earlier h k (Add j c m) n = All-cons (IsNumber k) j (m ∷ []) n.0 (All-cons (IsNumber k) m [] n.1 (All-nil (IsNumber k)))

pub ordered_steps : (h : Header) (steps : List Step) → AreSteps h steps → AreOrdered steps
ordered_steps h steps are = record { earlier = λ k d l. names_earlier h k (get_or steps k d) (are.named k d l) }

pub numbered_rules : (h : Header) (steps : List Step) (rules : List Rule) → AreDerived h steps rules → All (λ (rule : Rule). IsNumber (length steps) rule.step) rules
numbered_rules h steps = All-weaker (λ (rule : Rule). Derives h steps rule.step (rule_element h rule)) (λ (rule : Rule). IsNumber (length steps) rule.step) (λ rule d. d.number_is)

-- the step with new numbers
names_renumbered : (h : Header) (numbers : List ℕ) (k n : ℕ) (s : Step) → NamesEarlier h k s → All (λ j. IsNumber n (new_number numbers j)) (named s) → NamesEarlier h n (renumbered numbers s)
names_renumbered h numbers k n (Relation r) named all = named
names_renumbered h numbers k n (Left a j) named all = (named.0, all 0 j (omega arith))
names_renumbered h numbers k n (Right j a) named all = (all 0 j (omega arith), named.1)
names_renumbered h numbers k n (Add j c m) named all = (all 0 j (omega arith), all 1 m (omega arith))

factor_renumbered : (h : Header) (numbers : List ℕ) (s : Step) → HasFactor h s → HasFactor h (renumbered numbers s)
factor_renumbered h numbers (Relation r) f = f
factor_renumbered h numbers (Left a j) f = f
factor_renumbered h numbers (Right j a) f = f
factor_renumbered h numbers (Add j c m) f = f

named_renumbered : (numbers : List ℕ) (s : Step) → named (renumbered numbers s) ≡ map (new_number numbers) (named s)
named_renumbered numbers (Relation r) = refl
named_renumbered numbers (Left a j) = refl
named_renumbered numbers (Right j a) = refl
named_renumbered numbers (Add j c m) = refl

-- it names the same, where the numbers agree
renumbered_same : (a b : List ℕ) (s : Step) → All (λ n. new_number a n ≡ new_number b n) (named s) → renumbered a s ≡ renumbered b s
renumbered_same a b (Relation r) e = refl
renumbered_same a b (Left x j) e = ap (Left x) (e 0 j (omega arith))
renumbered_same a b (Right j x) e = ap (λ n. Right n x) (e 0 j (omega arith))
renumbered_same a b (Add j c m) e = ap₂ (λ n o. Add n c o) (e 0 j (omega arith)) (e 1 m (omega arith))

-- and makes the same, where the elements do
element_renumbered : (h : Header) (numbers : List ℕ) (xs ys : List (Path → ℕ)) (s : Step) → All (λ n. element_at xs (new_number numbers n) ≡ element_at ys n) (named s)
    → step_element h xs (renumbered numbers s) ≡ step_element h ys s
element_renumbered h numbers xs ys (Relation r) e = refl
element_renumbered h numbers xs ys (Left a j) e = ap (arrow_times h a) (e 0 j (omega arith))
element_renumbered h numbers xs ys (Right j a) e = ap (λ x. times_arrow h x a) (e 0 j (omega arith))
element_renumbered h numbers xs ys (Add j c m) e = ap₂ (λ (x y : Path → ℕ). λ p. add h.field (x p) (mul h.field c (y p))) (e 0 j (omega arith)) (e 1 m (omega arith))

element_local : (h : Header) (xs ys : List (Path → ℕ)) (s : Step) → All (λ n. element_at xs n ≡ element_at ys n) (named s) → step_element h xs s ≡ step_element h ys s
element_local h xs ys (Relation r) e = refl
element_local h xs ys (Left a j) e = ap (arrow_times h a) (e 0 j (omega arith))
element_local h xs ys (Right j a) e = ap (λ x. times_arrow h x a) (e 0 j (omega arith))
element_local h xs ys (Add j c m) e = ap₂ (λ (x y : Path → ℕ). λ p. add h.field (x p) (mul h.field c (y p))) (e 0 j (omega arith)) (e 1 m (omega arith))

-- the element of a step, from those of all steps
element_of_step : (h : Header) (steps : List Step) → AreOrdered steps → (k : ℕ) (s : Step) → k < length steps
    → element_at (step_elements h steps) (k + 1) ≡ step_element h (step_elements h steps) (get_or steps k s)
element_of_step h steps ordered k s l =
    let x = get_or steps k s in
    let front = take k steps in
    let size : length front ≡ k = length-take-le k steps (omega (arith, l)) in
    let more : take (k + 1) steps ≡ front ++ x ∷ [] = take_more steps k s l in
    let long : length (front ++ x ∷ []) ≡ k + 1 = length_push front x ∙ ap (λ n. n + 1) size in
    let whole : steps ≡ (front ++ x ∷ []) ++ drop (k + 1) steps = sym (take-append-drop (k + 1) steps) ∙ ap (λ xs. xs ++ drop (k + 1) steps) more in
    let split : steps ≡ front ++ drop k steps = sym (take-append-drop k steps) in
    ap (λ xs. element_at (step_elements h xs) (k + 1)) whole
    ∙ element_at-append h (drop (k + 1) steps) (front ++ x ∷ []) (k + 1) (record { from = omega arith; to = omega (arith, long) })
    ∙ ap (element_at (step_elements h (front ++ x ∷ []))) (ap (λ n. n + 1) (sym size))
    ∙ element_at-last h front x
    ∙ element_local h (step_elements h front) (step_elements h steps) x
    (All-weaker (IsNumber k) (λ n. element_at (step_elements h front) n ≡ element_at (step_elements h steps) n)
    (λ n i. sym (ap (λ xs. element_at (step_elements h xs) n) split ∙ element_at-append h (drop k steps) front n (record { from = i.from; to = (let b = i.to in omega (arith, b, size)) })))
    (named x) (ordered.earlier k s l))

-- ---- one step more

same_renumbered : (steps : List Step) (numbers : List ℕ) (n k : ℕ) (d : Step) → AreOrdered steps → k < length steps → k ≤ length numbers → renumbered numbers (get_or steps k d) ≡ renumbered (numbers ++ n ∷ []) (get_or steps k d)
same_renumbered steps numbers n k d ordered l m =
    renumbered_same numbers (numbers ++ n ∷ []) (get_or steps k d)
    (All-weaker (IsNumber k) (λ j. new_number numbers j ≡ new_number (numbers ++ n ∷ []) j)
    (λ j i. sym (get_or_append_left numbers (n ∷ []) 0 (j - 1) (let a = i.from in let b = i.to in omega (arith, a, b, m))))
    (named (get_or steps k d)) (ordered.earlier k d l))

old_place_push : (marks : List Bool) (numbers : List ℕ) (n number : ℕ) → HasOldPlace marks numbers number → HasOldPlace marks (numbers ++ n ∷ []) number
old_place_push marks numbers n number p = record {
  place = p.place;
  inside = (let l = p.inside in let e = length_push numbers n in omega (arith, l, e));
  marked = p.marked;
  same = get_or_append_left numbers (n ∷ []) 0 p.place p.inside ∙ p.same;
}

-- what stands among numbers with one more
number_at_push : (numbers : List ℕ) (n k : ℕ) → k < length numbers → get_or (numbers ++ n ∷ []) k 0 ≡ get_or numbers k 0
number_at_push numbers n k l = get_or_append_left numbers (n ∷ []) 0 k l

number_at_end : (numbers : List ℕ) (n k : ℕ) → k ≡ length numbers → get_or (numbers ++ n ∷ []) k 0 ≡ n
number_at_end numbers n k e = ap (λ i. get_or (numbers ++ n ∷ []) i 0) e ∙ get_or-append_seam numbers n [] 0

number_bound : (numbers : List ℕ) (n c : ℕ) → ((k : ℕ) → get_or numbers k 0 ≤ c) → n ≤ c → (k : ℕ) → get_or (numbers ++ n ∷ []) k 0 ≤ c
number_bound numbers n c within l k = elim (cases_lt k (length numbers)) [
  | inl b ↦ (let e = number_at_push numbers n k b in let w = within k in omega (arith, e, w))
  | inr b ↦ elim (cases_eq k (length numbers)) [
    | inl s ↦ (let e = number_at_end numbers n k s in omega (arith, e, l))
    | inr s ↦ (let e = get_or_past (numbers ++ n ∷ []) k 0 (let q = length_push numbers n in omega (arith, b, s, q)) in omega (arith, e))
  ]
]

pub kept_none : (steps : List Step) (marks : List Bool) (kept : List Step) (numbers : List ℕ) → kept ≡ [] → numbers ≡ [] → IsKept steps marks kept numbers
kept_none steps marks kept numbers e f = subst (λ ks. IsKept steps marks ks numbers) (sym e) (subst (IsKept steps marks []) (sym f) (record {
  few = omega arith;
  within = λ k. (let z = get_or_past {X = ℕ} [] k 0 (omega arith) in omega (arith, z));
  from_one = λ k l. absurd (omega (arith, l));
  ascending = λ i k l m. absurd (omega (arith, m));
  same = λ k d l. absurd (omega (arith, l));
  all = λ n i. absurd (let a = i.from in let b = i.to in omega (arith, a, b));
}))

-- a step that is not marked goes
pub kept_same : (steps : List Step) (marks : List Bool) (kept : List Step) (numbers newer : List ℕ) (place : ℕ) → AreOrdered steps → length numbers < length steps → place ≡ length numbers → get_or marks place false ≡ false
    → newer ≡ numbers ++ 0 ∷ [] → IsKept steps marks kept numbers → IsKept steps marks kept newer
kept_same steps marks kept numbers newer place ordered room next e pushed m = subst (IsKept steps marks kept) (sym pushed) (record {
  few = (let a = m.few in omega (arith, a, count));
  within = number_bound numbers 0 (length kept) m.within (omega arith);
  from_one = λ k l t. let b = old k l t in let e = number_at_push numbers 0 k b in let o = m.from_one k b t in omega (arith, e, o);
  ascending = λ i k l n t.
      let b = old k n t in
      let e = number_at_push numbers 0 k b in
      let f = number_at_push numbers 0 i (omega (arith, l, b)) in
      let o = m.ascending i k l b t in
      omega (arith, e, f, o);
  same = λ k d l t.
      let b = old k l t in
      ap (λ n. get_or kept (n - 1) d) (number_at_push numbers 0 k b) ∙ m.same k d b t ∙ same_renumbered steps numbers 0 k d ordered (omega (arith, b, room)) (omega (arith, b));
  all = λ n i. old_place_push marks numbers 0 n (m.all n i);
})
  where
    count : length (numbers ++ 0 ∷ []) ≡ length numbers + 1
    count = length_push numbers 0

    old : (k : ℕ) → k < length (numbers ++ 0 ∷ []) → get_or marks k false ≡ true → k < length numbers
    old k l t = elim (cases_eq k (length numbers)) [
      | inl s ↦ absurd (let f = sym t ∙ ap (λ j. get_or marks j false) (s ∙ sym next) ∙ e in cc)
      | inr s ↦ omega (arith, l, s, count)
    ]

-- one that is marked stays
pub kept_more : (steps : List Step) (marks : List Bool) (kept more : List Step) (numbers newer : List ℕ) (place : ℕ) (e new : Step) (number : ℕ) → AreOrdered steps → length numbers < length steps
    → place ≡ length numbers → get_or marks place false ≡ true → new ≡ renumbered numbers (get_or steps place e) → more ≡ kept ++ new ∷ [] → number ≡ length kept + 1 → newer ≡ numbers ++ number ∷ []
    → IsKept steps marks kept numbers → IsKept steps marks more newer
kept_more steps marks kept more numbers newer place e new number ordered room next t made grown numbered pushed m =
    subst (λ ks. IsKept steps marks ks newer) (sym grown) (subst (IsKept steps marks (kept ++ new ∷ [])) (sym pushed) (record {
      few = (let a = m.few in omega (arith, a, count, longer));
      within = number_bound numbers number (length (kept ++ new ∷ [])) (λ k. let w = m.within k in omega (arith, w, longer)) (omega (arith, numbered, longer));
      from_one = λ k l u. elim (cases_lt k (length numbers)) [
        | inl b ↦ (let f = number_at_push numbers number k b in let o = m.from_one k b u in omega (arith, f, o))
        | inr b ↦ (let f = number_at_end numbers number k (omega (arith, l, b, count)) in omega (arith, f, numbered))
      ];
      ascending = λ i k l n u. elim (cases_lt k (length numbers)) [
        | inl b ↦
            let g = number_at_push numbers number k b in
            let f = number_at_push numbers number i (omega (arith, l, b)) in
            let o = m.ascending i k l b u in
            omega (arith, g, f, o)
        | inr b ↦
            let g = number_at_end numbers number k (omega (arith, n, b, count)) in
            let f = number_at_push numbers number i (omega (arith, l, n, count)) in
            let o = m.within i in
            omega (arith, g, f, o, numbered)
      ];
      same = λ k d l u. elim (cases_lt k (length numbers)) [
        | inl b ↦
            let o = m.from_one k b u in
            let w = m.within k in
            ap (λ n. get_or (kept ++ new ∷ []) (n - 1) d) (number_at_push numbers number k b)
            ∙ get_or_append_left kept (new ∷ []) d (get_or numbers k 0 - 1) (omega (arith, o, w))
            ∙ m.same k d b u ∙ same_renumbered steps numbers number k d ordered (omega (arith, b, room)) (omega (arith, b))
        | inr b ↦
            let last : k ≡ length numbers = omega (arith, l, b, count) in
            let there : get_or (numbers ++ number ∷ []) k 0 - 1 ≡ length kept = (let f = number_at_end numbers number k last in omega (arith, f, numbered)) in
            let step : get_or steps place e ≡ get_or steps k d = get_or_default steps place e d (omega (arith, room, next)) ∙ ap (λ j. get_or steps j d) (next ∙ sym last) in
            ap (λ n. get_or (kept ++ new ∷ []) n d) there ∙ get_or-append_seam kept new [] d ∙ made ∙ ap (renumbered numbers) step
            ∙ same_renumbered steps numbers number k d ordered (omega (arith, last, room)) (omega (arith, last))
      ];
      all = λ n i. elim (cases_eq n number) [
        | inl f ↦ record {
          place = length numbers;
          inside = omega (arith, count);
          marked = ap (λ j. get_or marks j false) (sym next) ∙ t;
          same = number_at_end numbers number (length numbers) refl ∙ sym f;
        }
        | inr f ↦ old_place_push marks numbers number n (m.all n (record { from = i.from; to = (let b = i.to in omega (arith, b, f, numbered, longer)) }))
      ];
    }))
  where
    count : length (numbers ++ number ∷ []) ≡ length numbers + 1
    count = length_push numbers number

    longer : length (kept ++ new ∷ []) ≡ length kept + 1
    longer = length_push kept new

-- ---- what the kept steps make

module _ (steps : List Step) (rules : List Rule) (marks : List Bool) (kept : List Step) (numbers : List ℕ) (ordered : AreOrdered steps) (marked : AreMarked steps rules marks 0) (is : IsKept steps marks kept numbers)
    (count : length numbers ≡ length steps) where
  -- what a marked step names is marked, and its new number is smaller
  record IsNamed (k n : ℕ) : Type 0 where
    number_is : IsNumber k n
    marked_is : IsMarked marks n
    new_is : 1 ≤ new_number numbers n
    less : new_number numbers n < get_or numbers k 0

  named_by : (k : ℕ) (d : Step) → k < length steps → get_or marks k false ≡ true → All (IsNamed k) (named (get_or steps k d))
  named_by k d l t i n j =
      let number = ordered.earlier k d l i n j in
      let mark = marked.closed k d (omega arith) l t i n j in
      let before : get_or (named (get_or steps k d)) i n - 1 < k = (let a = number.from in let b = number.to in omega (arith, a, b)) in
      record {
        number_is = number;
        marked_is = mark;
        new_is = is.from_one _ (omega (arith, before, l, count)) mark;
        less = is.ascending _ k before (omega (arith, l, count)) t;
      }

  -- the kept step with this number
  record IsKeptStep (n : ℕ) : Type 0 where
    place : ℕ
    inside : place < length steps
    marked_is : get_or marks place false ≡ true
    number : get_or numbers place 0 ≡ n + 1
    same : (d e : Step) → get_or kept n d ≡ renumbered numbers (get_or steps place e)

  kept_at : (n : ℕ) → n < length kept → IsKeptStep n
  kept_at n l =
      let p = is.all (n + 1) (record { from = omega arith; to = omega (arith, l) }) in
      let inside : p.place < length steps = (let a = p.inside in omega (arith, a, count)) in
      record {
        place = p.place;
        inside = inside;
        marked_is = p.marked;
        number = p.same;
        same = λ d e. ap (λ i. get_or kept i d) (let q = p.same in omega (arith, q)) ∙ is.same p.place d p.inside p.marked ∙ ap (renumbered numbers) (get_or_default steps p.place d e inside);
      }

  -- what it names has smaller new numbers
  names_new : (k n : ℕ) (d : Step) → k < length steps → get_or marks k false ≡ true → get_or numbers k 0 ≡ n + 1 → All (λ j. IsNumber n (new_number numbers j)) (named (get_or steps k d))
  names_new k n d l t e = All-weaker (IsNamed k) (λ j. IsNumber n (new_number numbers j)) (λ j i. record { from = i.new_is; to = (let b = i.less in omega (arith, b, e)) }) (named (get_or steps k d)) (named_by k d l t)

  kept_ordered : AreOrdered kept
  kept_ordered = record {
    earlier = λ n d l.
        let p = kept_at n l in
        subst (λ (x : Step). All (IsNumber n) (named x)) (sym (p.same d d))
        (subst (All (IsNumber n)) (sym (named_renumbered numbers (get_or steps p.place d))) (All-map (IsNumber n) (new_number numbers) (named (get_or steps p.place d)) (names_new p.place n d p.inside p.marked_is p.number)));
  }

  pub kept_lawful : (h : Header) → IsDerivation h steps → IsDerivation h kept
  kept_lawful h lawful = record {
    are = record {
      named = λ n d l.
          let p = kept_at n l in
          subst (NamesEarlier h n) (sym (p.same d d)) (names_renumbered h numbers p.place n (get_or steps p.place d) (lawful.are.named p.place d p.inside) (names_new p.place n d p.inside p.marked_is p.number));
    };
    factors = λ n d l. let p = kept_at n l in subst (HasFactor h) (sym (p.same d d)) (factor_renumbered h numbers (get_or steps p.place d) (lawful.factors p.place d p.inside));
  }

  -- a kept step makes what it made
  kept_element : (h : Header) (b k : ℕ) → k < b → k < length steps → get_or marks k false ≡ true → element_at (step_elements h kept) (get_or numbers k 0) ≡ element_at (step_elements h steps) (k + 1)
  kept_element h zero k l m t = absurd (omega (arith, l))
  kept_element h (suc b) k l m t =
      let d : Step = Relation 0 in
      let s = get_or steps k d in
      let n = get_or numbers k 0 in
      let low = is.from_one k (omega (arith, m, count)) t in
      let high = is.within k in
      ap (element_at (step_elements h kept)) (omega (arith, low))
      ∙ element_of_step h kept kept_ordered (n - 1) d (omega (arith, low, high))
      ∙ ap (step_element h (step_elements h kept)) (is.same k d (omega (arith, m, count)) t)
      ∙ element_renumbered h numbers (step_elements h kept) (step_elements h steps) s
      (All-weaker (IsNamed k) (λ j. element_at (step_elements h kept) (new_number numbers j) ≡ element_at (step_elements h steps) j)
      (λ j i. let f = i.number_is.from in let g = i.number_is.to in
      kept_element h b (j - 1) (omega (arith, f, g, l)) (omega (arith, f, g, m)) i.marked_is ∙ ap (element_at (step_elements h steps)) (omega (arith, f)))
      (named s) (named_by k d m t))
      ∙ sym (element_of_step h steps ordered k d m)

  pub kept_derived : (h : Header) → AreDerived h steps rules → AreDerived h kept (map (with_new_number numbers) rules)
  kept_derived h derived = All-map (λ (rule : Rule). Derives h kept rule.step (rule_element h rule)) (with_new_number numbers) rules
      (All-weaker (λ (rule : Rule). Derives h steps rule.step (rule_element h rule) × IsMarked marks rule.step) (λ (rule : Rule). Derives h kept (new_number numbers rule.step) (rule_element h rule))
      (λ rule e.
      let d = e.0 in
      let f = d.number_is.from in
      let g = d.number_is.to in
      let inside : rule.step - 1 < length steps = omega (arith, f, g) in
      record {
        lawful = kept_lawful h d.lawful;
        number_is = record { from = is.from_one (rule.step - 1) (omega (arith, inside, count)) e.1; to = is.within (rule.step - 1) };
        value = λ p. ap (λ (x : Path → ℕ). x p) (kept_element h (rule.step - 1 + 1) (rule.step - 1) (omega arith) inside e.1 ∙ ap (element_at (step_elements h steps)) (omega (arith, f))) ∙ d.value p;
      })
      rules (λ k d l. (derived k d l, marked.of_rules k d l)))

  -- the place of a kept step, and what stands there
  place_of_kept : (k : ℕ) (d e : Step) → k < length steps → get_or marks k false ≡ true → get_or kept (get_or numbers k 0 - 1) d ≡ renumbered numbers (get_or steps k e)
  place_of_kept k d e l t = is.same k d (omega (arith, l, count)) t ∙ ap (renumbered numbers) (get_or_default steps k d e l)

  -- none is unused
  pub kept_used : HasNoUnusedStep kept (map (with_new_number numbers) rules)
  kept_used = record {
    used = λ n i.
        let p = is.all n i in
        let from = i.from in
        let inside : p.place < length steps = (let a = p.inside in omega (arith, a, count)) in
        let mark : IsMarked marks (p.place + 1) = subst (λ j. get_or marks j false ≡ true) (omega arith) p.marked in
        let number : new_number numbers (p.place + 1) ≡ n = ap (λ j. get_or numbers j 0) (omega arith) ∙ p.same in
        elim (marked.only (p.place + 1) (omega arith) mark) [
          | inl r ↦ inl (record {
            rule = with_new_number numbers r.rule;
            listed = Contains-map (with_new_number numbers) rules r.rule r.listed;
            same = ap (new_number numbers) r.same ∙ number;
          })
          | inr b ↦
              let later = b.later in
              let here : b.place < length numbers = (let a = b.inside in omega (arith, a, count)) in
              let less : n < get_or numbers b.place 0 = (let a = is.ascending p.place b.place (omega (arith, later)) here b.marked in let e = p.same in omega (arith, a, e)) in
              inr (record {
                place = get_or numbers b.place 0 - 1;
                later = omega (arith, less);
                inside = (let w = is.within b.place in omega (arith, w, less));
                names = λ d. subst (λ (x : Step). Contains (named x) n) (sym (place_of_kept b.place d d b.inside b.marked))
                    (subst (λ ns. Contains ns n) (sym (named_renumbered numbers (get_or steps b.place d)))
                    (subst (Contains (map (new_number numbers) (named (get_or steps b.place d)))) number
                    (Contains-map (new_number numbers) (named (get_or steps b.place d)) (p.place + 1) (b.names d))));
              })
        ];
  }
