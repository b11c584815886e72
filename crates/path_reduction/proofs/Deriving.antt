-- Steps behind a derivation: what they make, and what stays.
use Rattle.std.proofs.Common.{ℕ, ◌≡◌, ◌≢◌, ◌<◌, ◌+◌, ◌-◌, ◌⊎◌, inl, inr, List, [], ◌∷◌, ◌++◌, length, take, drop, get_or, refl, sym, ap, ap₂, ◌∙◌, subst, arith, length-append, append_assoc, mod-eq_of_lt}
use Rattle.std.specs.Prelude.{Contains, slice_index_or}
use mathlib.Core.Path.{fun_ext}
use Rattle.std.proofs.Math.Seq.{get_or-append_seam}
use Rattle.std.proofs.lemmas.Bool.{cases_lt, cases_eq}
use Rattle.std.proofs.lemmas.List.{get_or_append_left, append-nil, take_more}
use Rattle.std.proofs.lemmas.List.Elements.{All-contains, All-push, All-weaker}
use Rattle.linear_algebra.specs.Field.{add, mul, neg, sub, order}
use Rattle.linear_algebra.specs.FieldLaws.{neg_below, neg_neg, neg_zero, sub_self}
use Rattle.quiver_paths.specs.declared.Path.{Path}
use Rattle.quiver_paths.specs.Path.{IsPath, path_length, Meets, concat, arrow_path}
use Rattle.quiver_paths.specs.Quiver.{arrow_count}
use Rattle.quiver_paths.proofs.PathLemmas.{begins_with_arrow, ends_with_arrow, trivial_from_length}
use Rattle.path_algebra.specs.declared.Term.{Term}
use Rattle.path_algebra.specs.declared.Header.{Header}
use Rattle.path_algebra.specs.declared.rules.Rule.{Rule}
use Rattle.path_algebra.specs.declared.rules.Step.{Step}
use Rattle.path_algebra.specs.declared.rules.Step.TheVariants.{Left, Right, Add}
use Rattle.path_algebra.specs.Allowed.{IsAllowed, IsParallel}
use Rattle.path_algebra.specs.Elements.{path_element, sum_of_terms}
use Rattle.path_algebra.specs.Words.{IsShortPath}
use Rattle.path_algebra.specs.Rules.{rule_element}
use Rattle.path_algebra.specs.Derivations.{IsNumber, NamesEarlier, element_at, step_elements, step_element}
use Rattle.path_algebra.specs.BasisClauses.{HasFactor}
use Rattle.path_algebra.proofs.ElementLemmas.{path_element_support}
use Rattle.path_algebra.proofs.ClausesSuffice.{term_at}
use Rattle.path_algebra.proofs.Derived.{elements_behind-push, elements_behind-length}
use Rattle.path_reduction.specs.Gaps.{IsTidy}
use Rattle.path_reduction.specs.Occurrences.{part_before, part_behind}
use Rattle.path_reduction.specs.Derived.{IsDerivation, Derives, Lengthens, AreDerived, path_times, times_path, HasSupport, MakesBehind, MakesBefore, rule_between, plus_rule}
use Rattle.path_reduction.proofs.Sides.{path_times-path_times, times_path-times_path, path_times-times_path, trivial_times, times_trivial, times_path-support}

-- ---- one step more

-- there are as many elements as steps
pub step_elements-length : (h : Header) (steps : List Step) → length (step_elements h steps) ≡ length steps
step_elements-length h steps = let e = elements_behind-length h [] steps in omega arith

element_at-push : (h : Header) (steps : List Step) (s : Step) (n : ℕ) → IsNumber (length steps) n → element_at (step_elements h (steps ++ s ∷ [])) n ≡ element_at (step_elements h steps) n
element_at-push h steps s n i =
    ap (λ es. element_at es n) (elements_behind-push h [] steps s)
    ∙ get_or_append_left (step_elements h steps) (step_element h (step_elements h steps) s ∷ []) (λ p. 0) (n - 1) (let a = i.from in let b = i.to in let e = step_elements-length h steps in omega arith)

pub element_at-last : (h : Header) (steps : List Step) (s : Step) → element_at (step_elements h (steps ++ s ∷ [])) (length steps + 1) ≡ step_element h (step_elements h steps) s
element_at-last h steps s =
    let place : length steps + 1 - 1 ≡ length (step_elements h steps) = (let e = step_elements-length h steps in omega arith) in
    ap₂ (λ es n. slice_index_or es n (λ p. 0)) (elements_behind-push h [] steps s) place
    ∙ get_or-append_seam (step_elements h steps) (step_element h (step_elements h steps) s) [] (λ p. 0)

pub lawful_push : (h : Header) (steps : List Step) (s : Step) → IsDerivation h steps → NamesEarlier h (length steps) s → HasFactor h s → IsDerivation h (steps ++ s ∷ [])
lawful_push h steps s d named factor = record {
  are = record {
    named = λ k x l. elim (cases_lt k (length steps)) [
      | inl b ↦ subst (NamesEarlier h k) (sym (get_or_append_left steps (s ∷ []) x k b)) (d.are.named k x b)
      | inr b ↦
          let last : k ≡ length steps = omega (arith, l, b, length-append steps (s ∷ [])) in
          subst (λ n. NamesEarlier h n (slice_index_or (steps ++ s ∷ []) n x)) (sym last) (subst (NamesEarlier h (length steps)) (sym (get_or-append_seam steps s [] x)) named)
    ];
  };
  factors = All-push (HasFactor h) steps s d.factors factor;
}

-- what a new step makes
pub derives_push : (h : Header) (steps new : List Step) (s : Step) (n : ℕ) → new ≡ steps ++ s ∷ [] → n ≡ length steps + 1 → IsDerivation h steps → NamesEarlier h (length steps) s → HasFactor h s
    → Derives h new n (step_element h (step_elements h steps) s)
derives_push h steps new s n pushed number d named factor =
    subst (λ xs. Derives h xs n (step_element h (step_elements h steps) s)) (sym pushed) (subst (λ k. Derives h (steps ++ s ∷ []) k (step_element h (step_elements h steps) s)) (sym number)
    (record {
      lawful = lawful_push h steps s d named factor;
      number_is = record { from = omega arith; to = (let e = length-append steps (s ∷ []) in omega arith) };
      value = λ p. ap (λ x. x p) (element_at-last h steps s);
    }))

-- what was made stays
pub element_at-append : (h : Header) (more old : List Step) (n : ℕ) → IsNumber (length old) n → element_at (step_elements h (old ++ more)) n ≡ element_at (step_elements h old) n
element_at-append h [] old n i = ap (λ xs. element_at (step_elements h xs) n) (append-nil old)
element_at-append h (s ∷ more) old n i =
    ap (λ xs. element_at (step_elements h xs) n) (sym (append_assoc old (s ∷ []) more))
    ∙ element_at-append h more (old ++ s ∷ []) n (record { from = i.from; to = (let e = length-append old (s ∷ []) in let b = i.to in omega arith) })
    ∙ element_at-push h old s n i

pub still_derives : (h : Header) (old new : List Step) (n : ℕ) (x : Path → ℕ) → Lengthens old new → IsDerivation h new → Derives h old n x → Derives h new n x
still_derives h old new n x l d o = record {
  lawful = d;
  number_is = record { from = o.number_is.from; to = (let e = ap length l.whole in let f = length-append old l.more in let b = o.number_is.to in omega arith) };
  value = λ p. ap (λ xs. element_at (step_elements h xs) n p) l.whole ∙ ap (λ y. y p) (element_at-append h l.more old n o.number_is) ∙ o.value p;
}

pub still_derived : (h : Header) (old new : List Step) (rules : List Rule) → Lengthens old new → IsDerivation h new → AreDerived h old rules → AreDerived h new rules
still_derived h old new rules l d =
    All-weaker (λ (r : Rule). Derives h old r.step (rule_element h r)) (λ (r : Rule). Derives h new r.step (rule_element h r)) (λ r o. still_derives h old new r.step (rule_element h r) l d o) rules

pub Lengthens-same : (steps : List Step) → Lengthens steps steps
Lengthens-same steps = record { more = []; whole = sym (append-nil steps) }

pub Lengthens-push : (old steps new : List Step) (s : Step) → Lengthens old steps → new ≡ steps ++ s ∷ [] → Lengthens old new
Lengthens-push old steps new s l pushed = record { more = l.more ++ s ∷ []; whole = pushed ∙ ap (λ xs. xs ++ s ∷ []) l.whole ∙ append_assoc old l.more (s ∷ []) }

pub Lengthens-trans : (a b c : List Step) → Lengthens a b → Lengthens b c → Lengthens a c
Lengthens-trans a b c l m = record { more = l.more ++ m.more; whole = m.whole ∙ ap (λ xs. xs ++ m.more) l.whole ∙ append_assoc a l.more m.more }

pub derives_same : (h : Header) (steps : List Step) (n : ℕ) (x y : Path → ℕ) → ((p : Path) → x p ≡ y p) → Derives h steps n x → Derives h steps n y
derives_same h steps n x y e d = record { lawful = d.lawful; number_is = d.number_is; value = λ p. d.value p ∙ e p }

-- ---- arrows behind

snoc_parts : (xs ys : List ℕ) (a b : ℕ) → xs ++ a ∷ [] ≡ ys ++ b ∷ [] → (xs ≡ ys) × (a ≡ b)
snoc_parts [] [] a b e = (refl, ap (λ zs. get_or zs 0 0) e)
snoc_parts [] (y ∷ ys) a b e = absurd (let l = ap length e in let k = length-append ys (b ∷ []) in omega arith)
snoc_parts (x ∷ xs) [] a b e = absurd (let l = ap length e in let k = length-append xs (a ∷ []) in omega arith)
snoc_parts (x ∷ xs) (y ∷ ys) a b e =
    let rest = snoc_parts xs ys a b (ap (drop 1) e) in
    let first : x ≡ y = ap (λ zs. get_or zs 0 0) e in
    (λ i. first i ∷ rest.0 i, rest.1)

pub makes_behind_none : (old : List Step) (n : ℕ) → MakesBehind [] old n old n
makes_behind_none old n h x s v ok hv e sup d =
    derives_same h old n x (times_path h.bound x v)
    (λ p. sym (ap (λ w. times_path h.bound x w p) (trivial_from_length h.quiver v hv (ap length e)) ∙ times_trivial h.bound x s v.start sup p)) d

pub makes_behind_more : (arrows : List ℕ) (k : ℕ) (old steps new : List Step) (number n m a : ℕ) → k < length arrows → a ≡ get_or arrows k a → new ≡ steps ++ Right n a ∷ [] → m ≡ length steps + 1
    → MakesBehind (take k arrows) old number steps n → MakesBehind (take (k + 1) arrows) old number new m
makes_behind_more arrows k old steps new number n m a l is pushed count before h x s v ok hv e sup d =
    let snoc : take (k + 1) arrows ≡ take k arrows ++ a ∷ [] = take_more arrows k a l ∙ ap (λ b. take k arrows ++ b ∷ []) (sym is) in
    let some : 0 < path_length v = (let q = ap length (e ∙ snoc) in let r = length-append (take k arrows) (a ∷ []) in omega arith) in
    let cut = ends_with_arrow h.quiver v ok.quiver.ends hv some in
    let front = cut.0 in
    let parts = snoc_parts front.arrows (take k arrows) cut.1 a (ap (λ (w : Path). w.arrows) cut.2.whole ∙ e ∙ snoc) in
    let starts : v.start ≡ front.start = ap (λ (w : Path). w.start) (sym cut.2.whole) in
    let made = before h x s front ok cut.2.front_is parts.0 (subst (HasSupport h.bound x s) starts sup) d in
    let inside : a < arrow_count h.quiver = subst (λ b. b < arrow_count h.quiver) parts.1 cut.2.arrow_is in
    derives_same h new m _ (times_path h.bound x v)
    (λ p. ap (λ y. times_path h.bound y (arrow_path h.quiver a) p) (fun_ext made.value)
    ∙ times_path-times_path h.bound x front (arrow_path h.quiver a) (subst (λ b. Meets front (arrow_path h.quiver b)) parts.1 cut.2.meets) p
    ∙ ap (λ w. times_path h.bound x w p) (ap (λ b. concat front (arrow_path h.quiver b)) (sym parts.1) ∙ cut.2.whole))
    (derives_push h steps new (Right n a) m pushed count made.lawful (made.number_is, inside) tt)

-- ---- arrows before

pub makes_before_none : (old : List Step) (n : ℕ) → MakesBefore [] old n old n
makes_before_none old n h x e u ok hu i sup d =
    let trivial = trivial_from_length h.quiver u hu (ap length i) in
    let ends : u.end ≡ u.start = ap (λ (w : Path). w.end) trivial in
    derives_same h old n x (path_times h.bound u x)
    (λ p. sym (ap (λ w. path_times h.bound w x p) trivial ∙ trivial_times h.bound x u.start e (subst (λ k. HasSupport h.bound x k e) ends sup) p)) d

pub makes_before_more : (rest : List ℕ) (old steps new : List Step) (number n m a : ℕ) → new ≡ steps ++ Left a n ∷ [] → m ≡ length steps + 1
    → MakesBefore rest old number steps n → MakesBefore (a ∷ rest) old number new m
makes_before_more rest old steps new number n m a pushed count before h x e u ok hu i sup d =
    let cut = begins_with_arrow h.quiver u ok.quiver.ends hu (let q = ap length i in omega arith) in
    let behind = cut.1 in
    let cons : cut.0 ∷ behind.arrows ≡ a ∷ rest = ap (λ (w : Path). w.arrows) cut.2.whole ∙ i in
    let first : cut.0 ≡ a = ap (λ zs. get_or zs 0 0) cons in
    let ends : u.end ≡ behind.end = ap (λ (w : Path). w.end) (sym cut.2.whole) in
    let made = before h x e behind ok cut.2.rest_is (ap (drop 1) cons) (subst (λ k. HasSupport h.bound x k e) ends sup) d in
    let inside : a < arrow_count h.quiver = subst (λ b. b < arrow_count h.quiver) first cut.2.arrow_is in
    derives_same h new m _ (path_times h.bound u x)
    (λ p. ap (λ y. path_times h.bound (arrow_path h.quiver a) y p) (fun_ext made.value)
    ∙ path_times-path_times h.bound (arrow_path h.quiver a) behind x (subst (λ b. Meets (arrow_path h.quiver b) behind) first cut.2.meets) p
    ∙ ap (λ w. path_times h.bound w x p) (ap (λ b. concat (arrow_path h.quiver b) behind) (sym first) ∙ cut.2.whole))
    (derives_push h steps new (Left a n) m pushed count made.lawful (inside, made.number_is) tt)

-- ---- a rule between two paths

-- what a tidy rule says has the ends of its tip
pub rule_support : (h : Header) (rule : Rule) → IsTidy h rule → HasSupport h.bound (rule_element h rule) rule.tip.start rule.tip.end
rule_support h rule t = record {
  short = λ p n. elim (at p n) [ inl e ↦ subst (λ w. path_length w < h.bound) e t.short | inr a ↦ subst (λ w. path_length w < h.bound) a.2 (All-contains (λ (b : Term). IsShortPath h b.path) rule.tail.terms a.0 t.tail.short a.1).short ];
  starts = λ p n. elim (at p n) [ inl e ↦ ap (λ (w : Path). w.start) (sym e) | inr a ↦ ap (λ (w : Path). w.start) (sym a.2) ∙ (All-contains (λ (b : Term). IsParallel b.path rule.tip) rule.tail.terms a.0 t.parallel a.1).starts ];
  ends = λ p n. elim (at p n) [ inl e ↦ ap (λ (w : Path). w.end) (sym e) | inr a ↦ ap (λ (w : Path). w.end) (sym a.2) ∙ (All-contains (λ (b : Term). IsParallel b.path rule.tip) rule.tail.terms a.0 t.parallel a.1).ends ];
}
  where
    at : (p : Path) → rule_element h rule p ≢ 0 → (rule.tip ≡ p) ⊎ ((a : Term) × Contains rule.tail.terms a × (a.path ≡ p))
    at p n = elim (cases_eq (path_element h.bound rule.tip p) 0) [
      | inr d ↦ inl (path_element_support h.bound rule.tip p d).0
      | inl z ↦ elim (cases_eq (sum_of_terms h.field h.bound rule.tail.terms p) 0) [
        | inr d ↦ inr (term_at h.field h.bound rule.tail.terms p d)
        | inl w ↦ absurd (n (ap₂ (sub h.field) z w ∙ sub_self h.field 0))
      ]
    ]

-- the factor of what is subtracted
pub negative_factor : (h : Header) (c : ℕ) → 0 < c → c < order h.field → (0 < neg h.field c) × (neg h.field c < order h.field)
negative_factor h c l m = (
  elim (cases_eq (neg h.field c) 0) [
    | inr d ↦ omega (arith, d)
    | inl z ↦ absurd (let e = sym (mod-eq_of_lt m) ∙ sym (neg_neg h.field c) ∙ ap (neg h.field) z ∙ neg_zero h.field in omega (arith, e, l))
  ],
  neg_below h.field c,
)

-- the steps that make u·(tip − tail)·v from a rule, and the step that adds a multiple
pub makes_between : (h : Header) (rule : Rule) (p : Path) (n : ℕ) (old middle new : List Step) (m b : ℕ) → IsAllowed h → IsTidy h rule
    → IsPath h.quiver (part_before p rule n) → IsPath h.quiver (part_behind p rule n)
    → MakesBehind (part_behind p rule n).arrows old rule.step middle m → MakesBefore (part_before p rule n).arrows middle m new b
    → Derives h old rule.step (rule_element h rule) → Derives h new b (rule_between h rule p n)
makes_between h rule p n old middle new m b ok t hu hv behind before d =
    derives_same h new b _ (rule_between h rule p n) (path_times-times_path h.bound (part_before p rule n) (rule_element h rule) (part_behind p rule n))
    (before h (times_path h.bound (rule_element h rule) (part_behind p rule n)) p.end (part_before p rule n) ok hu refl
    (times_path-support h.bound (rule_element h rule) (part_behind p rule n) rule.tip.start (rule_support h rule t))
    (behind h (rule_element h rule) rule.tip.start (part_behind p rule n) ok hv refl (rule_support h rule t) d))

pub makes_plus_rule : (h : Header) (x : Path → ℕ) (c : ℕ) (rule : Rule) (p : Path) (n : ℕ) (old steps new : List Step) (number b m : ℕ) → 0 < c → c < order h.field
    → Lengthens old steps → new ≡ steps ++ Add number c b ∷ [] → m ≡ length steps + 1
    → Derives h steps b (rule_between h rule p n) → Derives h old number x → Derives h new m (plus_rule h x c rule p n)
makes_plus_rule h x c rule p n old steps new number b m l u len pushed count made d =
    let first = still_derives h old steps number x len made.lawful d in
    derives_same h new m _ (plus_rule h x c rule p n) (λ r. ap₂ (λ y z. add h.field y (mul h.field c z)) (first.value r) (made.value r))
    (derives_push h steps new (Add number c b) m pushed count made.lawful (first.number_is, made.number_is) (l, u))
