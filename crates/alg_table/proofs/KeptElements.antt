-- Last uses of steps, and the elements that are kept up to them.
use Rattle.std.proofs.Common.{ℕ, zero, suc, ◌≡◌, ◌<◌, ◌≤◌, ◌+◌, ◌-◌, inl, inr, List, [], ◌∷◌, ◌++◌, length, length-append, get_or, set, refl, sym, ap, ap₂, ◌∙◌, subst, arith}
use Rattle.std.specs.Prelude.{All, slice_index_or}
use Rattle.std.proofs.Math.Seq.{get_or-append_seam}
use Rattle.std.proofs.lemmas.Bool.{cases_lt, cases_eq}
use Rattle.std.proofs.lemmas.List.{get_or_append_left, length-set, get_or-set_same, get_or-set_other}
use Rattle.quiver_paths.specs.declared.Path.{Path}
use Rattle.quiver_paths.specs.Path.{arrow_path}
use Rattle.quiver_paths.specs.Quiver.{arrow_count}
use Rattle.quiver_paths.proofs.PathLemmas.{IsPath-arrow}
use Rattle.linear_algebra.specs.Field.{add, mul}
use Rattle.path_algebra.specs.declared.Term.{Term}
use Rattle.path_algebra.specs.declared.Header.{Header}
use Rattle.path_algebra.specs.declared.rules.Element.{Element}
use Rattle.path_algebra.specs.declared.rules.Rule.{Rule}
use Rattle.path_algebra.specs.declared.rules.Step.{Step}
use Rattle.path_algebra.specs.declared.rules.Step.TheVariants.{Relation, Left, Right, Add}
use Rattle.path_algebra.specs.Elements.{sum_of_terms}
use Rattle.path_algebra.specs.Allowed.{IsAllowed}
use Rattle.path_algebra.specs.Rules.{AreElementTerms}
use Rattle.path_algebra.specs.Derivations.{IsNumber, NamesEarlier, AreSteps, element_at, step_element, elements_behind, step_elements}
use Rattle.path_algebra.specs.ElementTerms.{AreTermsOf, plus_multiple, terms_behind, terms_before}
use Rattle.path_algebra.proofs.TermProducts.{AreElementTerms-behind, AreElementTerms-before, AreTermsOf-behind, AreTermsOf-before}
use Rattle.path_algebra.proofs.Derived.{AreTermsOf-same}
use Rattle.alg_table.specs.LastUses.{AllNamed, last_use, KeepsNamed, AreLater, AreLastUses, IsElementAt, AreInUse}

-- ---- what a step names

pub names_numbers : (h : Header) (k : ℕ) (s : Step) → NamesEarlier h k s → AllNamed (IsNumber k) s
names_numbers h k (Relation r) n = tt
names_numbers h k (Left a j) n = n.1
names_numbers h k (Right j a) n = n.0
names_numbers h k (Add j c m) n = n

pub AllNamed-weaker : (P Q : ℕ → Type 0) (s : Step) → ((n : ℕ) → P n → Q n) → AllNamed P s → AllNamed Q s
AllNamed-weaker P Q (Relation r) f a = tt
AllNamed-weaker P Q (Left a j) f p = f j p
AllNamed-weaker P Q (Right j a) f p = f j p
AllNamed-weaker P Q (Add j c m) f p = (f j p.0, f m p.1)

pub AllNamed-both : (P Q R : ℕ → Type 0) (s : Step) → ((n : ℕ) → P n → Q n → R n) → AllNamed P s → AllNamed Q s → AllNamed R s
AllNamed-both P Q R (Relation r) f a b = tt
AllNamed-both P Q R (Left a j) f p q = f j p q
AllNamed-both P Q R (Right j a) f p q = f j p q
AllNamed-both P Q R (Add j c m) f p q = (f j p.0 q.0, f m p.1 q.1)

pub numbers_below : (k n : ℕ) (s : Step) → k ≤ n → AllNamed (IsNumber k) s → AllNamed (IsNumber n) s
numbers_below k n s l = AllNamed-weaker (IsNumber k) (IsNumber n) s (λ j i. record { from = i.from; to = (let b = i.to in omega (arith, l, b)) })

-- ---- last uses

pub AreLater-same : (xs : List ℕ) → AreLater xs xs
AreLater-same xs = record { count = refl; later = λ n. omega arith }

pub AreLater-trans : (xs ys zs : List ℕ) → AreLater xs ys → AreLater ys zs → AreLater xs zs
AreLater-trans xs ys zs a b = record { count = b.count ∙ a.count; later = λ n. (let c = a.later n in let d = b.later n in omega (arith, c, d)) }

pub AreLater-set : (xs : List ℕ) (i v : ℕ) → i < length xs → get_or xs i 0 ≤ v → AreLater xs (set xs i v)
AreLater-set xs i v inside l = record {
  count = length-set xs i v;
  later = λ n. elim (cases_eq (n - 1) i) [
    | inl s ↦
        let e : last_use (set xs i v) n ≡ v = ap (λ j. get_or (set xs i v) j 0) s ∙ get_or-set_same xs i v 0 inside in
        let f : last_use xs n ≡ get_or xs i 0 = ap (λ j. get_or xs j 0) s in
        omega (arith, l, e, f)
    | inr d ↦ let e : last_use (set xs i v) n ≡ last_use xs n = get_or-set_other xs i (n - 1) v 0 d in omega (arith, e)
  ];
}

pub kept_later : (xs ys : List ℕ) (k : ℕ) (s : Step) → AreLater xs ys → KeepsNamed xs k s → KeepsNamed ys k s
kept_later xs ys k s l = AllNamed-weaker (λ n. k ≤ last_use xs n) (λ n. k ≤ last_use ys n) s (λ n a. (let b = l.later n in omega (arith, a, b)))

-- ---- the elements of steps

elements_stay : (h : Header) (earlier : List (Path → ℕ)) (steps : List Step) (i : ℕ) (d : Path → ℕ) → i < length earlier
    → get_or (elements_behind h earlier steps) i d ≡ get_or earlier i d
unfolding elements_behind
elements_stay h earlier [] i d l = refl
elements_stay h earlier (s ∷ steps) i d l =
    elements_stay h (earlier ++ step_element h earlier s ∷ []) steps i d (let e = length-append earlier (step_element h earlier s ∷ []) in omega (arith, l, e))
    ∙ get_or_append_left earlier (step_element h earlier s ∷ []) d i l

step_element-same : (h : Header) (xs ys : List (Path → ℕ)) (k : ℕ) (s : Step) → ((n : ℕ) → IsNumber k n → element_at xs n ≡ element_at ys n) → NamesEarlier h k s
    → step_element h xs s ≡ step_element h ys s
step_element-same h xs ys k (Relation r) e n = refl
step_element-same h xs ys k (Left a j) e n = ap (λ x. step_element h (x ∷ []) (Left a 1)) (e j n.1)
step_element-same h xs ys k (Right j a) e n = ap (λ x. step_element h (x ∷ []) (Right 1 a)) (e j n.0)
step_element-same h xs ys k (Add j c m) e n =
    let sum : (Path → ℕ) → (Path → ℕ) → Path → ℕ = λ x y p. add h.field (x p) (mul h.field c (y p)) in
    ap₂ sum (e j n.0) (e m n.1)

element_behind : (h : Header) (earlier : List (Path → ℕ)) (steps : List Step) → ((i : ℕ) (s : Step) → i < length steps → NamesEarlier h (length earlier + i) (slice_index_or steps i s))
    → (k : ℕ) (d : Step) → k < length steps → element_at (elements_behind h earlier steps) (length earlier + k + 1) ≡ step_element h (elements_behind h earlier steps) (get_or steps k d)
unfolding elements_behind
element_behind h earlier [] named k d l = absurd (omega (arith, l))
element_behind h earlier (s ∷ steps) named zero d l =
    let x = step_element h earlier s in
    let place : length earlier + 0 + 1 - 1 ≡ length earlier = omega arith in
    ap (λ i. get_or (elements_behind h (earlier ++ x ∷ []) steps) i (λ p. 0)) place
    ∙ elements_stay h (earlier ++ x ∷ []) steps (length earlier) (λ p. 0) (let e = length-append earlier (x ∷ []) in omega (arith, e))
    ∙ get_or-append_seam earlier x [] (λ p. 0)
    ∙ step_element-same h earlier (elements_behind h (earlier ++ x ∷ []) steps) (length earlier + 0) s
    (λ n i.
    let inside : n - 1 < length earlier = (let a = i.from in let b = i.to in omega (arith, a, b)) in
    sym (elements_stay h (earlier ++ x ∷ []) steps (n - 1) (λ p. 0) (let e = length-append earlier (x ∷ []) in omega (arith, inside, e)) ∙ get_or_append_left earlier (x ∷ []) (λ p. 0) (n - 1) inside))
    (named 0 d (omega arith))
element_behind h earlier (s ∷ steps) named (suc k) d l =
    let x = step_element h earlier s in
    let count = length-append earlier (x ∷ []) in
    let place : length earlier + suc k + 1 ≡ length (earlier ++ x ∷ []) + k + 1 = omega (arith, count) in
    ap (element_at (elements_behind h (earlier ++ x ∷ []) steps)) place
    ∙ element_behind h (earlier ++ x ∷ []) steps
    (λ i r b. subst (λ j. NamesEarlier h j (slice_index_or steps i r)) (omega (arith, count)) (named (suc i) r (omega (arith, b)))) k d (omega (arith, l))

-- the element of a step is made from the elements of all steps
pub element_is : (h : Header) (steps : List Step) → AreSteps h steps → (k : ℕ) (d : Step) → k < length steps → element_at (step_elements h steps) (k + 1) ≡ step_element h (step_elements h steps) (get_or steps k d)
element_is h steps are k d l =
    let place : k + 1 ≡ 0 + k + 1 = omega arith in
    ap (element_at (step_elements h steps)) place
    ∙ element_behind h [] steps (λ i s b. let e : i ≡ 0 + i = omega arith in subst (λ j. NamesEarlier h j (slice_index_or steps i s)) e (are.named i s b)) k d l

-- ---- the terms of a step

-- the terms of the element with this number
abbrev AreTermsAt : List Element → ℕ → List Term → Type 0
AreTermsAt elements number terms = (e : Element) → terms ≡ (get_or elements (number - 1) e).terms

pub numbered_terms : (h : Header) (elements : List Element) (number : ℕ) (terms : List Term) → IsNumber (length elements) number → AreTermsAt elements number terms
    → All (λ (x : Element). AreElementTerms h x.terms) elements → AreElementTerms h terms
numbered_terms h elements number terms n at all =
    subst (AreElementTerms h) (sym (at (record { terms = [] }))) (all (number - 1) (record { terms = [] }) (let a = n.from in let b = n.to in omega (arith, a, b)))

abbrev no_terms : Element
no_terms = record { terms = [] }

terms_here : (h : Header) (xs : List (Path → ℕ)) (elements : List Element) (number : ℕ) (terms : List Term) → AreTermsAt elements number terms → IsElementAt h xs elements number
    → AreTermsOf h (element_at xs number) terms
terms_here h xs elements number terms at is = subst (AreTermsOf h (element_at xs number)) (sym (at no_terms)) (is no_terms)

pub left_kept : (h : Header) (xs : List (Path → ℕ)) (elements : List Element) (a j : ℕ) (u : Path) (terms products : List Term) → IsAllowed h → a < arrow_count h.quiver
    → u ≡ arrow_path h.quiver a → AreTermsAt elements j terms → products ≡ terms_behind h.bound u terms → IsElementAt h xs elements j → AreTermsOf h (step_element h xs (Left a j)) products
left_kept h xs elements a j u terms products ok arrow path at made is =
    subst (AreTermsOf h (step_element h xs (Left a j))) (sym (made ∙ ap (λ v. terms_behind h.bound v terms) path))
    (AreTermsOf-behind h (arrow_path h.quiver a) (element_at xs j) terms (IsPath-arrow h.quiver a ok.quiver.ends arrow) (terms_here h xs elements j terms at is))

pub right_kept : (h : Header) (xs : List (Path → ℕ)) (elements : List Element) (j a : ℕ) (u : Path) (terms products : List Term) → IsAllowed h → a < arrow_count h.quiver
    → u ≡ arrow_path h.quiver a → AreTermsAt elements j terms → products ≡ terms_before h.bound u terms → IsElementAt h xs elements j → AreTermsOf h (step_element h xs (Right j a)) products
right_kept h xs elements j a u terms products ok arrow path at made is =
    subst (AreTermsOf h (step_element h xs (Right j a))) (sym (made ∙ ap (λ v. terms_before h.bound v terms) path))
    (AreTermsOf-before h (arrow_path h.quiver a) (element_at xs j) terms (IsPath-arrow h.quiver a ok.quiver.ends arrow) (terms_here h xs elements j terms at is))

pub add_kept : (h : Header) (xs : List (Path → ℕ)) (elements : List Element) (j c m : ℕ) (first second terms : List Term) → AreTermsAt elements j first → AreTermsAt elements m second
    → AreTermsOf h (plus_multiple h.field (sum_of_terms h.field h.bound first) c (sum_of_terms h.field h.bound second)) terms
    → IsElementAt h xs elements j → IsElementAt h xs elements m → AreTermsOf h (step_element h xs (Add j c m)) terms
add_kept h xs elements j c m first second terms at at' of is is' =
    AreTermsOf-same h _ _ terms
    (λ p. ap₂ (λ x y. add h.field x (mul h.field c y)) ((terms_here h xs elements j first at is).value p) ((terms_here h xs elements m second at' is').value p)) of

pub left_terms : (h : Header) (a : ℕ) (u : Path) (terms products : List Term) → IsAllowed h → a < arrow_count h.quiver → u ≡ arrow_path h.quiver a → products ≡ terms_behind h.bound u terms
    → AreElementTerms h terms → AreElementTerms h products
left_terms h a u terms products ok arrow path made are =
    subst (AreElementTerms h) (sym (made ∙ ap (λ v. terms_behind h.bound v terms) path)) (AreElementTerms-behind h (arrow_path h.quiver a) terms (IsPath-arrow h.quiver a ok.quiver.ends arrow) are)

pub right_terms : (h : Header) (a : ℕ) (u : Path) (terms products : List Term) → IsAllowed h → a < arrow_count h.quiver → u ≡ arrow_path h.quiver a → products ≡ terms_before h.bound u terms
    → AreElementTerms h terms → AreElementTerms h products
right_terms h a u terms products ok arrow path made are =
    subst (AreElementTerms h) (sym (made ∙ ap (λ v. terms_before h.bound v terms) path)) (AreElementTerms-before h (arrow_path h.quiver a) terms (IsPath-arrow h.quiver a ok.quiver.ends arrow) are)

-- ---- what is kept

pub let_go_kept : (h : Header) (xs : List (Path → ℕ)) (lasts : List ℕ) (elements after : List Element) (number : ℕ) (e : Element) → IsNumber (length elements) number
    → last_use lasts number < length elements → after ≡ set elements (number - 1) e → AreElementTerms h e.terms → AreInUse h xs lasts elements → AreInUse h xs lasts after
let_go_kept h xs lasts elements after number e n past is are held =
    subst (AreInUse h xs lasts) (sym is)
    (record {
      terms = λ k d l. elim (cases_eq k (number - 1)) [
        | inl s ↦ subst (λ (x : Element). AreElementTerms h x.terms)
            (sym (ap (λ i. get_or (set elements (number - 1) e) i d) s ∙ get_or-set_same elements (number - 1) e d (let a = n.from in let b = n.to in omega (arith, a, b)))) are
        | inr o ↦ subst (λ (x : Element). AreElementTerms h x.terms) (sym (get_or-set_other elements (number - 1) k e d o)) (held.terms k d (let c = length-set elements (number - 1) e in omega (arith, l, c)))
      ];
      each = λ m i l d.
          let count = length-set elements (number - 1) e in
          elim (cases_eq (m - 1) (number - 1)) [
            | inl s ↦
                let f : last_use lasts m ≡ last_use lasts number = ap (λ j. get_or lasts j 0) s in
                absurd (omega (arith, l, count, f, past))
            | inr o ↦ subst (λ (x : Element). AreTermsOf h (element_at xs m) x.terms) (sym (get_or-set_other elements (number - 1) (m - 1) e d o))
                (held.each m (record { from = i.from; to = (let b = i.to in omega (arith, b, count)) }) (omega (arith, l, count)) d)
          ];
    })

pub one_kept_more : (h : Header) (xs : List (Path → ℕ)) (lasts : List ℕ) (elements after : List Element) (e : Element) (x : Path → ℕ) → after ≡ elements ++ e ∷ []
    → element_at xs (length elements + 1) ≡ x → AreElementTerms h e.terms → (length elements < last_use lasts (length elements + 1) → AreTermsOf h x e.terms)
    → AreInUse h xs lasts elements → AreInUse h xs lasts after
one_kept_more h xs lasts elements after e x pushed value are of held =
    subst (AreInUse h xs lasts) (sym pushed)
    (let count = length-append elements (e ∷ []) in
    record {
      terms = λ k d l. elim (cases_lt k (length elements)) [
        | inl b ↦ subst (λ (y : Element). AreElementTerms h y.terms) (sym (get_or_append_left elements (e ∷ []) d k b)) (held.terms k d b)
        | inr b ↦
            let last : k ≡ length elements = omega (arith, l, b, count) in
            subst (λ (y : Element). AreElementTerms h y.terms) (sym (ap (λ i. get_or (elements ++ e ∷ []) i d) last ∙ get_or-append_seam elements e [] d)) are
      ];
      each = λ m i l d. elim (cases_lt (m - 1) (length elements)) [
        | inl b ↦ subst (λ (y : Element). AreTermsOf h (element_at xs m) y.terms) (sym (get_or_append_left elements (e ∷ []) d (m - 1) b))
            (held.each m (record { from = i.from; to = (let a = i.from in omega (arith, a, b)) }) (omega (arith, l, count)) d)
        | inr b ↦
            let last : m - 1 ≡ length elements = (let a = i.to in omega (arith, a, b, count)) in
            let last' : m ≡ length elements + 1 = (let a = i.from in omega (arith, a, last)) in
            let late : length elements < last_use lasts m = omega (arith, l, count) in
            subst (λ (y : Element). AreTermsOf h (element_at xs m) y.terms) (sym (ap (λ j. get_or (elements ++ e ∷ []) j d) last ∙ get_or-append_seam elements e [] d))
            (subst (λ z. AreTermsOf h z e.terms) (sym (ap (element_at xs) last' ∙ value)) (of (subst (λ j. length elements < last_use lasts j) last' late)))
      ];
    })

-- what a step names is there
pub named_kept : (h : Header) (xs : List (Path → ℕ)) (lasts : List ℕ) (elements : List Element) (s : Step) → AllNamed (IsNumber (length elements)) s → KeepsNamed lasts (length elements) s
    → AreInUse h xs lasts elements → AllNamed (IsElementAt h xs elements) s
named_kept h xs lasts elements s n k held = AllNamed-both (IsNumber (length elements)) (λ j. length elements ≤ last_use lasts j) (IsElementAt h xs elements) s held.each n k

-- ---- the rules

-- the terms of a rule's step are those kept
pub rule_terms_at : (h : Header) (xs : List (Path → ℕ)) (rules : List Rule) (elements : List Element) (k : ℕ) (rule : Rule) (e : Element) → k < length rules → rule ≡ get_or rules k rule
    → All (λ (r : Rule). IsElementAt h xs elements r.step) rules → e ≡ get_or elements (rule.step - 1) e → AreTermsOf h (element_at xs rule.step) e.terms
rule_terms_at h xs rules elements k rule e l is all at =
    subst (λ (x : Element). AreTermsOf h (element_at xs rule.step) x.terms) (sym at) (subst (λ (r : Rule). IsElementAt h xs elements r.step) (sym is) (all k rule l) e)

-- behind the last step the elements that rules name are kept
pub kept_for_rules : (h : Header) (xs : List (Path → ℕ)) (steps : List Step) (rules : List Rule) (lasts : List ℕ) (elements : List Element) → AreLastUses steps rules lasts
    → length elements ≡ length steps → All (λ (rule : Rule). IsNumber (length steps) rule.step) rules → AreInUse h xs lasts elements → All (λ (rule : Rule). IsElementAt h xs elements rule.step) rules
kept_for_rules h xs steps rules lasts elements uses count numbers held k r l =
    let rule : Rule = get_or rules k r in
    held.each rule.step (subst (λ n. IsNumber n rule.step) (sym count) (numbers k r l)) (let a = uses.derived k r l in omega (arith, a, count))
