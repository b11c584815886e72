-- Tips among the arrows of a path are tips that are factors of it.
use Rattle.std.proofs.Common.{ℕ, zero, suc, ◌≡◌, ◌≢◌, ◌<◌, ◌≤◌, ◌+◌, ◌-◌, List, [], ◌∷◌, ◌++◌, length, take, drop, get_or, refl, sym, ap, ◌∙◌, subst, arith, length-append, append_assoc}
use Rattle.std.specs.Prelude.{Contains, All, AllPairs, MatchBool}
use mathlib.Core.Bool.{Bool, true, false}
use Rattle.path_algebra.specs.declared.Term.{Term}
use Rattle.path_algebra.specs.BasisClauses.{ReducedHolds}
use Rattle.std.proofs.Math.Seq.{take-append_seam, drop-append_seam}
use Rattle.std.proofs.lemmas.List.{take-append-drop, take_at, append-nil, length-take-le, length-drop, take_rest, get_or_default}
use Rattle.std.proofs.lemmas.List.Elements.{All-contains}
use Rattle.quiver_paths.specs.declared.Path.{Path}
use Rattle.quiver_paths.specs.Path.{IsPath, path_length, IsFactor}
use Rattle.quiver_paths.specs.PathOrder.{IsSmaller}
use Rattle.quiver_paths.proofs.PathLemmas.{IsFactor-from_arrows, IsFactor-arrows, length-factor}
use Rattle.quiver_paths.proofs.PathOrderLemmas.{IsSmaller-trans}
use Rattle.path_algebra.specs.declared.Header.{Header}
use Rattle.path_algebra.specs.declared.rules.Rule.{Rule}
use Rattle.path_algebra.specs.Reduction.{HasNoTip}
use Rattle.path_algebra.specs.Occurring.{AreLongTips, TipsAscend, EndsInTip, HasTip, IsReducedAmong}
use Rattle.path_algebra.proofs.NormalFactors.{whole_factor}

-- the arrows of the rule's tip stand among these, between some before and some behind them
pub record StandsIn (rules : List Rule) (rule : Rule) (arrows before behind : List ℕ) : Type 0 where
  pub listed : Contains rules rule
  pub whole : arrows ≡ before ++ (rule.tip.arrows ++ behind)

-- ---- from the tests

pub record FoundTip (rules : List Rule) (arrows : List ℕ) : Type 0 where
  pub rule : Rule
  pub before : List ℕ
  pub behind : List ℕ
  pub stands : StandsIn rules rule arrows before behind

pub found_at_end : (rules : List Rule) (arrows : List ℕ) → EndsInTip rules arrows → FoundTip rules arrows
found_at_end rules arrows e = record {
  rule = e.tip.rule;
  before = take e.place arrows;
  behind = [];
  stands = record {
    listed = e.tip.listed;
    whole = sym (ap (λ xs. take e.place arrows ++ xs) (append-nil e.tip.rule.tip.arrows ∙ e.tip.same) ∙ take-append-drop e.place arrows);
  };
}

found_in_front : (rules : List Rule) (k : ℕ) (arrows : List ℕ) → FoundTip rules (take k arrows) → FoundTip rules arrows
found_in_front rules k arrows f = record {
  rule = f.rule;
  before = f.before;
  behind = f.behind ++ drop k arrows;
  stands = record {
    listed = f.stands.listed;
    whole = sym (take-append-drop k arrows) ∙ ap (λ xs. xs ++ drop k arrows) f.stands.whole ∙ append_assoc f.before (f.rule.tip.arrows ++ f.behind) (drop k arrows)
        ∙ ap (λ xs. f.before ++ xs) (append_assoc f.rule.tip.arrows f.behind (drop k arrows));
  };
}

found_in_rest : (rules : List Rule) (k : ℕ) (arrows : List ℕ) → FoundTip rules (drop k arrows) → FoundTip rules arrows
found_in_rest rules k arrows f = record {
  rule = f.rule;
  before = take k arrows ++ f.before;
  behind = f.behind;
  stands = record {
    listed = f.stands.listed;
    whole = sym (take-append-drop k arrows) ∙ ap (λ xs. take k arrows ++ xs) f.stands.whole ∙ sym (append_assoc (take k arrows) f.before (f.rule.tip.arrows ++ f.behind));
  };
}

pub found_tip : (rules : List Rule) (arrows : List ℕ) → HasTip rules arrows → FoundTip rules arrows
found_tip rules arrows h = found_in_front rules h.place arrows (found_at_end rules (take h.place arrows) h.ends)

-- ---- to the tests

pub ends_from : (rules : List Rule) (rule : Rule) (arrows before : List ℕ) → 0 < path_length rule.tip → StandsIn rules rule arrows before [] → EndsInTip rules arrows
ends_from rules rule arrows before l s =
    let whole : arrows ≡ before ++ rule.tip.arrows = s.whole ∙ ap (λ xs. before ++ xs) (append-nil rule.tip.arrows) in
    record {
      place = length before;
      inside = (let e = ap length whole ∙ length-append before rule.tip.arrows in omega arith);
      tip = record { rule = rule; listed = s.listed; same = sym (ap (drop (length before)) whole ∙ drop-append_seam before rule.tip.arrows) };
    }

pub tip_from : (rules : List Rule) (rule : Rule) (arrows before behind : List ℕ) → 0 < path_length rule.tip → StandsIn rules rule arrows before behind → HasTip rules arrows
tip_from rules rule arrows before behind l s =
    let whole : arrows ≡ (before ++ rule.tip.arrows) ++ behind = s.whole ∙ sym (append_assoc before rule.tip.arrows behind) in
    record {
      place = length (before ++ rule.tip.arrows);
      inside = (let e = ap length whole ∙ length-append (before ++ rule.tip.arrows) behind in omega arith);
      ends = subst (EndsInTip rules) (sym (ap (take (length (before ++ rule.tip.arrows))) whole ∙ take-append_seam (before ++ rule.tip.arrows) behind))
          (ends_from rules rule (before ++ rule.tip.arrows) before l (record { listed = s.listed; whole = ap (λ xs. before ++ xs) (sym (append-nil rule.tip.arrows)) }));
    }

-- ---- tips as factors

long_tip : (h : Header) (rules : List Rule) (rule : Rule) → AreLongTips h rules → Contains rules rule → 2 ≤ path_length rule.tip
long_tip h rules rule long m = All-contains (λ (r : Rule). 2 ≤ path_length r.tip) rules rule long.long m

pub factor_found : (h : Header) (rules : List Rule) (p : Path) → AreLongTips h rules → IsPath h.quiver p → (f : FoundTip rules p.arrows) → IsFactor h.quiver f.rule.tip p
factor_found h rules p long hp f = IsFactor-from_arrows h.quiver f.rule.tip p f.before f.behind long.ends
    (All-contains (λ (r : Rule). IsPath h.quiver r.tip) rules f.rule long.paths f.stands.listed) hp (let l = long_tip h rules f.rule long f.stands.listed in omega arith) f.stands.whole

pub tip_from_factor : (h : Header) (rules : List Rule) (rule : Rule) (p : Path) → AreLongTips h rules → Contains rules rule → IsFactor h.quiver rule.tip p → HasTip rules p.arrows
tip_from_factor h rules rule p long m f =
    tip_from rules rule p.arrows f.before.arrows f.behind.arrows (let l = long_tip h rules rule long m in omega arith) (record { listed = m; whole = IsFactor-arrows h.quiver rule.tip p f })

-- the test for a path
pub no_tip_if : (h : Header) (rules : List Rule) (p : Path) → AreLongTips h rules → (HasTip rules p.arrows → ⊥) → HasNoTip h rules p
no_tip_if h rules p long n rule m f = n (tip_from_factor h rules rule p long m f)

pub tip_refuses : (h : Header) (rules : List Rule) (p : Path) → AreLongTips h rules → IsPath h.quiver p → HasTip rules p.arrows → HasNoTip h rules p → ⊥
tip_refuses h rules p long hp t n = let f = found_tip rules p.arrows t in n f.rule f.stands.listed (factor_found h rules p long hp f)

-- ---- the test for a tip

found_length : (rules : List Rule) (arrows : List ℕ) (f : FoundTip rules arrows) → path_length f.rule.tip ≤ length arrows
found_length rules arrows f = let e = ap length f.stands.whole in let a = length-append f.before (f.rule.tip.arrows ++ f.behind) in let b = length-append f.rule.tip.arrows f.behind in omega arith

shorter_differs : (f p : Path) → path_length f < path_length p → f ≢ p
shorter_differs f p l e = omega (arith, l, ap path_length e)

abbrev pub NoOther : Header → List Rule → Path → Type 0
NoOther h rules p = (a : Rule) → Contains rules a → a.tip ≢ p → IsFactor h.quiver a.tip p → ⊥

pub front_refuses : (h : Header) (rules : List Rule) (p : Path) → AreLongTips h rules → IsPath h.quiver p → 0 < path_length p → HasTip rules (take (path_length p - 1) p.arrows) → NoOther h rules p → ⊥
unfolding found_tip found_in_front
front_refuses h rules p long hp l t n =
    let f : FoundTip rules (take (path_length p - 1) p.arrows) = found_tip rules (take (path_length p - 1) p.arrows) t in
    let g : FoundTip rules p.arrows = found_in_front rules (path_length p - 1) p.arrows f in
    let short : path_length f.rule.tip < path_length p = (let a = found_length rules (take (path_length p - 1) p.arrows) f in let b = length-take-le (path_length p - 1) p.arrows (omega arith) in omega arith) in
    n f.rule f.stands.listed (shorter_differs f.rule.tip p short) (factor_found h rules p long hp g)

pub rest_refuses : (h : Header) (rules : List Rule) (p : Path) → AreLongTips h rules → IsPath h.quiver p → 0 < path_length p → EndsInTip rules (drop 1 p.arrows) → NoOther h rules p → ⊥
unfolding found_at_end found_in_rest
rest_refuses h rules p long hp l t n =
    let f : FoundTip rules (drop 1 p.arrows) = found_at_end rules (drop 1 p.arrows) t in
    let g : FoundTip rules p.arrows = found_in_rest rules 1 p.arrows f in
    let short : path_length f.rule.tip < path_length p = (let a = found_length rules (drop 1 p.arrows) f in let b = length-drop 1 p.arrows in omega arith) in
    n f.rule f.stands.listed (shorter_differs f.rule.tip p short) (factor_found h rules p long hp g)

-- the last of some items that are there
drop_last : {X : Type 0} (xs : List X) (x : X) (ys : List X) → (zs : List X) × (w : X) × (x ∷ ys ≡ zs ++ w ∷ [])
drop_last xs x [] = ([], x, refl)
drop_last xs x (y ∷ ys) = let r = drop_last xs y ys in (x ∷ r.0, r.1, ap (λ l. x ∷ l) r.2)

pub in_front : (rules : List Rule) (rule : Rule) (arrows before : List ℕ) (v : ℕ) (vs : List ℕ) → 0 < path_length rule.tip → StandsIn rules rule arrows before (v ∷ vs) → HasTip rules (take (length arrows - 1) arrows)
in_front rules rule arrows before v vs l s =
    let last = drop_last {X = ℕ} [] v vs in
    let inner : List ℕ = before ++ (rule.tip.arrows ++ last.0) in
    let whole : arrows ≡ inner ++ last.1 ∷ [] =
    s.whole ∙ ap (λ xs. before ++ (rule.tip.arrows ++ xs)) last.2 ∙ ap (λ xs. before ++ xs) (sym (append_assoc rule.tip.arrows last.0 (last.1 ∷ [])))
    ∙ sym (append_assoc before (rule.tip.arrows ++ last.0) (last.1 ∷ [])) in
    let long : length inner ≡ length arrows - 1 = (let e = ap length whole ∙ length-append inner (last.1 ∷ []) in omega arith) in
    subst (HasTip rules) (sym (ap (take (length arrows - 1)) whole ∙ take_at inner (last.1 ∷ []) (length arrows - 1) long))
    (tip_from rules rule inner before last.0 l (record { listed = s.listed; whole = refl }))

pub no_other_if : (h : Header) (rules : List Rule) (p : Path) → AreLongTips h rules → (HasTip rules (take (path_length p - 1) p.arrows) → ⊥) → (EndsInTip rules (drop 1 p.arrows) → ⊥) → NoOther h rules p
no_other_if h rules p long front rest a m d f = by f.before.arrows f.behind.arrows refl refl (IsFactor-arrows h.quiver a.tip p f)
  where
    some : 0 < path_length a.tip
    some = let l = long_tip h rules a long m in omega arith

    by : (us vs : List ℕ) → f.before.arrows ≡ us → f.behind.arrows ≡ vs → p.arrows ≡ us ++ (a.tip.arrows ++ vs) → ⊥
    by us (v ∷ vs) eu ev w = front (in_front rules a p.arrows us v vs some (record { listed = m; whole = w }))
    by (u ∷ us) [] eu ev w = rest (ends_from rules a (drop 1 p.arrows) us some (record { listed = m; whole = ap (drop 1) w }))
    by [] [] eu ev w = d (whole_factor h.quiver a.tip p f (let e = length-factor h.quiver a.tip p f in let x = ap length eu in let y = ap length ev in omega arith))

-- ---- what ascends by its paths

smaller_later : {X : Type 0} (f : X → Path) (xs : List X) → ((j : ℕ) (d : X) → j + 1 < length xs → IsSmaller (f (get_or xs j d)) (f (get_or xs (j + 1) d)))
    → (n i j : ℕ) (d : X) → j ≡ i + suc n → j < length xs → IsSmaller (f (get_or xs i d)) (f (get_or xs j d))
smaller_later f xs step zero i j d e l = subst (λ k. IsSmaller (f (get_or xs i d)) (f (get_or xs k d))) (let q : i + 1 ≡ j = omega arith in q) (step i d (omega arith))
smaller_later f xs step (suc n) i j d e l =
    let next : IsSmaller (f (get_or xs (i + suc n) d)) (f (get_or xs j d)) =
    subst (λ k. IsSmaller (f (get_or xs (i + suc n) d)) (f (get_or xs k d))) (let q : i + suc n + 1 ≡ j = omega arith in q) (step (i + suc n) d (omega arith)) in
    IsSmaller-trans _ _ _ (smaller_later f xs step n i (i + suc n) d refl (omega arith)) next

-- each is smaller than the next
pub ascend_from_steps : {X : Type 0} (f : X → Path) (xs : List X) → ((j : ℕ) (d : X) → j + 1 < length xs → IsSmaller (f (get_or xs j d)) (f (get_or xs (j + 1) d)))
    → AllPairs (λ a b. IsSmaller (f a) (f b)) xs
ascend_from_steps f xs step i j d l g = smaller_later f xs step (j - i - 1) i j d (omega arith) g

-- one and the next
pub next_is_greater : {X : Type 0} (f : X → Path) (xs : List X) (n : ℕ) (x y : X) → AllPairs (λ a b. IsSmaller (f a) (f b)) xs → 0 < n → n < length xs
    → IsSmaller (f (get_or xs (n - 1) x)) (f (get_or xs n y))
next_is_greater f xs n x y a z l =
    subst (λ r. IsSmaller (f r) (f (get_or xs n y))) (get_or_default xs (n - 1) y x (omega arith)) (a (n - 1) n y (omega arith) l)

-- ---- as the code goes

-- the arrows as slices: all but the last, and all but the first
pub front_slice : (rules : List Rule) (p : Path) (xs : List ℕ) → xs ≡ p.arrows → HasTip rules (take (length xs - 1) xs) → HasTip rules (take (path_length p - 1) p.arrows)
front_slice rules p xs e t = subst (λ ys. HasTip rules (take (length ys - 1) ys)) e t

pub front_slice_back : (rules : List Rule) (p : Path) (xs : List ℕ) → xs ≡ p.arrows → HasTip rules (take (path_length p - 1) p.arrows) → HasTip rules (take (length xs - 1) xs)
front_slice_back rules p xs e t = subst (λ ys. HasTip rules (take (length ys - 1) ys)) (sym e) t

pub rest_slice : (rules : List Rule) (p : Path) (xs : List ℕ) → xs ≡ p.arrows → EndsInTip rules (take (length xs - 1) (drop 1 xs)) → EndsInTip rules (drop 1 p.arrows)
rest_slice rules p xs e t = subst (λ ys. EndsInTip rules (drop 1 ys)) e (subst (EndsInTip rules) (take_rest xs 1) t)

pub rest_slice_back : (rules : List Rule) (p : Path) (xs : List ℕ) → xs ≡ p.arrows → EndsInTip rules (drop 1 p.arrows) → EndsInTip rules (take (length xs - 1) (drop 1 xs))
rest_slice_back rules p xs e t = subst (EndsInTip rules) (sym (take_rest xs 1)) (subst (λ ys. EndsInTip rules (drop 1 ys)) (sym e) t)

-- the tail decides
pub reduced_by_tail : (h : Header) (rules : List Rule) (rule : Rule) (terms : List Term) (b : Bool) → terms ≡ rule.tail.terms → NoOther h rules rule.tip
    → MatchBool b (All (λ (a : Term). HasNoTip h rules a.path) terms) (All (λ (a : Term). HasNoTip h rules a.path) terms → ⊥)
    → MatchBool b (IsReducedAmong h rules rule) (IsReducedAmong h rules rule → ⊥)
reduced_by_tail h rules rule terms true e n m = record { tip = n; tail = subst (All (λ (a : Term). HasNoTip h rules a.path)) e m }
reduced_by_tail h rules rule terms false e n m = λ is. m (subst (All (λ (a : Term). HasNoTip h rules a.path)) (sym e) is.tail)

-- all rules, and each of them
pub reduced_each : (h : Header) (rules : List Rule) → ReducedHolds h rules → (k : ℕ) (rule : Rule) → k < length rules → rule ≡ get_or rules k rule → IsReducedAmong h rules rule
reduced_each h rules r k rule l is = record {
  tip = λ a m. r.tips a rule m (k, l, sym is);
  tail = subst (λ (x : Rule). All (λ (a : Term). HasNoTip h rules a.path) x.tail.terms) (sym is) (r.tails k rule l);
}

pub reduced_all : (h : Header) (rules : List Rule) → TipsAscend rules → ((k : ℕ) (d : Rule) → k < length rules → IsReducedAmong h rules (get_or rules k d)) → ReducedHolds h rules
reduced_all h rules ascending each = record {
  ascending = ascending;
  tips = λ a b m n. subst (λ (x : Rule). NoOther h rules x.tip) n.2 (each n.0 b n.1).tip a m;
  tails = λ k d l. (each k d l).tail;
}
