-- Runs of arrows among others, and tips as factors.
use Rattle.std.proofs.Common.{ℕ, ◌≡◌, ◌<◌, ◌-◌, ◌+◌, inl, inr, List, [], ◌∷◌, ◌++◌, Bool, true, false, ◌||◌, eqb, length, take, drop, refl, sym, ap, ◌∙◌, arith, length-append, append_assoc}
use Rattle.std.specs.List.{starts_with}
use Rattle.std.proofs.lemmas.Bool.{or_cases, or_left, or_right}
use Rattle.std.proofs.lemmas.Bool.Decides.{Decides-eqb}
use Rattle.std.proofs.lemmas.List.{at_drop_more, drop_more, take_rest}
use Rattle.std.proofs.lemmas.Slice.Eq.{starts_is}
use Rattle.quiver_paths.specs.declared.Path.{Path}
use Rattle.quiver_paths.specs.Path.{IsPath, IsFactor}
use Rattle.quiver_paths.proofs.PathLemmas.{IsFactor-from_arrows, IsFactor-arrows}
use Rattle.path_algebra.specs.declared.Header.{Header}
use Rattle.path_algebra.specs.declared.rules.Rule.{Rule}
use Rattle.path_algebra.specs.Allowed.{IsAllowed}
use Rattle.path_reduction.specs.Gaps.{IsTidy}
use Rattle.path_basis.specs.Measure.{runs_in}

-- ---- runs of arrows

-- the run stands between some arrows before it and some behind it
pub record RunsIn (run arrows : List ℕ) : Type 0 where
  pub before : List ℕ
  pub behind : List ℕ
  pub whole : arrows ≡ before ++ (run ++ behind)

pub runs_from_test : (run arrows : List ℕ) → runs_in run arrows ≡ true → RunsIn run arrows
runs_from_test run [] e = absurd (cc)
runs_from_test run (a ∷ arrows) e = elim (or_cases _ _ e) [
  | inl s ↦ record { before = []; behind = drop (length run) (a ∷ arrows); whole = (starts_is Decides-eqb (a ∷ arrows) run true (sym s)).0 refl }
  | inr r ↦ (let t = runs_from_test run arrows r in record { before = a ∷ t.before; behind = t.behind; whole = ap (λ xs. a ∷ xs) t.whole })
]

pub test_from_runs : (run arrows before behind : List ℕ) → 0 < length run → arrows ≡ before ++ (run ++ behind) → runs_in run arrows ≡ true
test_from_runs run [] before behind l e = absurd (omega (arith, ap length e, length-append before (run ++ behind), length-append run behind))
test_from_runs run (a ∷ arrows) [] behind l e = or_left _ _ ((starts_is Decides-eqb (a ∷ arrows) run _ refl).1 behind e)
test_from_runs run (a ∷ arrows) (b ∷ before) behind l e = or_right _ _ (test_from_runs run arrows before behind l (ap (drop 1) e))

-- a run of a run is a run
pub runs_in-trans : (xs ys zs : List ℕ) → 0 < length xs → runs_in xs ys ≡ true → runs_in ys zs ≡ true → runs_in xs zs ≡ true
runs_in-trans xs ys zs l e f =
    let a = runs_from_test xs ys e in
    let b = runs_from_test ys zs f in
    test_from_runs xs zs (b.before ++ a.before) (a.behind ++ b.behind) l
    (b.whole ∙ ap (λ us. b.before ++ (us ++ b.behind)) a.whole
    ∙ ap (λ us. b.before ++ us) (append_assoc a.before (xs ++ a.behind) b.behind ∙ ap (λ us. a.before ++ us) (append_assoc xs a.behind b.behind))
    ∙ sym (append_assoc b.before a.before (xs ++ (a.behind ++ b.behind))))

-- ---- runs and factors

-- the run of a tip makes it a factor
pub factor_from_run : (h : Header) (rule : Rule) (p : Path) → IsAllowed h → IsTidy h rule → IsPath h.quiver p → runs_in rule.tip.arrows p.arrows ≡ true → IsFactor h.quiver rule.tip p
factor_from_run h rule p ok t hp e =
    let r = runs_from_test rule.tip.arrows p.arrows e in
    IsFactor-from_arrows h.quiver rule.tip p r.before r.behind ok.quiver.ends t.path hp t.not_trivial r.whole

pub run_from_factor : (h : Header) (rule : Rule) (p : Path) → IsTidy h rule → IsFactor h.quiver rule.tip p → runs_in rule.tip.arrows p.arrows ≡ true
run_from_factor h rule p t f = test_from_runs rule.tip.arrows p.arrows f.before.arrows f.behind.arrows t.not_trivial (IsFactor-arrows h.quiver rule.tip p f)

-- ---- as the code goes

-- from one place on: there, or behind it
pub runs_in-more : (run arrows : List ℕ) (n : ℕ) (b : Bool) → n < length arrows → b ≡ starts_with eqb (take (length arrows - n) (drop n arrows)) run → runs_in run (drop n arrows) ≡ (b || runs_in run (drop (n + 1) arrows))
runs_in-more run arrows n b l e =
    at_drop_more (runs_in run) arrows n 0 l
    ∙ ap (λ x. x || runs_in run (drop (n + 1) arrows)) (ap (λ xs. starts_with eqb xs run) (sym (take_rest arrows n ∙ drop_more arrows n 0 l)) ∙ sym e)

-- not there, so behind it
pub runs_in-later : (run arrows : List ℕ) (n : ℕ) (b : Bool) → n < length arrows → b ≡ starts_with eqb (take (length arrows - n) (drop n arrows)) run → b ≡ false → runs_in run (drop n arrows) ≡ runs_in run arrows
    → runs_in run (drop (n + 1) arrows) ≡ runs_in run arrows
runs_in-later run arrows n b l e f i = ap (λ x. x || runs_in run (drop (n + 1) arrows)) (sym f) ∙ sym (runs_in-more run arrows n b l e) ∙ i
