-- How many arrows the tips of ascending rules have.
use Rattle.std.proofs.Common.{ℕ, ◌≡◌, ◌<◌, ◌≤◌, ◌-◌, inl, inr, List, length, get_or, ap, ◌∙◌, arith}
use Rattle.std.proofs.lemmas.Bool.{cases_order}
use Rattle.std.proofs.lemmas.List.{get_or_default}
use Rattle.quiver_paths.specs.Path.{path_length}
use Rattle.quiver_paths.proofs.PathOrderLemmas.{length_of_smaller}
use Rattle.path_algebra.specs.declared.rules.Rule.{Rule}
use Rattle.path_algebra.specs.Occurring.{TipsAscend, IsTipOf}

-- no later tip is shorter
rising : (rules : List Rule) → TipsAscend rules → (i j : ℕ) (d : Rule) → i ≤ j → j < length rules → path_length (get_or rules i d).tip ≤ path_length (get_or rules j d).tip
rising rules a i j d l m = elim (cases_order i j) [
  | inl e ↦ let s = ap (λ k. path_length (get_or rules k d).tip) e in omega (arith, s)
  | inr (inl n) ↦ length_of_smaller (get_or rules i d).tip (get_or rules j d).tip (a i j d n m)
  | inr (inr n) ↦ absurd (omega (arith, l, n))
]

-- how many arrows a listed tip has
listed_length : (rules : List Rule) (arrows : List ℕ) (t : IsTipOf rules arrows) → path_length (get_or rules t.listed.0 t.rule).tip ≡ length arrows
listed_length rules arrows t = ap (λ (r : Rule). path_length r.tip) t.listed.2 ∙ ap (λ xs. length xs) t.same

-- how many the tip at a place has
length_at : (rules : List Rule) (k : ℕ) (x d : Rule) → k < length rules → x ≡ get_or rules k x → path_length x.tip ≡ path_length (get_or rules k d).tip
length_at rules k x d l e = ap (λ (r : Rule). path_length r.tip) (e ∙ get_or_default rules k x d l)

pub none_shorter : (rules : List Rule) → TipsAscend rules → (x : Rule) → x ≡ get_or rules 0 x → (arrows : List ℕ) → length arrows < path_length x.tip → IsTipOf rules arrows → ⊥
none_shorter rules a x e arrows s t =
    let inside = t.listed.1 in
    let up = rising rules a 0 t.listed.0 t.rule (omega arith) inside in
    let first = length_at rules 0 x t.rule (omega (arith, inside)) e in
    let is = listed_length rules arrows t in
    omega (arith, up, first, is, s)

pub none_longer : (rules : List Rule) → TipsAscend rules → (x : Rule) → x ≡ get_or rules (length rules - 1) x → (arrows : List ℕ) → path_length x.tip < length arrows → IsTipOf rules arrows → ⊥
none_longer rules a x e arrows s t =
    let inside = t.listed.1 in
    let up = rising rules a t.listed.0 (length rules - 1) t.rule (omega (arith, inside)) (omega (arith, inside)) in
    let last = length_at rules (length rules - 1) x t.rule (omega (arith, inside)) e in
    let is = listed_length rules arrows t in
    omega (arith, up, last, is, s)
