-- Rules with other tails, but the same tips.
use Rattle.std.proofs.Common.{ℕ, ◌≡◌, ◌<◌, ◌≤◌, ◌+◌, ◌-◌, ◌*◌, ◌^◌, zero, suc, List, [], ◌∷◌, Bool, not, length, map, get_or, set, refl, sym, ap, ap₂, ◌∙◌, subst, arith}
use Rattle.std.specs.Prelude.{Contains, All, count_by, ◌||◌}
use Rattle.std.specs.List.{list_any}
use Rattle.std.proofs.lemmas.List.{length-map, get_or-map}
use Rattle.std.proofs.lemmas.List.Elements.{All-set}
use Rattle.quiver_paths.specs.declared.Path.{Path}
use Rattle.quiver_paths.specs.Path.{IsFactor}
use Rattle.quiver_paths.specs.PathOrder.{IsSmaller}
use Rattle.quiver_paths.specs.PathList.{path_count, paths_below}
use Rattle.path_algebra.specs.declared.Header.{Header}
use Rattle.path_algebra.specs.declared.rules.Rule.{Rule}
use Rattle.path_algebra.specs.declared.rules.Step.{Step}
use Rattle.path_algebra.specs.Rules.{rule_element}
use Rattle.path_reduction.specs.Gaps.{IsTidy, AreTidy}
use Rattle.path_reduction.specs.Derived.{IsDerivation, Derives, Lengthens, AreDerived}
use Rattle.path_reduction.proofs.Deriving.{still_derived}
use Rattle.path_basis.specs.Measure.{runs_in, has_tip_in, free_count}
use Rattle.path_basis.specs.Completing.{IsCompletion, HasGrown}
use Rattle.path_basis.specs.Tails.{HaveSameTips}
use Rattle.path_basis.proofs.Measure.{free_count-le}

tip_of : Rule → Path
tip_of x = x.tip

-- one rule is replaced
pub set_tips : (rules : List Rule) (i : ℕ) (d new : Rule) → i < length rules → new.tip ≡ (get_or rules i d).tip → HaveSameTips rules (set rules i new)
set_tips [] i d new l e = absurd (omega (arith, l))
set_tips (x ∷ rules) zero d new l e = ap (λ p. p ∷ map (λ (y : Rule). y.tip) rules) e
set_tips (x ∷ rules) (suc i) d new l e = ap (λ ps. x.tip ∷ ps) (set_tips rules i d new (omega (arith, l)) e)

pub same_count : (old new : List Rule) → HaveSameTips old new → length new ≡ length old
same_count old new same = sym (length-map new (λ (x : Rule). x.tip)) ∙ ap length same ∙ length-map old (λ (x : Rule). x.tip)

tip_at : (old new : List Rule) (i : ℕ) (d : Rule) → HaveSameTips old new → i < length old → (get_or new i d).tip ≡ (get_or old i d).tip
tip_at old new i d same l =
    let f : Rule → Path = λ (x : Rule). x.tip in
    let count = same_count old new same in
    let a = length-map old f in
    let b = length-map new f in
    sym (get_or-map f new i d d.tip (omega (arith, l, count, b))) ∙ ap (λ ps. get_or ps i d.tip) same ∙ get_or-map f old i d d.tip (omega (arith, l, a))

-- tidy rules stay tidy
pub tidy_same_tips : (h : Header) (old new : List Rule) → HaveSameTips old new → AreTidy h old → All (IsTidy h) new → AreTidy h new
tidy_same_tips h old new same tidy each =
    let count = same_count old new same in
    record {
      each = each;
      ascending = λ i j d l m.
          let a = tip_at old new i d same (omega (arith, l, m, count)) in
          let b = tip_at old new j d same (omega (arith, m, count)) in
          subst (λ p. IsSmaller p (get_or new j d).tip) (sym a) (subst (IsSmaller (get_or old i d).tip) (sym b) (tidy.ascending i j d l (omega (arith, m, count))));
      apart = λ a b m n d g.
          let x = member a m in
          let y = member b n in
          tidy.apart x.0 y.0 x.1 y.1 (λ e. d (x.2 ∙ e ∙ sym y.2)) (subst (IsFactor h.quiver x.0.tip) y.2 (subst (λ p. IsFactor h.quiver p b.tip) x.2 g));
    }
  where
    default_at : (rules : List Rule) (i : ℕ) (d : Rule) → i < length rules → get_or rules i (get_or rules i d) ≡ get_or rules i d
    default_at [] i d l = absurd (omega (arith, l))
    default_at (x ∷ rules) zero d l = refl
    default_at (x ∷ rules) (suc i) d l = default_at rules i d (omega (arith, l))

    member : (a : Rule) → Contains new a → (x : Rule) × Contains old x × (a.tip ≡ x.tip)
    member a m =
        let l : m.0 < length old = (let k = m.1 in let count = same_count old new same in omega (arith, k, count)) in (
          get_or old m.0 a,
          (m.0, l, default_at old m.0 a l),
          ap (λ (r : Rule). r.tip) (sym m.2) ∙ tip_at old new m.0 a same l,
        )

-- as many short paths have no tip
pub free_same_tips : (h : Header) (old new : List Rule) → HaveSameTips old new → free_count h new ≡ free_count h old
unfolding free_count
free_same_tips h old new same =
    ap (λ (test : Path → Bool). count_by (λ (p : Path). not (test p)) (paths_below h.quiver h.bound)) (λ i p. tips_in p i)
  where
    by_tips : (rules : List Rule) (p : Path) → has_tip_in rules p ≡ list_any (λ (t : Path). runs_in t.arrows p.arrows) (map (λ (x : Rule). x.tip) rules)
    by_tips [] p = refl
    by_tips (x ∷ rules) p = ap (λ b. runs_in x.tip.arrows p.arrows || b) (by_tips rules p)

    tips_in : (p : Path) → has_tip_in new p ≡ has_tip_in old p
    tips_in p = by_tips new p ∙ ap (list_any (λ (t : Path). runs_in t.arrows p.arrows)) same ∙ sym (by_tips old p)

-- a completion with other tails
pub completion_same_tips : (h : Header) (old new removed : List Rule) (steps more : List Step) → path_count h.quiver h.bound ≤ 4096 → IsCompletion h old removed steps → HaveSameTips old new → AreTidy h new → IsDerivation h more
    → AreDerived h more new → Lengthens steps more → ((most : ℕ) → length steps ≤ most → 2 ^ 31 + 131072 ≤ most → length more ≤ most) → IsCompletion h new removed more
completion_same_tips h old new removed steps more few c same tidy lawful derived lengthens count = record {
  tidy = tidy;
  lawful = lawful;
  derived = derived;
  removed_tidy = c.removed_tidy;
  removed_derived = still_derived h steps more removed lengthens lawful c.removed_derived;
  room =
      let free = free_same_tips h old new same in
      let all = free_count-le h old in
      let r = c.room in
      let room = count (2 ^ 31 + 131136 * 4097 - 131136 * free_count h old) (omega (arith, r)) (omega (arith, all, few)) in
      omega (arith, free, all, few, room);
}

pub grown_same_tips : (h : Header) (old removed new after newer : List Rule) → HasGrown h old removed new after → HaveSameTips new newer → HasGrown h old removed newer after
grown_same_tips h old removed new after newer grown same = record {
  fewer = (let f = grown.fewer in let e = free_same_tips h new newer same in omega (arith, f, e));
  count = (let k = grown.count in let e = same_count new newer same in omega (arith, k, e));
}
