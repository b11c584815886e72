-- Rules with other steps: the same tips and tails.
use Rattle.std.proofs.Common.{ℕ, ◌≡◌, ◌≤◌, ◌+◌, ◌*◌, ◌^◌, List, [], ◌∷◌, Bool, not, length, map, get_or, refl, sym, ap, ap₂, ◌∙◌, subst, arith}
use Rattle.std.specs.Prelude.{Contains, count_by, ◌||◌}
use Rattle.std.proofs.lemmas.List.{length-map, get_or-map}
use Rattle.std.proofs.lemmas.List.Elements.{All-weaker, All-map}
use Rattle.quiver_paths.specs.declared.Path.{Path}
use Rattle.quiver_paths.specs.Path.{IsFactor}
use Rattle.quiver_paths.specs.PathOrder.{IsSmaller}
use Rattle.quiver_paths.specs.PathList.{paths_below}
use Rattle.quiver_paths.proofs.ListLemmas.{Contains-from_map}
use Rattle.path_algebra.specs.declared.Header.{Header}
use Rattle.path_algebra.specs.declared.rules.Rule.{Rule}
use Rattle.path_algebra.specs.Rules.{IsReducedRule, AreReducedRules}
use Rattle.path_algebra.specs.Occurring.{TipsAscend}
use Rattle.path_algebra.specs.declared.rules.Step.{Step}
use Rattle.path_reduction.specs.Gaps.{IsTidy, AreTidy}
use Rattle.path_reduction.specs.Derived.{IsDerivation, AreDerived}
use Rattle.path_basis.specs.Measure.{runs_in, has_tip_in, free_count}
use Rattle.path_basis.specs.Completing.{IsCompletion}
use Rattle.path_basis.specs.Pruning.{with_new_number, AreRenumbered}

pub renumbered_count : (old new : List Rule) → AreRenumbered old new → length new ≡ length old
renumbered_count old new same = ap length same.whole ∙ length-map old (with_new_number same.numbers)

still_ascending : (numbers : List ℕ) (old : List Rule) → TipsAscend old → TipsAscend (map (with_new_number numbers) old)
still_ascending numbers old ascending i j d l m =
    let f = with_new_number numbers in
    let count = length-map old f in
    subst (λ (x : Rule). IsSmaller x.tip (get_or (map f old) j d).tip) (sym (get_or-map f old i d d (omega (arith, l, m, count))))
    (subst (λ (x : Rule). IsSmaller (get_or old i d).tip x.tip) (sym (get_or-map f old j d d (omega (arith, m, count)))) (ascending i j d l (omega (arith, m, count))))

-- reduced rules with other steps are the reduced rules
pub still_reduced : (h : Header) (old new : List Rule) → AreRenumbered old new → AreReducedRules h old → AreReducedRules h new
still_reduced h old new same reduced =
    let f = with_new_number same.numbers in
    subst (AreReducedRules h) (sym same.whole) (record {
      ascending = still_ascending same.numbers old reduced.ascending;
      each = All-map (IsReducedRule h) f old (All-weaker (IsReducedRule h) (λ (x : Rule). IsReducedRule h (f x)) (λ x r. record { minimal = r.minimal; tail = r.tail; normal = r.normal; congruent = r.congruent }) old reduced.each);
      all = λ p m. subst (λ ps. Contains ps p) (tips f old (λ x. refl)) (reduced.all p m);
    })
  where
    tips : (f : Rule → Rule) (rules : List Rule) → ((x : Rule) → x.tip ≡ (f x).tip) → map (λ (x : Rule). x.tip) rules ≡ map (λ (x : Rule). x.tip) (map f rules)
    tips f [] e = refl
    tips f (x ∷ rules) e = ap₂ (λ p ps. p ∷ ps) (e x) (tips f rules e)

-- and tidy rules stay tidy
pub still_tidy : (h : Header) (old new : List Rule) → AreRenumbered old new → AreTidy h old → AreTidy h new
still_tidy h old new same tidy =
    let f = with_new_number same.numbers in
    subst (AreTidy h) (sym same.whole) (record {
      each = All-map (IsTidy h) f old (All-weaker (IsTidy h) (λ (x : Rule). IsTidy h (f x)) (λ x t. record { path = t.path; not_trivial = t.not_trivial; short = t.short; tail = t.tail; parallel = t.parallel; smaller = t.smaller }) old tidy.each);
      ascending = still_ascending same.numbers old tidy.ascending;
      apart = λ a b m n d g.
          let x = Contains-from_map f old a m in
          let y = Contains-from_map f old b n in
          let e : x.0.tip ≡ a.tip = ap (λ (r : Rule). r.tip) x.2 in
          let k : y.0.tip ≡ b.tip = ap (λ (r : Rule). r.tip) y.2 in
          tidy.apart x.0 y.0 x.1 y.1 (λ i. d (sym e ∙ i ∙ k)) (subst (IsFactor h.quiver x.0.tip) (sym k) (subst (λ p. IsFactor h.quiver p b.tip) (sym e) g));
    })

-- as many short paths have no tip
pub still_free : (h : Header) (old new : List Rule) → AreRenumbered old new → free_count h new ≡ free_count h old
unfolding free_count
still_free h old new same =
    ap (λ rules. count_by (λ (p : Path). not (has_tip_in rules p)) (paths_below h.quiver h.bound)) same.whole
    ∙ ap (λ (test : Path → Bool). count_by (λ (p : Path). not (test p)) (paths_below h.quiver h.bound)) (λ i p. tips_in same.numbers old p i)
  where
    tips_in : (numbers : List ℕ) (rules : List Rule) (p : Path) → has_tip_in (map (with_new_number numbers) rules) p ≡ has_tip_in rules p
    tips_in numbers [] p = refl
    tips_in numbers (x ∷ rules) p = ap (λ b. runs_in x.tip.arrows p.arrows || b) (tips_in numbers rules p)

-- where nothing was removed, a completion stays one once steps are dropped
pub still_completion : (h : Header) (old new removed : List Rule) (steps kept : List Step) → length removed ≡ 0 → AreRenumbered old new → length kept ≤ length steps → (IsDerivation h steps → IsDerivation h kept)
    → (AreDerived h steps old → AreDerived h kept new) → IsCompletion h old removed steps → IsCompletion h new removed kept
still_completion h old new removed steps kept none same fewer lawful derived completion = record {
  tidy = still_tidy h old new same completion.tidy;
  lawful = lawful completion.lawful;
  derived = derived completion.derived;
  removed_tidy = completion.removed_tidy;
  removed_derived = λ k d l. absurd (omega (arith, l, none));
  room = (let r = completion.room in let e = still_free h old new same in subst (λ n. length kept + 131136 * n ≤ 2 ^ 31 + 131136 * 4097) (sym e) (omega (arith, r, fewer)));
}

-- the same of what is read
pub dropped_completion : (h : Header) (old taken new removed : List Rule) (steps read_steps kept : List Step) → length removed ≡ 0 → taken ≡ old → read_steps ≡ steps → AreRenumbered taken new → length kept ≤ length read_steps
    → ((g : Header) → IsDerivation g read_steps → IsDerivation g kept) → ((g : Header) → AreDerived g read_steps taken → AreDerived g kept new) → IsCompletion h old removed steps → IsCompletion h new removed kept
dropped_completion h old taken new removed steps read_steps kept none e f same fewer lawful derived completion =
    still_completion h taken new removed read_steps kept none same fewer (lawful h) (derived h) (subst (λ xs. IsCompletion h xs removed read_steps) (sym e) (subst (IsCompletion h old removed) (sym f) completion))
