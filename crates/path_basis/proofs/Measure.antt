-- How many short paths have no tip as a factor; and that there are no more tidy rules than short paths.
use Rattle.std.proofs.Common.{◌≡◌, ◌<◌, ◌≤◌, inl, inr, List, [], ◌∷◌, Bool, true, false, not, length, map, sym, ap, ◌∙◌, subst, arith}
use Rattle.std.specs.Prelude.{Contains, All}
use Rattle.std.specs.List.{list_any}
use Rattle.std.proofs.lemmas.Bool.{or_cases, or_left, or_right, not-true, not_from_false, not_from_true, cases_Bool, both_ways}
use Rattle.std.proofs.lemmas.List.{length-map}
use Rattle.std.proofs.lemmas.List.Elements.{All-contains}
use Rattle.std.proofs.lemmas.List.Sums.{count_by-le-length}
use Rattle.quiver_paths.specs.declared.Path.{Path}
use Rattle.quiver_paths.specs.Path.{IsPath, path_length}
use Rattle.quiver_paths.specs.PathOrder.{IsSmaller, IsAscending}
use Rattle.quiver_paths.specs.PathList.{paths_below, path_count}
use Rattle.quiver_paths.proofs.ListLemmas.{Contains-nil, Contains-cons_cases, Contains-head, Contains-behind, Contains-from_map, AllPairs-map, AllPairs-head, AllPairs-tail}
use Rattle.quiver_paths.proofs.PathListLemmas.{lists_paths_below}
use Rattle.quiver_paths.proofs.PathOrderLemmas.{IsSmaller-irreflexive, IsSmaller-asymmetric}
use Rattle.path_algebra.specs.declared.Header.{Header}
use Rattle.path_algebra.specs.declared.rules.Rule.{Rule}
use Rattle.path_algebra.specs.Allowed.{IsAllowed}
use Rattle.path_algebra.specs.Reduction.{HasNoTip}
use Rattle.path_reduction.specs.Gaps.{IsTidy, AreTidy}
use Rattle.path_basis.specs.Measure.{runs_in, has_tip_in, free_count}
use Rattle.path_reduction.proofs.Rewriting.{count_by-lt}
use Rattle.path_basis.proofs.Runs.{runs_in-trans, factor_from_run, run_from_factor}

-- ---- tests of lists

-- a member passes
record Passes {X : Type 0} (test : X → Bool) (xs : List X) : Type 0 where
  item : X
  listed : Contains xs item
  passes : test item ≡ true

list_any-passes : {X : Type 0} (test : X → Bool) (xs : List X) → list_any test xs ≡ true → Passes test xs
list_any-passes test [] e = absurd (cc)
list_any-passes test (x ∷ xs) e = elim (or_cases _ _ e) [
  | inl s ↦ record { item = x; listed = Contains-head x xs; passes = s }
  | inr r ↦ (let t = list_any-passes test xs r in record { item = t.item; listed = Contains-behind x xs t.item t.listed; passes = t.passes })
]

passes-list_any : {X : Type 0} (test : X → Bool) (xs : List X) (x : X) → Contains xs x → test x ≡ true → list_any test xs ≡ true
passes-list_any test [] x m e = absurd (Contains-nil x m)
passes-list_any test (y ∷ xs) x m e = elim (Contains-cons_cases y xs x m) [
  | inl i ↦ or_left _ _ (ap test i ∙ e)
  | inr n ↦ or_right _ _ (passes-list_any test xs x n e)
]

-- ---- the count

pub has_tip_from_member : (rules : List Rule) (rule : Rule) (p : Path) → Contains rules rule → runs_in rule.tip.arrows p.arrows ≡ true → has_tip_in rules p ≡ true
has_tip_from_member rules rule p m e = passes-list_any (λ (x : Rule). runs_in x.tip.arrows p.arrows) rules rule m e

-- the test says whether a tip is a factor
pub no_tip_from_test : (h : Header) (rules : List Rule) (p : Path) → All (IsTidy h) rules → has_tip_in rules p ≡ false → HasNoTip h rules p
no_tip_from_test h rules p tidy e rule m f =
    both_ways _ e (passes-list_any (λ (x : Rule). runs_in x.tip.arrows p.arrows) rules rule m (run_from_factor h rule p (All-contains (IsTidy h) rules rule tidy m) f))

pub test_from_no_tip : (h : Header) (rules : List Rule) (p : Path) → IsAllowed h → All (IsTidy h) rules → IsPath h.quiver p → HasNoTip h rules p → has_tip_in rules p ≡ false
test_from_no_tip h rules p ok tidy hp n = elim (cases_Bool (has_tip_in rules p)) [
  | inl e ↦ (let t = list_any-passes (λ (x : Rule). runs_in x.tip.arrows p.arrows) rules e in
      absurd (n t.item t.listed (factor_from_run h t.item p ok (All-contains (IsTidy h) rules t.item tidy t.listed) hp t.passes)))
  | inr e ↦ e
]

-- each old rule is there, or the run of a new one is among the arrows of its tip
pub record Covers (old new : List Rule) : Type 0 where
  pub some : (x : Rule) → Contains new x → 0 < path_length x.tip
  pub by : (x : Rule) → Contains old x → has_tip_in new x.tip ≡ true

pub has_tip_in-covers : (old new : List Rule) (p : Path) → Covers old new → has_tip_in old p ≡ true → has_tip_in new p ≡ true
has_tip_in-covers old new p c e =
    let t = list_any-passes (λ (x : Rule). runs_in x.tip.arrows p.arrows) old e in
    let s = list_any-passes (λ (x : Rule). runs_in x.tip.arrows t.item.tip.arrows) new (c.by t.item t.listed) in
    passes-list_any (λ (x : Rule). runs_in x.tip.arrows p.arrows) new s.item s.listed (runs_in-trans s.item.tip.arrows t.item.tip.arrows p.arrows (c.some s.item s.listed) s.passes t.passes)

free_before : (old new : List Rule) (p : Path) → Covers old new → has_tip_in new p ≡ false → has_tip_in old p ≡ false
free_before old new p c n = elim (cases_Bool (has_tip_in old p)) [ inl e ↦ absurd (both_ways _ n (has_tip_in-covers old new p c e)) | inr e ↦ e ]

pub free_count-le : (h : Header) (rules : List Rule) → free_count h rules ≤ path_count h.quiver h.bound
unfolding free_count
free_count-le h rules = count_by-le-length (λ (p : Path). not (has_tip_in rules p)) (paths_below h.quiver h.bound)

-- fewer short paths are free where a free one is no longer
pub free_count-lt : (h : Header) (old new : List Rule) (p : Path) → IsAllowed h → Covers old new → IsPath h.quiver p → path_length p < h.bound → has_tip_in old p ≡ false → has_tip_in new p ≡ true
    → free_count h new < free_count h old
unfolding free_count
free_count-lt h old new p ok c hp s e f =
    count_by-lt (λ (r : Path). not (has_tip_in new r)) (λ (r : Path). not (has_tip_in old r)) (paths_below h.quiver h.bound)
    (λ r n. not_from_false (has_tip_in old r) (free_before old new r c (not-true (has_tip_in new r) n)))
    p ((lists_paths_below h.quiver ok.quiver.ends h.bound).all p hp s) (not_from_true (has_tip_in new p) f) (not_from_false (has_tip_in old p) e)

-- ---- how many rules

-- an ascending list of members of another is no longer
pub length-ascending : (ps qs : List Path) → IsAscending ps → IsAscending qs → ((p : Path) → Contains ps p → Contains qs p) → length ps ≤ length qs
length-ascending [] qs h g to = omega arith
length-ascending (p ∷ ps) [] h g to = absurd (Contains-nil p (to p (Contains-head p ps)))
length-ascending (p ∷ ps) (q ∷ qs) h g to = elim (Contains-cons_cases q qs p (to p (Contains-head p ps))) [
  | inl e ↦
      (let rest = length-ascending ps qs (AllPairs-tail IsSmaller p ps h) (AllPairs-tail IsSmaller q qs g)
      (λ r m. elim (Contains-cons_cases q qs r (to r (Contains-behind p ps r m))) [
        | inl i ↦ absurd (IsSmaller-irreflexive q (subst (λ x. IsSmaller x q) (sym e) (subst (IsSmaller p) (sym i) (AllPairs-head IsSmaller p ps h r m))))
        | inr n ↦ n
      ]) in
      omega arith)
  | inr l ↦
      (let rest = length-ascending (p ∷ ps) qs h (AllPairs-tail IsSmaller q qs g)
      (λ r m. elim (Contains-cons_cases q qs r (to r m)) [
        | inl i ↦ elim (Contains-cons_cases p ps r m) [
          | inl j ↦ subst (Contains qs) j l
          | inr n ↦ absurd (IsSmaller-asymmetric p q (subst (IsSmaller p) (sym i) (AllPairs-head IsSmaller p ps h r n)) (AllPairs-head IsSmaller q qs g p l))
        ]
        | inr n ↦ n
      ]) in
      omega arith)
]

pub few_rules : (h : Header) (rules : List Rule) → IsAllowed h → AreTidy h rules → length rules ≤ path_count h.quiver h.bound
few_rules h rules ok tidy =
    let lists = lists_paths_below h.quiver ok.quiver.ends h.bound in
    let tips : List Path = map (λ (x : Rule). x.tip) rules in
    let few = length-ascending tips (paths_below h.quiver h.bound) (AllPairs-map IsSmaller (λ (x : Rule). x.tip) rules tidy.ascending) lists.ascending
    (λ p m. let found = Contains-from_map (λ (x : Rule). x.tip) rules p m in
    let t = All-contains (IsTidy h) rules found.0 tidy.each found.1 in
    subst (Contains (paths_below h.quiver h.bound)) found.2 (lists.all found.0.tip t.path t.short)) in
    subst (λ n. n ≤ path_count h.quiver h.bound) (length-map rules (λ (x : Rule). x.tip)) few
