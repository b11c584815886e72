-- When occurrences of tips close, place by place in a path.
use Rattle.std.proofs.Common.{ℕ, zero, suc, ◌≡◌, ◌<◌, ◌≤◌, ◌+◌, ◌-◌, ◌*◌, inl, inr, List, [], ◌∷◌, ◌++◌, length, take, drop, get_or, refl, sym, ap, ap₂, ◌∙◌, subst, arith, length-append, add-mul, mul-le-mul_right, ◌^◌, ◌&&◌, not, Bool, true, false, eqb}
use Rattle.std.specs.Prelude.{Contains}
use Rattle.std.specs.List.{filter, flat_map, range_with_len}
use Rattle.std.proofs.Math.Seq.{take-append_seam, drop-append_seam}
use Rattle.std.proofs.lemmas.Bool.{cases_eq, cases_Bool}
use Rattle.std.proofs.lemmas.List.Concat.{flat_map-cons}
use Rattle.std.proofs.lemmas.List.FromFn.{length-range_with_len}
use Rattle.std.proofs.lemmas.List.Sums.{count_by-le-length, length-filter}
use Rattle.std.proofs.lemmas.List.{get_or_default, length-take-le, length-drop, length-map, drop-drop}
use Rattle.std.proofs.lemmas.List.Elements.{All-contains}
use Rattle.linear_algebra.specs.Field.{add}
use Rattle.linear_algebra.specs.FieldLaws.{one_mul, one-lt-order, add_zero}
use Rattle.quiver_paths.specs.declared.Path.{Path}
use Rattle.quiver_paths.specs.declared.Quiver.{Quiver}
use Rattle.quiver_paths.specs.Quiver.{arrow_count, target}
use Rattle.quiver_paths.specs.Path.{IsPath, Leads, path_length, concat, arrow_path, IsFactor}
use Rattle.quiver_paths.specs.PathOrder.{IsSmaller}
use Rattle.quiver_paths.specs.PathList.{ListsPathsBelow, paths_of_length, path_count, behind_arrow}
use Rattle.quiver_paths.proofs.PathLemmas.{Leads-start, Leads-one, IsFactor-arrows, length-factor, same_path}
use Rattle.quiver_paths.proofs.PathListLemmas.{smaller_places, paths_of_length-suc}
use Rattle.quiver_paths.proofs.PathCountLemmas.{path_count-more}
use Rattle.path_algebra.specs.declared.Term.{Term}
use Rattle.path_algebra.specs.declared.Header.{Header}
use Rattle.path_algebra.specs.declared.rules.Rule.{Rule}
use Rattle.path_algebra.specs.Allowed.{IsAllowed}
use Rattle.path_algebra.specs.Elements.{sum_of_terms}
use Rattle.std.specs.Cmp.Lexicographic.{pointwise}
use Rattle.std.specs.Prelude.{nat_eq, MatchBool}
use Rattle.path_algebra.specs.Elements.{same_path as path_same}
use Rattle.path_algebra.proofs.Between.{same_path-true}
use Rattle.path_algebra.specs.Words.{IsShortPath}
use Rattle.path_algebra.specs.Rules.{AreElementTerms}
use Rattle.path_algebra.specs.Reduction.{IsReduction, sum_between}
use Rattle.path_algebra.specs.ElementTerms.{terms_behind, terms_before}
use Rattle.path_algebra.specs.Occurring.{IsTipOf}
use Rattle.path_algebra.proofs.SumsOver.{linear-same}
use Rattle.path_algebra.proofs.TermLists.{terms_from_element, sum_of_terms-nil, AreElementTerms-nil, AreElementTerms-one}
use Rattle.path_algebra.proofs.Reducing.{becomes_below}
use Rattle.path_algebra.proofs.ReductionExists.{tips_are_once}
use Rattle.path_reduction.specs.Gaps.{IsTidy, AreTidy, Closes, HasNoGap, reduced_terms}
use Rattle.path_reduction.specs.Occurrences.{StandsAt, part_before, part_behind}
use Rattle.path_reduction.specs.Reducing.{AreReducedTo}
use Rattle.path_reduction.specs.declared.gaps.Gap.{Gap}
use Rattle.path_reduction.specs.FirstGaps.{ClosesAt, ClosesBefore, ClosesAll, ClosesTo, IsFirstGapIn, IsFirstGap, ForReductions, IsBecome, IsOpenAt}
use Rattle.path_reduction.proofs.TipStands.{IsPartedAt, stands_from_factor}
use Rattle.path_reduction.proofs.Extended.{tidy_rules, extended, extended-terms, extended-between, reduced_terms-nil}
use Rattle.path_reduction.proofs.Rewriting.{between_terms, reduced_terms-short}

-- ---- occurrences by their places

before_at : (h : Header) (rule : Rule) (p : Path) (f : IsFactor h.quiver rule.tip p) → part_before p rule (path_length f.before) ≡ f.before
before_at h rule p f =
    let arrows : take (path_length f.before) p.arrows ≡ f.before.arrows = ap (take (path_length f.before)) (IsFactor-arrows h.quiver rule.tip p f) ∙ take-append_seam f.before.arrows (rule.tip.arrows ++ f.behind.arrows) in
    same_path (part_before p rule (path_length f.before)) f.before (ap (λ (x : Path). x.start) f.whole) (sym f.meets_before) arrows

behind_at : (h : Header) (rule : Rule) (p : Path) (f : IsFactor h.quiver rule.tip p) → part_behind p rule (path_length f.before) ≡ f.behind
behind_at h rule p f =
    let arrows : drop (path_length f.before + path_length rule.tip) p.arrows ≡ f.behind.arrows =
    ap (drop (path_length f.before + path_length rule.tip)) (IsFactor-arrows h.quiver rule.tip p f)
    ∙ sym (drop-drop (path_length rule.tip) (path_length f.before) (f.before.arrows ++ (rule.tip.arrows ++ f.behind.arrows)))
    ∙ ap (drop (path_length rule.tip)) (drop-append_seam f.before.arrows (rule.tip.arrows ++ f.behind.arrows))
    ∙ drop-append_seam rule.tip.arrows f.behind.arrows in
    same_path (part_behind p rule (path_length f.before)) f.behind f.meets_behind (ap (λ (x : Path). x.end) f.whole) arrows

-- an occurrence closes where it does at its place
closes_from_place : (h : Header) (becomes : Path → Path → ℕ) (rule : Rule) (p : Path) (f : IsFactor h.quiver rule.tip p) → ClosesAt h becomes rule p (path_length f.before)
    → (r : Path) → sum_between h becomes f.before rule.tail.terms f.behind r ≡ becomes p r
closes_from_place h becomes rule p f c r = ap₂ (λ u v. sum_between h becomes u rule.tail.terms v r) (sym (before_at h rule p f)) (sym (behind_at h rule p f)) ∙ c r

pub closes_all_from : (h : Header) (rules : List Rule) (becomes : Path → Path → ℕ) (p : Path) → AreTidy h rules → ClosesBefore h rules becomes p (path_length p) → ClosesAll h rules becomes p
closes_all_from h rules becomes p tidy c rule m f =
    let t = All-contains (IsTidy h) rules rule tidy.each m in
    closes_from_place h becomes rule p f (c rule m (path_length f.before) (let l = length-factor h.quiver rule.tip p f in let k = t.not_trivial in omega arith) (stands_from_factor h p rule f))

-- ---- what the terms say

-- what the tail between two paths becomes
pub between_becomes : (h : Header) (rules : List Rule) (becomes : Path → Path → ℕ) (rule : Rule) (p : Path) (n : ℕ) → IsAllowed h → AreTidy h rules → IsReduction h rules becomes → IsTidy h rule → IsPartedAt h p rule n
    → (r : Path) → reduced_terms h becomes (terms_behind h.bound (part_before p rule n) (terms_before h.bound (part_behind p rule n) rule.tail.terms)) r
    ≡ sum_between h becomes (part_before p rule n) rule.tail.terms (part_behind p rule n) r
between_becomes h rules becomes rule p n ok tidy red t d r =
    let k = tidy_rules h rules ok tidy in
    let of = between_terms h rule p n t d in
    sym (extended-terms h rules k becomes red _ (λ y m. (All-contains (λ (b : Term). IsShortPath h b.path) _ y of.are.short m).path) r)
    ∙ linear-same (extended h becomes) _ _ of.value r
    ∙ extended-between h rules k becomes red (part_before p rule n) rule.tail.terms (part_behind p rule n) d.before_is d.behind_is (λ y m. (All-contains (λ (b : Term). IsShortPath h b.path) rule.tail.terms y t.tail.short m).path) r

-- reduced to the same terms, the occurrence closes
pub closes_if_same : (h : Header) (rules : List Rule) (rule : Rule) (p : Path) (n : ℕ) (given other whole : List Term) → IsAllowed h → AreTidy h rules → IsTidy h rule → IsPartedAt h p rule n
    → given ≡ terms_behind h.bound (part_before p rule n) (terms_before h.bound (part_behind p rule n) rule.tail.terms)
    → AreReducedTo h rules given other → IsBecome h rules p whole → other ≡ whole → ForReductions h rules (λ becomes. ClosesAt h becomes rule p n)
closes_if_same h rules rule p n given other whole ok tidy t d g reduced become e becomes red r =
    sym (between_becomes h rules becomes rule p n ok tidy red t d r)
    ∙ ap (λ ts. reduced_terms h becomes ts r) (sym g) ∙ sym (reduced.value becomes red r)
    ∙ ap (λ ts. sum_of_terms h.field h.bound ts r) e ∙ become.value becomes red r

pub same_if_closes : (h : Header) (rules : List Rule) (rule : Rule) (p : Path) (n : ℕ) (given other whole : List Term) → IsAllowed h → AreTidy h rules → IsTidy h rule → IsPartedAt h p rule n
    → given ≡ terms_behind h.bound (part_before p rule n) (terms_before h.bound (part_behind p rule n) rule.tail.terms)
    → AreReducedTo h rules given other → IsBecome h rules p whole → (becomes : Path → Path → ℕ) → IsReduction h rules becomes → ClosesAt h becomes rule p n → other ≡ whole
same_if_closes h rules rule p n given other whole ok tidy t d g reduced become becomes red c =
    terms_from_element h other whole reduced.are become.are (λ r.
    reduced.value becomes red r ∙ ap (λ ts. reduced_terms h becomes ts r) g ∙ between_becomes h rules becomes rule p n ok tidy red t d r ∙ c r ∙ sym (become.value becomes red r))

pub become_long : (h : Header) (rules : List Rule) (p : Path) → IsPath h.quiver p → h.bound ≤ path_length p → IsBecome h rules p []
become_long h rules p hp l = record { are = AreElementTerms-nil h; value = λ becomes red r. sum_of_terms-nil h.field h.bound r ∙ sym (red.long p hp l r) }

abbrev pub one_path : Path → List Term
one_path p = record { coef = 1; path = p } ∷ []

pub one_path_terms : (h : Header) (p : Path) → IsPath h.quiver p → path_length p < h.bound → AreElementTerms h (one_path p)
one_path_terms h p hp l = AreElementTerms-one h (record { coef = 1; path = p }) (record { nonzero = omega arith; small = one-lt-order h.field; short = record { path = hp; short = l } })

pub become_short : (h : Header) (rules : List Rule) (p : Path) (given terms : List Term) → IsAllowed h → AreTidy h rules → IsPath h.quiver p → path_length p < h.bound → given ≡ one_path p
    → AreReducedTo h rules given terms → IsBecome h rules p terms
become_short h rules p given terms ok tidy hp l g reduced = record {
  are = reduced.are;
  value = λ becomes red r.
      let below = becomes_below h rules (tidy_rules h rules ok tidy) becomes red p hp r in
      reduced.value becomes red r
      ∙ ap (λ ts. reduced_terms h becomes ts r) g
      ∙ reduced_terms-short h becomes (record { coef = 1; path = p }) [] r l
      ∙ ap₂ (add h.field) (one_mul h.field (becomes p r) below) (reduced_terms-nil h becomes r)
      ∙ add_zero h.field (becomes p r) below;
}

-- ---- tips by their arrows

-- the arrows from one place to another
pub slice_of : (p : Path) (n m : ℕ) → n + m ≤ path_length p → (xs : List ℕ) → xs ≡ p.arrows → take (n + m - n) (drop n xs) ≡ take m (drop n p.arrows)
slice_of p n m l xs e = ap₂ (λ k ys. take k (drop n ys)) (omega arith) e

-- two tips that have the same arrows are tips of one rule
pub same_rule : (h : Header) (rules : List Rule) → AreTidy h rules → (a b : Rule) → Contains rules a → Contains rules b → a.tip.arrows ≡ b.tip.arrows → a ≡ b
same_rule h rules tidy a b m n e =
    let ta = All-contains (IsTidy h) rules a tidy.each m in
    let tb = All-contains (IsTidy h) rules b tidy.each n in
    let leads : Leads h.quiver a.tip.start b.tip.arrows a.tip.end = subst (λ xs. Leads h.quiver a.tip.start xs a.tip.end) e ta.path.leads in
    let starts : a.tip.start ≡ b.tip.start = Leads-start h.quiver a.tip.start b.tip.start b.tip.arrows a.tip.end b.tip.end (let l = tb.not_trivial in omega arith) leads tb.path.leads in
    let ends : a.tip.end ≡ b.tip.end = Leads-one h.quiver b.tip.start b.tip.arrows a.tip.end b.tip.end (subst (λ k. Leads h.quiver k b.tip.arrows a.tip.end) starts leads) tb.path.leads in
    tips_are_once rules tidy.ascending a b m n (same_path a.tip b.tip starts ends e)

-- a tip with the arrows from one place on stands there
pub stands_from_slice : (rule : Rule) (p : Path) (n m : ℕ) (xs : List ℕ) → n + m ≤ path_length p → xs ≡ take m (drop n p.arrows) → rule.tip.arrows ≡ xs → StandsAt rule p.arrows n
stands_from_slice rule p n m xs l e i =
    let count : path_length rule.tip ≡ m = ap length (i ∙ e) ∙ length-take-le m (drop n p.arrows) (let k = length-drop n p.arrows in omega arith) in
    record { fits = omega (arith, l, count); same = i ∙ e ∙ ap (λ k. take k (drop n p.arrows)) (sym count) }

-- ---- the list of paths

-- no more paths have one arrow more than all shorter ones times the number of arrows
length-filter_le : {X : Type 0} (p : X → Bool) (xs : List X) → length (filter p xs) ≤ length xs
length-filter_le p xs = let a = length-filter p xs in let b = count_by-le-length p xs in omega arith

length-behind : (Q : Quiver) (ps : List Path) (a : ℕ) → length (behind_arrow Q ps a) ≤ length ps
length-behind Q ps a = let l = length-map (filter (λ (p : Path). eqb p.start (target Q a)) ps) (concat (arrow_path Q a)) in let f = length-filter_le (λ (p : Path). eqb p.start (target Q a)) ps in omega arith

length-flat_map_le : (Q : Quiver) (ps : List Path) (xs : List ℕ) → length (flat_map (behind_arrow Q ps) xs) ≤ length xs * length ps
length-flat_map_le Q ps [] = omega arith
length-flat_map_le Q ps (x ∷ xs) =
    let a = flat_map-cons (behind_arrow Q ps) x xs in
    let b = ap length a ∙ length-append (behind_arrow Q ps x) (flat_map (behind_arrow Q ps) xs) in
    let c = length-behind Q ps x in
    let d = length-flat_map_le Q ps xs in
    omega (arith, add-mul 1 (length xs) (length ps), b, c, d)

pub few_to_bound : (Q : Quiver) (t : ℕ) → arrow_count Q ≤ 128 → 0 < t → path_count Q t ≤ 4096 → path_count Q (t + 1) < 2 ^ 32
few_to_bound Q zero a l f = absurd (omega (arith, l))
few_to_bound Q (suc n) a l f =
    let level : length (paths_of_length Q n) ≤ 4096 = (let e = path_count-more Q n in let g : path_count Q (n + 1) ≤ 4096 = subst (λ k. path_count Q k ≤ 4096) (omega arith) f in omega (arith, e, g)) in
    let next : length (paths_of_length Q (suc n)) ≤ arrow_count Q * length (paths_of_length Q n) =
    (let e = ap length (paths_of_length-suc Q n) in let c = length-flat_map_le Q (paths_of_length Q n) (range_with_len 0 (arrow_count Q)) in
    let d = ap (λ k. k * length (paths_of_length Q n)) (length-range_with_len 0 (arrow_count Q)) in omega (arith, e, c, d)) in
    let most = mul-le-mul_right (length (paths_of_length Q n)) a in
    let e = path_count-more Q (suc n) in
    omega (arith, e, next, most, level, f)

-- ---- the gaps of a path and of all paths

-- no gap starts at the first n arrows, and none at the next
pub closes_more : (h : Header) (rules : List Rule) (p : Path) (n : ℕ) → ForReductions h rules (λ becomes. ClosesBefore h rules becomes p n)
    → ForReductions h rules (λ becomes. (rule : Rule) → Contains rules rule → StandsAt rule p.arrows n → ClosesAt h becomes rule p n)
    → ForReductions h rules (λ becomes. ClosesBefore h rules becomes p (n + 1))
closes_more h rules p n before at becomes red rule m k l s = elim (cases_eq k n) [
  | inl e ↦ subst (ClosesAt h becomes rule p) (sym e) (at becomes red rule m (subst (StandsAt rule p.arrows) e s))
  | inr d ↦ before becomes red rule m k (omega (arith, l, d)) s
]

-- a gap from the place of a rule
pub gap_from : (h : Header) (rules : List Rule) (p q : Path) (n place number : ℕ) → IsPath h.quiver p → path_length p ≤ h.bound → q ≡ p → number ≡ place + 1 → IsOpenAt h rules p n place
    → ForReductions h rules (λ becomes. ClosesBefore h rules becomes p n) → ForReductions h rules (λ becomes. IsFirstGapIn h rules becomes p (record { path = q; rule = number; at = n }))
gap_from h rules p q n place number hp l e c open_is before becomes red =
    let there : number - 1 ≡ place = omega (arith, c) in
    record {
      same = e;
      gap_is = record {
        path = subst (IsPath h.quiver) (sym e) hp;
        short = subst (λ x. path_length x ≤ h.bound) (sym e) l;
        numbered = record { from = omega (arith, c); to = (let i = open_is.inside in omega (arith, c, i)) };
        stands = λ d. subst (λ k. StandsAt (get_or rules k d) q.arrows n) (sym there) (subst (λ (x : Path). StandsAt (get_or rules place d) x.arrows n) (sym e) (open_is.stands d));
        differs = λ d closed. open_is.open_is becomes red d (subst (λ k. ClosesAt h becomes (get_or rules k d) p n) there (subst (λ x. ClosesAt h becomes (get_or rules (number - 1) d) x n) e closed));
      };
      first = before becomes red;
    }

-- all the paths of the list close, so there is no gap
pub no_gap_from : (h : Header) (rules : List Rule) (paths : List Path) → ListsPathsBelow h.quiver (h.bound + 1) paths
    → ((k : ℕ) (d : Path) → k < length paths → ForReductions h rules (λ becomes. ClosesAll h rules becomes (get_or paths k d))) → ForReductions h rules (HasNoGap h rules)
no_gap_from h rules paths listed all becomes red p hp l rule m =
    let place = listed.all p hp (omega (arith, l)) in
    subst (Closes h becomes rule) (place.2) (all place.0 p place.1 becomes red rule m)

-- the paths before this one close, so its gap is the first
pub first_gap_from : (h : Header) (rules : List Rule) (paths : List Path) (i : ℕ) (x : Path) (gap : Gap) → ListsPathsBelow h.quiver (h.bound + 1) paths → i < length paths → x ≡ get_or paths i x
    → ((k : ℕ) (d : Path) → k < i → ForReductions h rules (λ becomes. ClosesAll h rules becomes (get_or paths k d)))
    → ForReductions h rules (λ becomes. IsFirstGapIn h rules becomes x gap) → ForReductions h rules (λ becomes. IsFirstGap h rules becomes gap)
first_gap_from h rules paths i x gap listed l is before found becomes red =
    let g = found becomes red in
    record {
      gap_is = g.gap_is;
      least = λ p hp short smaller.
          let place = listed.all p hp (omega (arith, short)) in
          let here : get_or paths i p ≡ gap.path = get_or_default paths i p x l ∙ sym is ∙ sym g.same in
          let k = smaller_places paths listed.ascending place.0 i p place.1 l (subst (λ y. IsSmaller y (get_or paths i p)) (sym place.2) (subst (IsSmaller p) (sym here) smaller)) in
          subst (ClosesAll h rules becomes) place.2 (before place.0 p k becomes red);
      first = subst (λ y. ClosesBefore h rules becomes y gap.at) (sym g.same) g.first;
    }

-- ---- tips from one place to another

-- nothing ends where it starts
pub closes_to_start : (h : Header) (rules : List Rule) (p : Path) (n end : ℕ) → AreTidy h rules → end ≤ n → ForReductions h rules (ClosesTo h rules p n end)
closes_to_start h rules p n end tidy l becomes red rule m s e = absurd (let t = (All-contains (IsTidy h) rules rule tidy.each m).not_trivial in omega (arith, l, t, e))

pub closes_to_more : (h : Header) (rules : List Rule) (p : Path) (n last : ℕ) → ((end : ℕ) → end ≤ last → ForReductions h rules (ClosesTo h rules p n end)) → ForReductions h rules (ClosesTo h rules p n (last + 1))
    → (end : ℕ) → end ≤ last + 1 → ForReductions h rules (ClosesTo h rules p n end)
closes_to_more h rules p n last before at end l = elim (cases_eq end (last + 1)) [
  | inl e ↦ subst (λ k. ForReductions h rules (ClosesTo h rules p n k)) (sym e) at
  | inr d ↦ before end (omega (arith, l, d))
]

-- all ends are tried
pub closes_to_all : (h : Header) (rules : List Rule) (p : Path) (n last : ℕ) → path_length p ≤ last → ((end : ℕ) → end ≤ last → ForReductions h rules (ClosesTo h rules p n end))
    → ForReductions h rules (λ becomes. (rule : Rule) → Contains rules rule → StandsAt rule p.arrows n → ClosesAt h becomes rule p n)
closes_to_all h rules p n last l all becomes red rule m s = all (n + path_length rule.tip) (let f = s.fits in omega (arith, l, f)) becomes red rule m s refl

-- the slice from one place to another
slice_to : (p : Path) (rule : Rule) (n end : ℕ) (xs : List ℕ) → xs ≡ p.arrows → StandsAt rule p.arrows n → n + path_length rule.tip ≡ end → rule.tip.arrows ≡ take (end - n) (drop n xs)
slice_to p rule n end xs e s i = s.same ∙ ap₂ (λ k ys. take k (drop n ys)) (omega (arith, i)) (sym e)

pub closes_to_without : (h : Header) (rules : List Rule) (p : Path) (n end : ℕ) (xs : List ℕ) → xs ≡ p.arrows → (IsTipOf rules (take (end - n) (drop n xs)) → ⊥) → ForReductions h rules (ClosesTo h rules p n end)
closes_to_without h rules p n end xs e none becomes red rule m s i = absurd (none (record { rule = rule; listed = m; same = slice_to p rule n end xs e s i }))

pub closes_to_by : (h : Header) (rules : List Rule) (p : Path) (n end place : ℕ) (x : Rule) (xs : List ℕ) → AreTidy h rules → xs ≡ p.arrows → place < length rules → x ≡ get_or rules place x
    → ((d : Rule) → (get_or rules place d).tip.arrows ≡ take (end - n) (drop n xs)) → ForReductions h rules (λ becomes. ClosesAt h becomes x p n) → ForReductions h rules (ClosesTo h rules p n end)
closes_to_by h rules p n end place x xs tidy e l is same closed becomes red rule m s i =
    let one : x ≡ rule = same_rule h rules tidy x rule (place, l, sym is) m (ap (λ (r : Rule). r.tip.arrows) is ∙ same x ∙ sym (slice_to p rule n end xs e s i)) in
    subst (λ (r : Rule). ClosesAt h becomes r p n) one (closed becomes red)

pub stands_from_place : (p : Path) (rule : Rule) (n end : ℕ) (xs : List ℕ) → xs ≡ p.arrows → n ≤ end → end ≤ path_length p → rule.tip.arrows ≡ take (end - n) (drop n xs) → StandsAt rule p.arrows n
stands_from_place p rule n end xs e l k same =
    stands_from_slice rule p n (end - n) (take (end - n) (drop n xs)) (omega (arith, l, k)) (ap (λ ys. take (end - n) (drop n ys)) e) same

pub open_from : (h : Header) (rules : List Rule) (p : Path) (n end place : ℕ) (x : Rule) (xs : List ℕ) → xs ≡ p.arrows → n ≤ end → end ≤ path_length p → place < length rules → x ≡ get_or rules place x
    → ((d : Rule) → (get_or rules place d).tip.arrows ≡ take (end - n) (drop n xs)) → ForReductions h rules (λ becomes. ClosesAt h becomes x p n → ⊥) → IsOpenAt h rules p n place
open_from h rules p n end place x xs e l k inside is same open_is = record {
  inside = inside;
  stands = λ d. stands_from_place p (get_or rules place d) n end xs e l k (same d);
  open_is = λ becomes red d closed. open_is becomes red (subst (λ (r : Rule). ClosesAt h becomes r p n) (get_or_default rules place d x inside ∙ sym is) closed);
}

-- ---- terms, one by one

pub same_terms_at : (a b : List Term) (i : ℕ) (x y v w d : Term) → i < length a → i < length b → (get_or a i x).coef ≡ (get_or b i y).coef → (get_or a i v).path ≡ (get_or b i w).path → get_or a i d ≡ get_or b i d
same_terms_at a b i x y v w d k l e f =
    let coefs : (get_or a i d).coef ≡ (get_or b i d).coef = ap (λ (t : Term). t.coef) (get_or_default a i d x k) ∙ e ∙ ap (λ (t : Term). t.coef) (get_or_default b i y d l) in
    let paths : (get_or a i d).path ≡ (get_or b i d).path = ap (λ (t : Term). t.path) (get_or_default a i d v k) ∙ f ∙ ap (λ (t : Term). t.path) (get_or_default b i w d l) in
    λ j. record { coef = coefs j; path = paths j }

-- paths that the test finds equal
pub same_from_ne : (p r : Path) (b : Bool) → b ≡ not (eqb p.start r.start && (eqb p.end r.end && pointwise nat_eq p.arrows r.arrows)) → b ≡ false → p ≡ r
unfolding path_same
same_from_ne p r b e f = elim (cases_Bool (path_same p r)) [
  | inl t ↦ same_path-true p r t
  | inr n ↦ absurd (let g = sym f ∙ e ∙ ap not n in cc)
]

-- ---- answers of the test

pub closes_by_terms : (h : Header) (rules : List Rule) (rule : Rule) (p : Path) (n : ℕ) (given other read whole : List Term) (b : Bool) → IsAllowed h → AreTidy h rules → IsTidy h rule → IsPartedAt h p rule n
    → given ≡ terms_behind h.bound (part_before p rule n) (terms_before h.bound (part_behind p rule n) rule.tail.terms)
    → AreReducedTo h rules given other → IsBecome h rules p whole → read ≡ other → MatchBool b (read ≡ whole) (read ≡ whole → ⊥)
    → MatchBool b (ForReductions h rules (λ becomes. ClosesAt h becomes rule p n)) (ForReductions h rules (λ becomes. ClosesAt h becomes rule p n → ⊥))
closes_by_terms h rules rule p n given other read whole true ok tidy t d g reduced become e m = closes_if_same h rules rule p n given other whole ok tidy t d g reduced become (sym e ∙ m)
closes_by_terms h rules rule p n given other read whole false ok tidy t d g reduced become e m =
    λ becomes red c. m (e ∙ same_if_closes h rules rule p n given other whole ok tidy t d g reduced become becomes red c)

pub closed_true : (A B : Type 0) (b : Bool) → b ≡ true → MatchBool b A B → A
closed_true A B true e m = m
closed_true A B false e m = absurd (cc)

pub closed_false : (A B : Type 0) (b : Bool) → b ≡ false → MatchBool b A B → B
closed_false A B true e m = absurd (cc)
closed_false A B false e m = m

pub one_path_more : (h : Header) (rules : List Rule) (paths : List Path) (i : ℕ) (x : Path) → i < length paths → x ≡ get_or paths i x
    → ((k : ℕ) (d : Path) → k < i → ForReductions h rules (λ becomes. ClosesAll h rules becomes (get_or paths k d))) → ForReductions h rules (λ becomes. ClosesAll h rules becomes x)
    → (k : ℕ) (d : Path) → k < i + 1 → ForReductions h rules (λ becomes. ClosesAll h rules becomes (get_or paths k d))
one_path_more h rules paths i x l is before closed k d m becomes red = elim (cases_eq k i) [
  | inl e ↦ subst (ClosesAll h rules becomes) (is ∙ get_or_default paths i x d l ∙ ap (λ n. get_or paths n d) (sym e)) (closed becomes red)
  | inr n ↦ before k d (omega (arith, m, n)) becomes red
]
