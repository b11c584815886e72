-- Where arrows stand among ascending tips and words.
use Rattle.std.proofs.Common.{ℕ, ◌≡◌, ◌<◌, inl, inr, List, length, get_or, refl, sym, ap, ◌∙◌, subst}
use Rattle.std.specs.Ordering.{ordering_then, nat_cmp}
use Rattle.std.specs.declared.cmp.Ordering.{Ordering}
use Rattle.std.specs.declared.cmp.Ordering.TheVariants.{Less, Equal, Greater}
use Rattle.std.specs.Cmp.Lexicographic.{slice_cmp}
use Rattle.std.proofs.lemmas.Bool.{cases_order}
use Rattle.std.proofs.lemmas.List.{get_or_default}
use Rattle.quiver_paths.specs.declared.Path.{Path}
use Rattle.quiver_paths.specs.PathOrder.{path_cmp, IsSmaller}
use Rattle.quiver_paths.proofs.PathOrderLemmas.{path_cmp-itself, path_cmp-Equal, IsSmaller-asymmetric, IsSmaller-from_greater}
use Rattle.path_algebra.specs.declared.rules.Rule.{Rule}
use Rattle.path_algebra.specs.Occurring.{arrows_cmp, TipsAscend, IsTipOf}

-- ---- comparisons one behind the other

then_assoc : (a b c : Ordering) → ordering_then (ordering_then a b) c ≡ ordering_then a (ordering_then b c)
then_assoc Less b c = refl
then_assoc Equal b c = refl
then_assoc Greater b c = refl

less_then : (o c : Ordering) → o ≡ Less → ordering_then o c ≡ Less
less_then Less c e = refl
less_then Equal c e = absurd (cc)
less_then Greater c e = absurd (cc)

greater_then : (o c : Ordering) → o ≡ Greater → ordering_then o c ≡ Greater
greater_then Less c e = absurd (cc)
greater_then Equal c e = absurd (cc)
greater_then Greater c e = refl

first_equal : (o c : Ordering) → ordering_then o c ≡ Equal → o ≡ Equal
first_equal Less c e = absurd (cc)
first_equal Equal c e = refl
first_equal Greater c e = absurd (cc)

-- paths are compared by their arrows and then by their starts
pub path_cmp-by_arrows : (p r : Path) → path_cmp p r ≡ ordering_then (arrows_cmp p.arrows r.arrows) (nat_cmp p.start r.start)
unfolding path_cmp
path_cmp-by_arrows p r = sym (then_assoc (nat_cmp (length p.arrows) (length r.arrows)) (slice_cmp nat_cmp p.arrows r.arrows) (nat_cmp p.start r.start))

arrows_less : (p r : Path) → arrows_cmp p.arrows r.arrows ≡ Less → IsSmaller p r
arrows_less p r e = path_cmp-by_arrows p r ∙ less_then _ _ e

arrows_greater : (p r : Path) → arrows_cmp p.arrows r.arrows ≡ Greater → IsSmaller r p
arrows_greater p r e = IsSmaller-from_greater p r (path_cmp-by_arrows p r ∙ greater_then _ _ e)

-- some path with these arrows
abbrev bare : List ℕ → Path
bare xs = record { start = 0; end = 0; arrows = xs }

arrows_cmp-itself : (xs : List ℕ) → arrows_cmp xs xs ≡ Equal
arrows_cmp-itself xs = first_equal _ _ (sym (path_cmp-by_arrows (bare xs) (bare xs)) ∙ path_cmp-itself (bare xs))

arrows_cmp-Equal : (xs ys : List ℕ) → arrows_cmp xs ys ≡ Equal → xs ≡ ys
arrows_cmp-Equal xs ys e =
    let both : path_cmp (bare xs) (bare ys) ≡ Equal = path_cmp-by_arrows (bare xs) (bare ys) ∙ ap (λ o. ordering_then o (nat_cmp 0 0)) e in
    (path_cmp-Equal (bare xs) (bare ys) both).0

less_not_equal : {o : Ordering} → o ≡ Less → o ≡ Equal → ⊥
less_not_equal b d = cc

greater_not_equal : {o : Ordering} → o ≡ Greater → o ≡ Equal → ⊥
greater_not_equal b d = cc

-- ---- among ascending tips

-- the tip at place m is x's, and that at place k has these arrows
pub record TipsStand (rules : List Rule) (arrows : List ℕ) (m k : ℕ) (x d : Rule) : Type 0 where
  pub ascending : TipsAscend rules
  pub first_inside : m < length rules
  pub second_inside : k < length rules
  pub first : x ≡ get_or rules m x
  pub second : (get_or rules k d).tip.arrows ≡ arrows

pub tip-less : (rules : List Rule) (arrows : List ℕ) (m k : ℕ) (x d : Rule) → TipsStand rules arrows m k x d → arrows_cmp x.tip.arrows arrows ≡ Less → m < k
tip-less rules arrows m k x d s e =
    let other : Rule = get_or rules k d in
    let first : x ≡ get_or rules m d = s.first ∙ get_or_default rules m x d s.first_inside in
    let less : arrows_cmp x.tip.arrows other.tip.arrows ≡ Less = ap (arrows_cmp x.tip.arrows) s.second ∙ e in
    elim (cases_order m k) [
      | inl q ↦ absurd (less_not_equal less (ap (λ (r : Rule). arrows_cmp r.tip.arrows other.tip.arrows) (first ∙ ap (λ i. get_or rules i d) q) ∙ arrows_cmp-itself other.tip.arrows))
      | inr (inl l) ↦ l
      | inr (inr l) ↦ absurd (IsSmaller-asymmetric x.tip other.tip (arrows_less x.tip other.tip less)
          (subst (λ (r : Rule). IsSmaller other.tip r.tip) (sym first) (s.ascending k m d l s.first_inside)))
    ]

pub tip-greater : (rules : List Rule) (arrows : List ℕ) (m k : ℕ) (x d : Rule) → TipsStand rules arrows m k x d → arrows_cmp x.tip.arrows arrows ≡ Greater → k < m
tip-greater rules arrows m k x d s e =
    let other : Rule = get_or rules k d in
    let first : x ≡ get_or rules m d = s.first ∙ get_or_default rules m x d s.first_inside in
    let greater : arrows_cmp x.tip.arrows other.tip.arrows ≡ Greater = ap (arrows_cmp x.tip.arrows) s.second ∙ e in
    elim (cases_order m k) [
      | inl q ↦ absurd (greater_not_equal greater (ap (λ (r : Rule). arrows_cmp r.tip.arrows other.tip.arrows) (first ∙ ap (λ i. get_or rules i d) q) ∙ arrows_cmp-itself other.tip.arrows))
      | inr (inl l) ↦ absurd (IsSmaller-asymmetric x.tip other.tip
          (subst (λ (r : Rule). IsSmaller r.tip other.tip) (sym first) (s.ascending m k d l s.second_inside))
          (arrows_greater x.tip other.tip greater))
      | inr (inr l) ↦ l
    ]

pub tip-equal : (rules : List Rule) (arrows : List ℕ) (m : ℕ) (x d : Rule) → m < length rules → x ≡ get_or rules m x → arrows_cmp x.tip.arrows arrows ≡ Equal → (get_or rules m d).tip.arrows ≡ arrows
tip-equal rules arrows m x d l e o = ap (λ (r : Rule). r.tip.arrows) (sym (e ∙ get_or_default rules m x d l)) ∙ arrows_cmp-Equal x.tip.arrows arrows o

-- the rule at a place has a tip
pub tip_of_place : (rules : List Rule) (arrows : List ℕ) (m : ℕ) (d : Rule) → m < length rules → (get_or rules m d).tip.arrows ≡ arrows → IsTipOf rules arrows
tip_of_place rules arrows m d l e = record { rule = get_or rules m d; listed = (m, l, get_or_default rules m (get_or rules m d) d l); same = e }
