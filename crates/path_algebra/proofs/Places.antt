-- Where a path stands among ascending paths, from a comparison with another.
use Rattle.std.proofs.Common.{ℕ, ◌≡◌, ◌<◌, inl, inr, List, length, get_or, sym, ◌∙◌, subst}
use Rattle.std.specs.declared.cmp.Ordering.{Ordering}
use Rattle.std.specs.declared.cmp.Ordering.TheVariants.{Less, Equal, Greater}
use Rattle.std.proofs.lemmas.Bool.{cases_order}
use Rattle.std.proofs.lemmas.List.{get_or_default}
use Rattle.quiver_paths.specs.declared.Path.{Path}
use Rattle.quiver_paths.specs.PathOrder.{path_cmp, IsSmaller, IsAscending}
use Rattle.quiver_paths.proofs.PathOrderLemmas.{IsSmaller-irreflexive, IsSmaller-asymmetric, IsSmaller-from_greater, greater_from_IsSmaller}

-- x stands at place m of the paths, p at place k
record Stand (ps : List Path) (m k : ℕ) (x p : Path) : Type 0 where
  ascending : IsAscending ps
  first_inside : m < length ps
  second_inside : k < length ps
  first : x ≡ get_or ps m x
  second : get_or ps k p ≡ p

earlier : (ps : List Path) (m k : ℕ) (x p : Path) → Stand ps m k x p → m < k → IsSmaller x p
earlier ps m k x p s l =
    subst (λ y. IsSmaller y p) (sym s.first) (subst (IsSmaller (get_or ps m x)) (get_or_default ps k x p s.second_inside ∙ s.second) (s.ascending m k x l s.second_inside))

later : (ps : List Path) (m k : ℕ) (x p : Path) → Stand ps m k x p → k < m → IsSmaller p x
later ps m k x p s l =
    subst (IsSmaller p) (sym s.first) (subst (λ y. IsSmaller y (get_or ps m x)) (get_or_default ps k x p s.second_inside ∙ s.second) (s.ascending k m x l s.first_inside))

same : (ps : List Path) (m k : ℕ) (x p : Path) → Stand ps m k x p → m ≡ k → x ≡ p
same ps m k x p s e = s.first ∙ (subst (λ j. get_or ps m x ≡ get_or ps j x) e (λ i. get_or ps m x) ∙ (get_or_default ps k x p s.second_inside ∙ s.second))

pub place-less : (ps : List Path) (m k : ℕ) (x p : Path) → IsAscending ps → m < length ps → k < length ps → x ≡ get_or ps m x → get_or ps k p ≡ p
    → path_cmp x p ≡ Less → m < k
place-less ps m k x p a i j e f c =
    let s : Stand ps m k x p = record { ascending = a; first_inside = i; second_inside = j; first = e; second = f } in
    elim (cases_order m k) [
      | inl q ↦ absurd (IsSmaller-irreflexive p (subst (λ y. IsSmaller y p) (same ps m k x p s q) c))
      | inr (inl l) ↦ l
      | inr (inr l) ↦ absurd (IsSmaller-asymmetric x p c (later ps m k x p s l))
    ]

pub place-greater : (ps : List Path) (m k : ℕ) (x p : Path) → IsAscending ps → m < length ps → k < length ps → x ≡ get_or ps m x → get_or ps k p ≡ p
    → path_cmp x p ≡ Greater → k < m
place-greater ps m k x p a i j e f c =
    let s : Stand ps m k x p = record { ascending = a; first_inside = i; second_inside = j; first = e; second = f } in
    elim (cases_order m k) [
      | inl q ↦ absurd (IsSmaller-irreflexive p (subst (IsSmaller p) (same ps m k x p s q) (IsSmaller-from_greater x p c)))
      | inr (inl l) ↦ absurd (IsSmaller-asymmetric x p (earlier ps m k x p s l) (IsSmaller-from_greater x p c))
      | inr (inr l) ↦ l
    ]

pub place-equal : (ps : List Path) (m k : ℕ) (x p : Path) → IsAscending ps → m < length ps → k < length ps → x ≡ get_or ps m x → get_or ps k p ≡ p
    → path_cmp x p ≡ Equal → get_or ps m p ≡ p
place-equal ps m k x p a i j e f c =
    let s : Stand ps m k x p = record { ascending = a; first_inside = i; second_inside = j; first = e; second = f } in
    elim (cases_order m k) [
      | inl q ↦ get_or_default ps m p x i ∙ (sym e ∙ same ps m k x p s q)
      | inr (inl l) ↦ absurd (less_not_equal (earlier ps m k x p s l) c)
      | inr (inr l) ↦ absurd (greater_not_equal (greater_from_IsSmaller x p (later ps m k x p s l)) c)
    ]
  where
    less_not_equal : {o : Ordering} → o ≡ Less → o ≡ Equal → ⊥
    less_not_equal b d = cc

    greater_not_equal : {o : Ordering} → o ≡ Greater → o ≡ Equal → ⊥
    greater_not_equal b d = cc
