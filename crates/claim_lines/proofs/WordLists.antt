-- Ascending words and a path behind them.
use Rattle.std.proofs.Common.{◌≡◌, ◌≢◌, ℕ, ◌<◌, ◌+◌, ◌-◌, zero, suc, refl, List, [], ◌∷◌, ◌++◌, length, get_or, All, inl, inr, sym, subst, arith}
use Rattle.std.specs.Prelude.{Contains}
use Rattle.std.proofs.lemmas.Bool.{cases_lt}
use Rattle.std.proofs.lemmas.List.{get_or_read_under}
use Rattle.quiver_paths.specs.declared.Path.{Path}
use Rattle.quiver_paths.specs.PathOrder.{IsSmaller, IsAscending}
use Rattle.quiver_paths.proofs.ListLemmas.{AllPairs-nil, AllPairs-front, AllPairs-append, Contains-nil}
use Rattle.std.proofs.lemmas.List.Elements.{Contains-get_or}
use Rattle.quiver_paths.proofs.PathOrderLemmas.{IsSmaller-irreflexive, IsSmaller-trans}
use Rattle.path_algebra.proofs.TermLists.{Contains-one}
use Rattle.claim_lines.specs.Behind.{IsBehind}

pub behind_none : (words : List Path) (p : Path) → IsAscending words → length words ≡ 0 → IsBehind words p
behind_none words p are none = record { ascending = are; greater = λ x m. let l = m.1 in absurd (omega (arith, l, none)) }

-- what is greater than the last is greater than each
pub behind_last : (words : List Path) (n : ℕ) (p : Path) → IsAscending words → n + 1 ≡ length words → ((d : Path) → IsSmaller (get_or words n d) p) → IsBehind words p
behind_last words n p are last less = record { ascending = are; greater = greater }
  where
    greater : (x : Path) → Contains words x → IsSmaller x p
    greater x (k, l, e) =
        elim (cases_lt k n) [
          | inl m ↦ IsSmaller-trans x (get_or words n x) p (subst (λ y. IsSmaller y (get_or words n x)) e (are k n x m (omega (arith, last)))) (less x)
          | inr m ↦
              let same : k ≡ n = omega (arith, l, last, m) in
              subst (λ y. IsSmaller y p) e (subst (λ j. IsSmaller (get_or words j x) p) (sym same) (less x))
        ]

pub behind_differs : (words : List Path) (p : Path) → IsBehind words p → All (λ (other : Path). other ≢ p) words
behind_differs words p b = λ k d l e. IsSmaller-irreflexive p (subst (λ x. IsSmaller x p) e (b.greater (get_or words k d) (Contains-get_or words k d l)))

pub behind_ascends : (words : List Path) (p : Path) → IsBehind words p → IsAscending (words ++ p ∷ [])
behind_ascends words p b =
    AllPairs-append IsSmaller words (p ∷ []) b.ascending (AllPairs-front IsSmaller p [] (λ y m. absurd (Contains-nil y m)) (AllPairs-nil IsSmaller))
    (λ x y m n. subst (IsSmaller x) (Contains-one p y n) (b.greater x m))

-- the last as it is read
pub behind_read : (words paths : List Path) (count : ℕ) (last p : Path) → words ≡ paths → IsAscending paths → (count ≡ 0 → ⊥) → count ≡ length paths → last ≡ get_or paths (count - 1) last → IsSmaller last p → IsBehind words p
behind_read words paths count last p same are some counted read less =
    subst (λ (xs : List Path). IsBehind xs p) (sym same)
    (behind_last paths (count - 1) p are (let n : 0 < count = above count some in omega (arith, n, counted))
    (λ d. subst (λ x. IsSmaller x p) (get_or_read_under paths (count - 1) count last d read (let n : 0 < count = above count some in omega (arith, n)) counted) less))
  where
    above : (n : ℕ) → (n ≡ 0 → ⊥) → 0 < n
    above zero h = absurd (h refl)
    above (suc n) h = omega arith
