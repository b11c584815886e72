-- Combinations of words, seen at a path.
use Rattle.std.proofs.Common.{ℕ, ◌≡◌, ◌≢◌, ◌<◌, inl, inr, List, [], ◌∷◌, length, map, All, refl, sym, ap, ap₂, ◌∙◌, subst, arith}
use Rattle.std.specs.Prelude.{Contains}
use Rattle.std.proofs.lemmas.List.Elements.{All-head, All-tail}
use Rattle.linear_algebra.specs.Field.{Gf, order, add, mul}
use Rattle.linear_algebra.specs.FieldLaws.{add_zero, zero_add, mul_zero, add_zero_zero, mul_one}
use Rattle.quiver_paths.specs.declared.Path.{Path}
use Rattle.quiver_paths.specs.Path.{path_length}
use Rattle.quiver_paths.specs.PathOrder.{IsSmaller, IsAscending}
use Rattle.quiver_paths.proofs.PathOrderLemmas.{IsSmaller-irreflexive}
use Rattle.quiver_paths.proofs.ListLemmas.{Contains-head, Contains-behind, Contains-cons_cases, Contains-nil, AllPairs-head, AllPairs-tail}
use Rattle.path_algebra.specs.declared.Header.{Header}
use Rattle.path_algebra.specs.Elements.{combination}
use Rattle.path_algebra.proofs.Between.{cases_path}
use Rattle.path_algebra.proofs.ElementLemmas.{path_element-self, path_element-other, combination-below}

-- an element that is a combination of some words
pub record IsCombination (h : Header) (words : List Path) (x : Path → ℕ) : Type 0 where
  pub small : (r : Path) → x r < order h.field
  pub outside : (r : Path) → (Contains words r → ⊥) → x r ≡ 0

-- a combination is zero at a path that is none of its words
pub combination-outside : (q : Gf) (t : ℕ) (c : List ℕ) (words : List Path) (p : Path) → (Contains words p → ⊥) → combination q t c words p ≡ 0
unfolding combination
combination-outside q t [] words p n = refl
combination-outside q t (a ∷ c) [] p n = refl
combination-outside q t (a ∷ c) (w ∷ words) p n =
    ap₂ (add q) (ap (mul q a) (path_element-other t w p (λ e. n (subst (Contains (w ∷ words)) e (Contains-head w words)))) ∙ mul_zero q a)
    (combination-outside q t c words p (λ m. n (Contains-behind w words p m)))
    ∙ add_zero_zero q

-- where it is not zero
pub combination_support : (q : Gf) (t : ℕ) (c : List ℕ) (words : List Path) (p : Path) → combination q t c words p ≢ 0 → Contains words p
unfolding combination
combination_support q t [] words p n = absurd (n refl)
combination_support q t (a ∷ c) [] p n = absurd (n refl)
combination_support q t (a ∷ c) (w ∷ words) p n = elim (cases_path w p) [
  | inl e ↦ subst (Contains (w ∷ words)) e (Contains-head w words)
  | inr d ↦ Contains-behind w words p (combination_support q t c words p
      (λ z. n (ap₂ (add q) (ap (mul q a) (path_element-other t w p d) ∙ mul_zero q a) z ∙ add_zero_zero q)))
]

-- the words are short and different
pub record AreDistinct (t : ℕ) (words : List Path) : Type 0 where
  pub ascending : IsAscending words
  pub short : (p : Path) → Contains words p → path_length p < t

first_absent : (w : Path) (words : List Path) → IsAscending (w ∷ words) → Contains words w → ⊥
first_absent w words a m = IsSmaller-irreflexive w (AllPairs-head IsSmaller w words a w m)

AreDistinct-tail : (t : ℕ) (w : Path) (words : List Path) → AreDistinct t (w ∷ words) → AreDistinct t words
AreDistinct-tail t w words d = record { ascending = AllPairs-tail IsSmaller w words d.ascending; short = λ p m. d.short p (Contains-behind w words p m) }

-- at the first word
combination-first : (q : Gf) (t a : ℕ) (c : List ℕ) (w : Path) (words : List Path) → AreDistinct t (w ∷ words) → a < order q
    → combination q t (a ∷ c) (w ∷ words) w ≡ a
unfolding combination
combination-first q t a c w words d s =
    ap₂ (add q) (ap (mul q a) (path_element-self t w (d.short w (Contains-head w words))) ∙ mul_one q a s) (combination-outside q t c words w (first_absent w words d.ascending))
    ∙ add_zero q a s

-- at another word
combination-later : (q : Gf) (t a : ℕ) (c : List ℕ) (w : Path) (words : List Path) (p : Path) → (w ≡ p → ⊥)
    → combination q t (a ∷ c) (w ∷ words) p ≡ combination q t c words p
unfolding combination
combination-later q t a c w words p n =
    ap (λ s. add q s (combination q t c words p)) (ap (mul q a) (path_element-other t w p n) ∙ mul_zero q a) ∙ zero_add q _ (combination-below q t c words p)

-- the combination of distinct words with the coefficients that a function gives them is that function there
pub combination-map : (q : Gf) (t : ℕ) (f : Path → ℕ) (words : List Path) (p : Path) → AreDistinct t words → ((r : Path) → f r < order q) → Contains words p
    → combination q t (map f words) words p ≡ f p
combination-map q t f [] p d s m = absurd (Contains-nil p m)
combination-map q t f (w ∷ words) p d s m = elim (cases_path w p) [
  | inl e ↦ subst (λ r. combination q t (f w ∷ map f words) (w ∷ words) r ≡ f r) e (combination-first q t (f w) (map f words) w words d (s w))
  | inr n ↦ combination-later q t (f w) (map f words) w words p n
      ∙ combination-map q t f words p (AreDistinct-tail t w words d) s (elim (Contains-cons_cases w words p m) [ inl e ↦ absurd (n e) | inr r ↦ r ])
]

pub map-same : (f g : Path → ℕ) (xs : List Path) → ((p : Path) → Contains xs p → f p ≡ g p) → map f xs ≡ map g xs
map-same f g [] h = refl
map-same f g (x ∷ xs) h = ap₂ (λ b bs. b ∷ bs) (h x (Contains-head x xs)) (map-same f g xs (λ p m. h p (Contains-behind x xs p m)))

-- the coefficients are read off the combination at the words
pub coefficients_from_combination : (q : Gf) (t : ℕ) (words : List Path) (c : List ℕ) → AreDistinct t words → length c ≡ length words → All (λ a. a < order q) c
    → map (combination q t c words) words ≡ c
coefficients_from_combination q t [] [] d e s = refl
coefficients_from_combination q t [] (a ∷ c) d e s = absurd (omega arith)
coefficients_from_combination q t (w ∷ words) [] d e s = absurd (omega arith)
coefficients_from_combination q t (w ∷ words) (a ∷ c) d e s =
    ap₂ (λ b bs. b ∷ bs) (combination-first q t a c w words d (All-head (λ b. b < order q) a c s))
    (map-same (combination q t (a ∷ c) (w ∷ words)) (combination q t c words) words (λ p m. combination-later q t a c w words p (λ e2. first_absent w words d.ascending (subst (Contains words) (sym e2) m)))
    ∙ coefficients_from_combination q t words c (AreDistinct-tail t w words d) (omega arith) (All-tail (λ b. b < order q) a c s))
