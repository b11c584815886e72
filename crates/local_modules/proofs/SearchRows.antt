-- Search among all rows of a length: where each is of one kind or of another, one of the first kind is found or all are of the second.
use Rattle.std.proofs.Common.{ℕ, zero, suc, ◌%◌, ◌<◌, ◌≤◌, ◌≡◌, ◌≢◌, ◌⊎◌, inl, inr, sym, ap, ◌∙◌, arith, subst, cond, eqb, eq-eqb, ne_eqb, mod-eq_of_lt, refl}
use Rattle.std.proofs.lemmas.Bool.{cases_eq, cond-true, cond-false}
use Rattle.linear_algebra.specs.Field.{Gf, order}
use Rattle.linear_algebra.specs.Matrix.{Row, made}
use Rattle.linear_algebra.proofs.PartsLaws.{made-at, Row-eq}
use Rattle.linear_algebra.proofs.Search.{search_or_all}

-- f with c at the place t
put : (ℕ → ℕ) → ℕ → ℕ → ℕ → ℕ
put f t c j = cond (eqb j t) c (f j)

put-same : (f : ℕ → ℕ) (t c : ℕ) → put f t c t ≡ c
unfolding put
put-same f t c = cond-true (eqb t t) c (f t) (eq-eqb t t refl)

put-other : (f : ℕ → ℕ) (t c j : ℕ) → j ≢ t → put f t c j ≡ f j
unfolding put
put-other f t c j n = cond-false (eqb j t) c (f j) (ne_eqb j t n)

module _ {q : Gf} (b : ℕ) (P N : Row q b → Type 0) (decide : (y : Row q b) → P y ⊎ N y) where
  -- the rows that have the entries of f from place t on
  abbrev Agrees : ℕ → (ℕ → ℕ) → Row q b → Type 0
  Agrees t f y = (j : ℕ) → t ≤ j → j < b → y.at 0 j ≡ f j % order q

  among : (t : ℕ) (f : ℕ → ℕ) → ((y : Row q b) × P y) ⊎ ((y : Row q b) → Agrees t f y → N y)
  among zero f = elim (decide (made q 1 b (λ i j. f j))) [
    | inl p ↦ inl (made q 1 b (λ i j. f j), p)
    | inr n ↦ inr (λ y e. subst N (Row-eq _ _ (λ j h. made-at q 1 b (λ i j. f j) 0 j (omega arith) h ∙ sym (e j (omega arith) h))) n)
  ]
  among (suc t) f = elim (search_or_all (order q) (λ c. (y : Row q b) × P y) (λ c. (y : Row q b) → Agrees t (put f t c) y → N y) (λ c. among t (put f t c))) [
    | inl s ↦ inl s.2
    | inr n ↦ inr (λ y e. n (y.at 0 t) (y.fits.small 0 t) y (λ j l h. elim (cases_eq j t) [
      | inl same ↦ ap (y.at 0) same ∙ sym (ap (λ z. z % order q) (ap (put f t (y.at 0 t)) same ∙ put-same f t (y.at 0 t)) ∙ mod-eq_of_lt (y.fits.small 0 t))
      | inr other ↦ e j (omega arith) h ∙ sym (ap (λ z. z % order q) (put-other f t (y.at 0 t) j other))
    ]))
  ]

  pub search_rows : ((y : Row q b) × P y) ⊎ ((y : Row q b) → N y)
  search_rows = elim (among b (λ j. 0)) [ inl s ↦ inl s | inr n ↦ inr (λ y. n y (λ j l h. absurd (omega arith))) ]
