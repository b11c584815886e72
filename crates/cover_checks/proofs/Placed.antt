-- Pivots as the places of the first numbers that are not zero, and coordinates at them.
use Rattle.std.proofs.Common.{ℕ, zero, ◌<◌, ◌≤◌, ◌≡◌, ◌≢◌, ◌+◌, ◌*◌, List, length, set, sym, ap, ap₂, ◌∙◌, inl, inr, arith, subst, get_or-set_same, get_or-set_other}
use Rattle.std.specs.Prelude.{slice_index}
use Rattle.std.proofs.lemmas.Bool.{cases_lt, cases_eq}
use Rattle.linear_algebra.specs.Field.{Gf, mul}
use Rattle.linear_algebra.specs.Sums.{sum_to, sum-same}
use Rattle.linear_algebra.specs.Matrix.{Mat, Row, ◌·◌}
use Rattle.linear_algebra.specs.Rank.{IsInSpan}
use Rattle.linear_algebra.specs.RowForm.{IsRowReduced, selector}
use Rattle.linear_algebra.proofs.PartsLaws.{Row-eq}
use Rattle.linear_algebra.proofs.RowForm.{mul_selector-at}
use Rattle.fp_linear.specs.Slices.{cell}
use Rattle.fp_linear.proofs.Cells.{cell-is}
use Rattle.resolution_checks.proofs.KernelBases.{given_back}
use Rattle.cover_checks.specs.Bases.{IsFirstNonzero, ArePlaces, HoldsBasis, GivesBack, AreAtPlaces}

pub places_none : (n : ℕ) (s places : List ℕ) → ArePlaces n 0 s places
places_none n s places = record { at = λ i l. absurd (omega arith) }

first_is : (s : List ℕ) (start n p : ℕ) → (t : ℕ) × (t < n) × (slice_index s (start + t) ≢ 0) → ((j : ℕ) → j < p → slice_index s (start + j) ≡ 0) → (p < n → slice_index s (start + p) ≢ 0) → p ≤ n → IsFirstNonzero s start n p
first_is s start n p some before here fits = elim (cases_lt p n) [
  | inl l ↦ record { inside = l; nonzero = here l; before = before }
  | inr l ↦ absurd (some.2 (before some.0 (let b = some.1 in omega (arith, b, l))))
]

pub places_more : (n k : ℕ) (s places : List ℕ) (p : ℕ) → ArePlaces n k s places → k < length places → (t : ℕ) × (t < n) × (slice_index s (k * n + t) ≢ 0)
    → ((j : ℕ) → j < p → slice_index s (k * n + j) ≡ 0) → (p < n → slice_index s (k * n + p) ≢ 0) → p ≤ n → ArePlaces n (k + 1) s (set places k p)
places_more n k s places p h l some before here fits = record {
  at = λ i b. elim (cases_eq i k) [
    | inl e ↦ subst (λ i. IsFirstNonzero s (i * n) n (slice_index (set places k p) i)) (sym e) (subst (IsFirstNonzero s (k * n) n) (sym (get_or-set_same places k p 0 l)) (first_is s (k * n) n p some before here fits))
    | inr d ↦ subst (IsFirstNonzero s (i * n) n) (sym (get_or-set_other places k i p 0 d)) (h.at i (omega arith))
  ];
}

-- Pivots are such places, and a row of a matrix in reduced row form has one.
module _ {q : Gf} {m n : ℕ} (b : Mat q m n) (pivot : ℕ → ℕ) (r : IsRowReduced b pivot) (s : List ℕ) (rows : (i j : ℕ) → i < m → j < n → cell n s i j ≡ b.at i j) where
  entry : (i j : ℕ) → i < m → j < n → slice_index s (i * n + j) ≡ b.at i j
  entry i j l k = sym (cell-is n s i j) ∙ rows i j l k

  pub some_nonzero : (i : ℕ) → i < m → (t : ℕ) × (t < n) × (slice_index s (i * n + t) ≢ 0)
  some_nonzero i l = (pivot i, r.inside i l, λ z. not_one (sym (r.one i l) ∙ sym (entry i (pivot i) l (r.inside i l)) ∙ z))
    where
      not_one : 1 ≡ zero → ⊥
      not_one e = omega arith

  pub places_are : (places : List ℕ) → ArePlaces n m s places → HoldsBasis b pivot s places
  unfolding some_nonzero
  places_are places p = record {
    rows = rows;
    places = λ i l.
        let f = p.at i l in
        elim (cases_eq (slice_index places i) (pivot i)) [
          | inl e ↦ e
          | inr d ↦ elim (cases_lt (slice_index places i) (pivot i)) [
            | inl lt ↦ absurd (f.nonzero (entry i (slice_index places i) l f.inside ∙ r.before i (slice_index places i) l lt))
            | inr ge ↦ absurd ((some_nonzero_at i l) (f.before (pivot i) (omega (arith, d, ge))))
          ]
        ];
  }
    where
      some_nonzero_at : (i : ℕ) → i < m → slice_index s (i * n + pivot i) ≢ 0
      some_nonzero_at i l = (some_nonzero i l).2

-- Coordinates of a row.
module _ {q : Gf} {m n : ℕ} (b : Mat q m n) (pivot : ℕ → ℕ) (r : IsRowReduced b pivot) (s places : List ℕ) (h : HoldsBasis b pivot s places) (y : Row q n) (row : List ℕ) (e : (j : ℕ) → j < n → slice_index row j ≡ y.at 0 j)
    (x : List ℕ) (t : AreAtPlaces m places row x) where
  pub coordinate : (i : ℕ) → i < m → slice_index x i ≡ (y · selector q n m pivot).at 0 i
  coordinate i l = t.at i l ∙ ap (λ p. slice_index row p) (h.places i l) ∙ e (pivot i) (r.inside i l) ∙ sym (mul_selector-at m y pivot 0 i l (r.inside i l))

  combined : (j : ℕ) → j < n → sum_to q m (λ i. mul q (slice_index x i) (slice_index s (i * n + j))) ≡ (y · selector q n m pivot · b).at 0 j
  unfolding ◌·◌
  combined j k = sum-same q m _ _ (λ i l. ap₂ (mul q) (coordinate i l) (sym (cell-is n s i j) ∙ h.rows i j l k))

  pub in_span_where : GivesBack q m n x s row n → IsInSpan b y
  in_span_where g = record { by = y · selector q n m pivot; is = Row-eq _ _ (λ j k. sym (combined j k) ∙ g.at j k ∙ e j k) }

  pub back_where : IsInSpan b y → GivesBack q m n x s row n
  back_where i = record { at = λ j k. combined j k ∙ ap (λ (z : Row q n). z.at 0 j) (given_back b pivot r y i) ∙ sym (e j k) }
