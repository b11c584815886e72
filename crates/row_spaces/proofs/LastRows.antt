-- The places of a co-reduced matrix: in each column the last row that is not zero.
use Rattle.std.proofs.Common.{ℕ, ◌<◌, ◌≤◌, ◌≡◌, ◌≢◌, ◌+◌, ◌-◌, inl, inr, List, [], ◌∷◌, ◌++◌, get_or, sym, ap, ◌∙◌, arith, subst, length-append}
use Rattle.std.proofs.Math.Seq.{get_or-append_seam}
use Rattle.std.proofs.lemmas.Bool.{cases_eq, cases_lt, cases_order}
use Rattle.std.proofs.lemmas.List.{get_or_append_left}
use Rattle.linear_algebra.specs.Field.{Gf}
use Rattle.linear_algebra.specs.Matrix.{Mat, delta-same}
use Rattle.linear_algebra.specs.RowForm.{IsCoReduced}
use Rattle.linear_algebra.specs.Rows.{entry}
use Rattle.linear_algebra.proofs.Typed.{as_mat-entry}
use Rattle.fp_linear.specs.Matrix.{PlainMatrix, IsMatrix}
use Rattle.row_spaces.specs.RowSpaces.{typed, HasPlaces}

-- Two rows of which each is not zero in a column, and all behind it are, are one.
pub last_is : (m column i p : ℕ) (rows : List (List ℕ)) → i < m → entry rows i column ≢ 0 → ((k : ℕ) → i < k → k < m → entry rows k column ≡ 0)
    → p < m → entry rows p column ≢ 0 → ((k : ℕ) → p < k → k < m → entry rows k column ≡ 0) → i ≡ p
last_is m column i p rows h d z l e y = elim (cases_order i p) [
  | inl same ↦ same
  | inr o ↦ elim o [ inl b ↦ absurd (e (z p b l)) | inr b ↦ absurd (d (y i b h)) ]
]

-- One row less may be not zero.
pub zero_from : (m column i : ℕ) (rows : List (List ℕ)) → entry rows (i - 1) column ≡ 0 → ((k : ℕ) → i ≤ k → k < m → entry rows k column ≡ 0) → (k : ℕ) → i - 1 ≤ k → k < m → entry rows k column ≡ 0
zero_from m column i rows e z k h l = elim (cases_eq (i - 1) k) [
  | inl same ↦ subst (λ (k : ℕ). entry rows k column ≡ 0) same e
  | inr d ↦ z k (omega arith) l
]

pub HasPlaces-none : (m : PlainMatrix) → HasPlaces m 0 []
HasPlaces-none m = record { count = omega arith; at = λ place d j l. absurd (omega (arith, l)) }

pub HasPlaces-more : (m : PlainMatrix) (k last : ℕ) (places : List ℕ) → IsMatrix m → k < m.col_count
    → ((p : ℕ) → p < m.row_count → entry m.rows p k ≢ 0 → ((i : ℕ) → p < i → i < m.row_count → entry m.rows i k ≡ 0) → last ≡ p) → HasPlaces m k places → HasPlaces m (k + 1) (places ++ last ∷ [])
HasPlaces-more m k last places g inside is h = record {
  count = length-append places (last ∷ []) ∙ ap (λ n. n + 1) h.count;
  at = λ place d j l. elim (cases_lt j k) [
    | inl b ↦ get_or_append_left places (last ∷ []) 0 j (let c = h.count in omega arith) ∙ h.at place d j b
    | inr b ↦ here place d j (omega arith)
  ];
}
  where
    read : (i j : ℕ) → (typed m).at i j ≡ entry m.rows i j
    read i j = as_mat-entry m.field m.row_count m.col_count m.rows g.grid i j

    found : (place : ℕ → ℕ) → IsCoReduced (typed m) place → last ≡ place k
    found place d = is (place k) (d.inside k inside)
        (λ e. let one : ◌≡◌ {A = ℕ} 1 0 = sym (delta-same k) ∙ sym (d.unit k k inside inside) ∙ read (place k) k ∙ e in omega arith)
        (λ i b l. sym (read i k) ∙ d.after k i inside b)

    here : (place : ℕ → ℕ) → IsCoReduced (typed m) place → (j : ℕ) → k ≡ j → get_or (places ++ last ∷ []) j 0 ≡ place j
    here place d j same = subst (λ (j : ℕ). get_or (places ++ last ∷ []) j 0 ≡ place j) same
        (ap (λ n. get_or (places ++ last ∷ []) n 0) (sym h.count) ∙ get_or-append_seam places last [] 0 ∙ found place d)

-- Only the places of the columns count.
pub IsCoReduced-same : {q : Gf} {n c : ℕ} (g : Mat q n c) (p r : ℕ → ℕ) → ((j : ℕ) → j < c → r j ≡ p j) → IsCoReduced g p → IsCoReduced g r
IsCoReduced-same {q} {n} {c} g p r e d = record {
  inside = λ i h. rw (e i h) (d.inside i h);
  unit = λ i k h l. ap (λ t. g.at t k) (e i h) ∙ d.unit i k h l;
  further = λ i k h l. rw (e i (omega arith), e k l) (d.further i k h l);
  after = λ i t h l. d.after i t h (rw (e i h) at l);
}
