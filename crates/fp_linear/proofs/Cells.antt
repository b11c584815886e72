-- Slices that hold a matrix row by row: where a write goes.
use Rattle.std.proofs.Common.{ℕ, ◌<◌, ◌≤◌, ◌≡◌, ◌≢◌, inl, inr, ◌+◌, ◌*◌, ◌-◌, List, length, get_or, refl, sym, ap, ◌∙◌, arith}
use Rattle.std.proofs.lemmas.Nat.{row_fits, same_from_place}
use Rattle.std.proofs.lemmas.Bool.{cases_lt, cases_order}
use Rattle.linear_algebra.specs.Field.{Gf, order}
use Rattle.linear_algebra.specs.FieldLaws.{order-pos}
use Rattle.linear_algebra.specs.Rows.{entry, IsGrid, rows_of}
use Rattle.linear_algebra.proofs.Rows.{entry-rows_of, entry_past, row-rows_of, row-entry, length-rows_of, length-list_of, get_or-list_of_past}
use Rattle.fp_linear.specs.Slices.{cell, AreElements, IsWritten, AreApart}

pub cell-is : (n : ℕ) (s : List ℕ) (i j : ℕ) → cell n s i j ≡ get_or s (i * n + j) 0
unfolding cell
cell-is n s i j = refl

pub cell-entry : (m n : ℕ) (s : List ℕ) (i j : ℕ) → i < m → j < n → entry (rows_of m n s) i j ≡ cell n s i j
cell-entry m n s i j h k = entry-rows_of m n s i j h k ∙ sym (cell-is n s i j)

pub cell_small : (q : Gf) (n : ℕ) (s : List ℕ) (i j : ℕ) → AreElements q s → cell n s i j < order q
cell_small q n s i j h = rw (cell-is n s i j) (h.small _)

-- a place of one row is none of another
pub place_below : (n i j r c : ℕ) → i < r → j < n → i * n + j < r * n + c
place_below n i j r c h l = let f = row_fits i n r n h (omega arith) in omega arith

pub cell-written : (old new : List ℕ) (n r c at k : ℕ) (g : ℕ → ℕ) → at ≡ r * n + c → IsWritten old new at k g → (j : ℕ) → c ≤ j → j < c + k → cell n new r j ≡ g (j - c)
cell-written old new n r c at k g e w j h l =
    let p : r * n + j ≡ at + (j - c) = omega arith in
    cell-is n new r j ∙ ap (λ i. get_or new i 0) p ∙ w.within (j - c) (omega arith)

pub cell-unwritten_row : (old new : List ℕ) (n r c at k : ℕ) (g : ℕ → ℕ) → at ≡ r * n + c → IsWritten old new at k g → (j : ℕ) → j < c → cell n new r j ≡ cell n old r j
cell-unwritten_row old new n r c at k g e w j h = cell-is n new r j ∙ w.before (r * n + j) (omega arith) ∙ sym (cell-is n old r j)

pub cell-unwritten : (old new : List ℕ) (n r c at k : ℕ) (g : ℕ → ℕ) → at ≡ r * n + c → c + k ≤ n → IsWritten old new at k g → (i j : ℕ) → j < n → i ≢ r → cell n new i j ≡ cell n old i j
cell-unwritten old new n r c at k g e f w i j h ne =
    elim (cases_order i r) [
      | inl s ↦ absurd (ne s)
      | inr o ↦ elim o [
        | inl l ↦ let p = place_below n i j r c l h in cell-is n new i j ∙ w.before (i * n + j) (omega arith) ∙ sym (cell-is n old i j)
        | inr l ↦ let p = row_fits r n i n l (omega arith) in cell-is n new i j ∙ w.after (i * n + j) (omega arith) ∙ sym (cell-is n old i j)
      ]
    ]

-- two rows have no place in common
pub AreApart-rows : (n a b c k : ℕ) → a ≢ b → c + k ≤ n → AreApart (a * n + c) (b * n + c) k
AreApart-rows n a b c k ne h = record {
  apart = λ i j p r e. ne ((same_from_place a (c + i) b (c + j) n (omega arith) (omega arith) (omega arith)).0);
}

pub AreApart-whole_rows : (n a b : ℕ) → a ≢ b → AreApart (a * n) (b * n) n
AreApart-whole_rows n a b ne = record { apart = λ i j p r e. ne ((same_from_place a i b j n p r e).0) }

-- the rows of a slice of elements are a matrix over the field
pub IsGrid-rows_of : (q : Gf) (m n : ℕ) (s : List ℕ) → AreElements q s → IsGrid q m n (rows_of m n s)
IsGrid-rows_of q m n s h = record {
  count = length-rows_of m n s;
  width = λ i l. ap length (row-rows_of m n s i l) ∙ length-list_of n _;
  small = λ i j. elim (cases_lt i m) [
    | inl l ↦ elim (cases_lt j n) [
      | inl k ↦ rw (entry-rows_of m n s i j l k) (h.small _)
      | inr k ↦ rw (← (row-entry (rows_of m n s) i j), row-rows_of m n s i l, get_or-list_of_past {X = ℕ} n _ j 0 k) (order-pos q)
    ]
    | inr l ↦ rw (entry_past (rows_of m n s) i j (let c = length-rows_of m n s in omega arith)) (order-pos q)
  ];
}
