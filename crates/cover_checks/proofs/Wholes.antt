-- The unit matrix in a slice.
use Rattle.std.proofs.Common.{ℕ, ◌<◌, ◌≤◌, ◌≡◌, ◌≢◌, ◌+◌, ◌*◌, List, sym, ◌∙◌, inl, inr, arith, subst}
use Rattle.std.specs.Prelude.{slice_index}
use Rattle.std.proofs.lemmas.Bool.{cases_eq}
use Rattle.std.proofs.lemmas.Nat.{mul-le}
use Rattle.linear_algebra.specs.Field.{Gf}
use Rattle.linear_algebra.specs.Matrix.{delta, one}
use Rattle.linear_algebra.specs.MatrixLaws.{one-at}
use Rattle.fp_linear.specs.Slices.{IsWritten, cell}
use Rattle.fp_linear.proofs.Cells.{cell-is, place_below}
use Rattle.fp_linear.proofs.Meeting.{row_step}
use Rattle.cover_checks.specs.Coordinates.{one_is_reduced}
use Rattle.cover_checks.specs.Bases.{AreUnitRows, ArePlaces, HoldsBasis, same_place}
use Rattle.cover_checks.proofs.Placed.{some_nonzero, places_are}

pub units_none : (n : ℕ) (s : List ℕ) → AreUnitRows n 0 s
units_none n s = record { at = λ i j l b. absurd (omega arith) }

pub units_more : (n k : ℕ) (old new : List ℕ) → AreUnitRows n k old → IsWritten old new (k * n) n (delta k) → AreUnitRows n (k + 1) new
units_more n k old new u w = record {
  at = λ i j l b. elim (cases_eq i k) [
    | inl e ↦ subst (λ i. slice_index new (i * n + j) ≡ delta i j) (sym e) (w.within j b)
    | inr d ↦ let p = place_below n i j k 0 (omega arith) b in w.before (i * n + j) (omega (arith, p)) ∙ u.at i j (omega arith) b
  ];
}

pub square_inside : (n i len : ℕ) → n ≤ 512 → i < n → 262144 ≤ len → i * n + n ≤ len
square_inside n i len a l b = let p = mul-le n n 512 512 a a in let s = row_step n i n l in omega (arith, p, s, b)

pub square_below : (n len : ℕ) → n ≤ 512 → 262144 ≤ len → n * n ≤ len
square_below n len a b = let p = mul-le n n 512 512 a a in omega (arith, p, b)

module _ (q : Gf) (n k : ℕ) (s : List ℕ) (u : AreUnitRows n k s) (e : k ≡ n) where
  unit_cells : (i j : ℕ) → i < n → j < n → cell n s i j ≡ (one q n).at i j
  unit_cells i j l b = cell-is n s i j ∙ u.at i j (omega (arith, l, e)) b ∙ sym (one-at q n i j l)

  pub unit_nonzero : (i : ℕ) → i < n → (t : ℕ) × (t < n) × (slice_index s (i * n + t) ≢ 0)
  unit_nonzero = some_nonzero (one q n) (λ i. i) (one_is_reduced q n) s unit_cells

  pub whole_holds : (marks : List ℕ) → ArePlaces n n s marks → HoldsBasis (one q n) same_place s marks
  whole_holds marks p = places_are (one q n) (λ i. i) (one_is_reduced q n) s unit_cells marks p
