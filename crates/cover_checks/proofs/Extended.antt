-- A matrix with the identity to its right, row by row, and the kernel that is read from its reduced row form.
use Rattle.std.proofs.Common.{ℕ, ◌<◌, ◌≤◌, ◌≡◌, ◌+◌, ◌-◌, ◌*◌, List, get_or, sym, ap, ◌∙◌, inl, inr, arith, subst}
use Rattle.std.specs.Prelude.{slice_index}
use Rattle.std.proofs.lemmas.Bool.{cases_eq}
use Rattle.linear_algebra.specs.Field.{Gf}
use Rattle.linear_algebra.specs.Matrix.{delta, join}
use Rattle.linear_algebra.specs.Rows.{rows_of}
use Rattle.linear_algebra.specs.Kernels.{IsExtended}
use Rattle.linear_algebra.proofs.Blocks.{join_cases, join-first, join-shifted}
use Rattle.linear_algebra.proofs.Rows.{length-rows_of}
use Rattle.fp_linear.specs.Slices.{AreElements, IsWritten, copied, cell}
use Rattle.fp_linear.specs.Products.{HasBlock}
use Rattle.fp_linear.proofs.Cells.{cell-is, cell-entry, place_below, IsGrid-rows_of}
use Rattle.fp_linear.proofs.Meeting.{row_step}
use Rattle.cover_checks.specs.Bases.{AreExtended}

pub extended_none : (m n : ℕ) (s wide : List ℕ) → AreExtended m n 0 s wide
extended_none m n s wide = record { at = λ i j l b. absurd (omega arith) }

pub extended_more : (m n i : ℕ) (s old mid new : List ℕ) → AreExtended m n i s old → IsWritten old mid (i * (n + m)) n (copied (i * n) s) → IsWritten mid new (i * (n + m) + n) m (delta i) → AreExtended m n (i + 1) s new
extended_more m n i s old mid new e a b = record {
  at = λ r j l k. elim (cases_eq r i) [
    | inl same ↦ subst (λ r. cell (n + m) new r j ≡ join n (λ j. cell n s r j) (delta r) j) (sym same) (cell-is (n + m) new i j ∙ elim (join_cases n j) [
      | inl f ↦ b.before (i * (n + m) + j) (let g = f.lt in omega (arith, g)) ∙ a.within j f.lt ∙ sym (cell-is n s i j) ∙ sym (f.is (λ j. cell n s i j) (delta i))
      | inr f ↦
          let g = f.ge in
          let place : i * (n + m) + j ≡ i * (n + m) + n + (j - n) = omega (arith, g) in
          ap (λ p. get_or new p 0) place ∙ b.within (j - n) (omega (arith, g, k)) ∙ sym (f.is (λ j. cell n s i j) (delta i))
    ])
    | inr other ↦
        let p = place_below (n + m) r j i 0 (omega arith) k in
        cell-is (n + m) new r j ∙ b.before (r * (n + m) + j) (omega (arith, p)) ∙ a.before (r * (n + m) + j) (omega (arith, p)) ∙ sym (cell-is (n + m) old r j) ∙ e.at r j (omega arith) k
  ];
}

pub extended_all : (q : Gf) (m n k : ℕ) (s wide : List ℕ) → k ≡ m → AreElements q wide → AreExtended m n k s wide → IsExtended q m n (rows_of m n s) (rows_of m (n + m) wide)
unfolding delta
extended_all q m n k s wide d small e = record {
  grid = IsGrid-rows_of q m (n + m) wide small;
  count = length-rows_of m n s;
  left = λ i j l b. cell-entry m (n + m) wide i j l (omega arith) ∙ e.at i j (omega (arith, l, d)) (omega arith) ∙ join-first n (λ j. cell n s i j) (delta i) j b ∙ sym (cell-entry m n s i j l b);
  right = λ i j l b. cell-entry m (n + m) wide i (n + j) l (omega arith) ∙ e.at i (n + j) (omega (arith, l, d)) (omega arith) ∙ join-shifted n (λ j. cell n s i j) (delta i) j;
}

-- rows that are copied from ends of rows
pub ends_block : (w m first from count : ℕ) (wide k : List ℕ) → ((i j : ℕ) → i < count → j < m → slice_index k (i * m + j) ≡ slice_index wide ((first + i) * w + (from + j))) → HasBlock m m count first from (cell w wide) (cell m k) (cell m k)
ends_block w m first from count wide k h = record {
  done = λ i j l b. cell-is m k i j ∙ h i j l b ∙ sym (cell-is w wide (first + i) (from + j));
  others = λ i j l b. absurd (omega arith);
}

pub ends_more : (w m first from r : ℕ) (wide old new : List ℕ) → ((i j : ℕ) → i < r → j < m → slice_index old (i * m + j) ≡ slice_index wide ((first + i) * w + (from + j)))
    → IsWritten old new (r * m) m (copied ((first + r) * w + from) wide) → (i j : ℕ) → i < r + 1 → j < m → slice_index new (i * m + j) ≡ slice_index wide ((first + i) * w + (from + j))
ends_more w m first from r wide old new h a i j l b = elim (cases_eq i r) [
  | inl same ↦ subst (λ i. slice_index new (i * m + j) ≡ slice_index wide ((first + i) * w + (from + j))) (sym same) (a.within j b ∙ ap (λ p. get_or wide p 0) (omega arith))
  | inr other ↦ let p = place_below m i j r 0 (omega arith) b in a.before (i * m + j) (omega (arith, p)) ∙ h i j (omega arith) b
]

pub end_inside : (w first from count taken i len : ℕ) → from + taken ≤ w → i < count → (first + count) * w ≤ len → (first + i) * w + from + taken ≤ len
end_inside w first from count taken i len a l b = let s = row_step w (first + i) (first + count) (omega arith) in omega (arith, a, s, b)

pub start_inside : (m count i len : ℕ) → i < count → count * m ≤ len → i * m + m ≤ len
start_inside m count i len l b = let s = row_step m i count l in omega (arith, s, b)
