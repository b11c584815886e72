-- What the fields of a `Matrix` say of the matrix that contracts see.
use Rattle.std.proofs.Common.{ℕ, ◌<◌, ◌≤◌, ◌≡◌, ◌+◌, ◌*◌, ◌/◌, ◌%◌, inl, inr, List, [], ◌++◌, length, get_or, take, drop, replicate, sym, ap, ◌∙◌, arith}
use Rattle.std.proofs.lemmas.List.{ext_get_or, get_or-take, get_or-drop, length-take-le, length-drop, get_or-replicate, get_or_past, length-replicate, take_at}
use Rattle.std.proofs.lemmas.Nat.{row_fits, div_below, mod_below}
use Rattle.std.proofs.lemmas.Bool.{cases_lt, cases_eq}
use Rattle.std.specs.Prelude.{nat_eq}
use Rattle.std.specs.Bool.{one_answer}
use Rattle.std.specs.Cmp.{unsigned_Decides}
use Rattle.std.specs.Cmp.Lexicographic.{pointwise, bytes_decides}
use Rattle.linear_algebra.specs.Field.{Gf, order}
use Rattle.linear_algebra.specs.Rows.{rows_of, entry, zeros}
use Rattle.linear_algebra.proofs.Rows.{list_of-is, list_of-same, row-rows_of, entry-rows_of}
use Rattle.fp_linear.specs.Slices.{AreElements}
use Rattle.fp_linear.specs.Matrix.{plain, IsMatrix, HoldsMatrix, zero_rows}
use Rattle.fp_linear.specs.Equality.{same_matrix, rows_decides}
use Rattle.fp_linear.proofs.Cells.{IsGrid-rows_of}

pub IsMatrix-held : (q : Gf) (m n : ℕ) (s : List ℕ) → HoldsMatrix q m n s → IsMatrix (plain q m n (rows_of m n s))
IsMatrix-held q m n s h = record { grid = IsGrid-rows_of q m n s h.small; fits = h.fits }

-- a row as a part of the slice
pub row-part : (m n i k : ℕ) (s : List ℕ) → length s ≡ m * n → i < m → k ≡ n → take k (drop (i * n) s) ≡ get_or (rows_of m n s) i []
row-part m n i k s e h l =
    let f = row_fits i n m n h (omega arith) in
    list_of-is n (λ j. get_or s (i * n + j) 0) (take k (drop (i * n) s)) 0 (length-take-le k (drop (i * n) s) (simp length-drop (omega arith)) ∙ l)
    (λ j b. get_or-take k (drop (i * n) s) j 0 (omega arith) ∙ get_or-drop (i * n) s j 0)
    ∙ sym (row-rows_of m n s i h)

-- each number of a list of zeros
pub zero_at : (n : ℕ) (s : List ℕ) (k : ℕ) → s ≡ replicate n 0 → get_or s k 0 ≡ 0
zero_at n s k e =
    ap (λ s. get_or s k 0) e ∙ elim (cases_lt k n) [
      | inl l ↦ get_or-replicate n k 0 0 l
      | inr l ↦ get_or_past (replicate n 0) k 0 (let c = length-replicate {A = ℕ} n 0 in omega arith)
    ]

pub rows_of-zeros : (m n : ℕ) (s : List ℕ) → s ≡ replicate (m * n) 0 → rows_of m n s ≡ zero_rows m n
unfolding rows_of zero_rows zeros
rows_of-zeros m n s e = list_of-same m _ _ [] (λ i l. list_of-same n _ _ 0 (λ j k. zero_at (m * n) s (i * n + j) e))

-- the entries of a vector after a call on it as a slice
pub HoldsMatrix-written : (q : Gf) (m n k : ℕ) (s old new : List ℕ) → s ≡ take k (new ++ old) → k ≡ length new → length new ≡ m * n → AreElements q new → m * n ≤ 67108864 → HoldsMatrix q m n s
HoldsMatrix-written q m n k s old new e l c a f =
    let w : s ≡ new = e ∙ take_at new old k (sym l) in
    rw w (record { count = c; small = a; fits = f })

-- slices of one length with the same rows are equal
pub rows_of-tells : (m n : ℕ) (s t : List ℕ) → length s ≡ m * n → length t ≡ m * n → rows_of m n s ≡ rows_of m n t → s ≡ t
rows_of-tells m n s t e f h = ext_get_or 0 s t (omega arith) (λ p l.
    let b : p < m * n = omega arith in
    let pos : 0 < n = some p b in
    let at : p / n * n + p % n ≡ p = omega arith in
    let i = div_below p n m pos b in
    let j = mod_below p n pos in
    ap (λ p. get_or s p 0) (sym at) ∙ sym (entry-rows_of m n s (p / n) (p % n) i j) ∙ ap (λ r. entry r (p / n) (p % n)) h ∙ entry-rows_of m n t (p / n) (p % n) i j ∙ ap (λ p. get_or t p 0) at)
  where
    some : (p : ℕ) → p < m * n → 0 < n
    some p l = elim (cases_eq n 0) [
      | inl z ↦ absurd (let e : m * n ≡ 0 = ap (λ n. m * n) z ∙ omega arith in omega arith)
      | inr ne ↦ omega arith
    ]

-- the test of the slices is that of the rows
pub same_rows : (m n : ℕ) (s t : List ℕ) → length s ≡ m * n → length t ≡ m * n → pointwise nat_eq s t ≡ pointwise (pointwise nat_eq) (rows_of m n s) (rows_of m n t)
same_rows m n s t e f = one_answer _ _ (bytes_decides s t) (
  λ h. rows_of-tells m n s t e f ((rows_decides (rows_of m n s) (rows_of m n t)).0 h),
  λ h. (rows_decides (rows_of m n s) (rows_of m n t)).1 (ap (rows_of m n) h),
)

pub same_held : (q r : Gf) (m n k l : ℕ) (s t : List ℕ) → HoldsMatrix q m n s → HoldsMatrix r k l t → order q ≡ order r → m ≡ k → n ≡ l → pointwise nat_eq s t ≡ same_matrix (plain q m n (rows_of m n s)) (plain r k l (rows_of k l t))
same_held q r m n k l s t hs ht e f g =
    rw ((unsigned_Decides (order q) (order r)).1 e, (unsigned_Decides m k).1 f, (unsigned_Decides n l).1 g)
    (same_rows m n s t hs.count (ht.count ∙ ap (λ a. a * l) (sym f) ∙ ap (λ a. m * a) (sym g))
    ∙ ap (λ a. pointwise (pointwise nat_eq) (rows_of m n s) (rows_of a n t)) f ∙ ap (λ a. pointwise (pointwise nat_eq) (rows_of m n s) (rows_of k a t)) g)
