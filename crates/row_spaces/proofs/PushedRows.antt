-- Rows that are gathered one after another.
use Rattle.std.proofs.Common.{ℕ, ◌<◌, ◌≤◌, ◌≡◌, ◌+◌, ◌-◌, ◌*◌, inl, inr, List, [], ◌++◌, length, get_or, take, sym, ap, ◌∙◌, arith, length-append}
use Rattle.std.proofs.lemmas.Bool.{cases_lt}
use Rattle.std.proofs.lemmas.List.{get_or_append_left, get_or-append-add}
use Rattle.linear_algebra.specs.Field.{Gf}
use Rattle.linear_algebra.specs.FieldLaws.{order-pos}
use Rattle.linear_algebra.specs.Rows.{entry, IsGrid, rows_of}
use Rattle.linear_algebra.proofs.Rows.{rows_same, entry-rows_of, row-entry}
use Rattle.linear_algebra.proofs.Reduced.{entry-take, IsGrid-take}
use Rattle.fp_linear.specs.Slices.{AreElements}
use Rattle.fp_linear.proofs.Cells.{place_below, IsGrid-rows_of}
use Rattle.row_spaces.specs.PushedRows.{HasRows}

pub AreElements-append : (q : Gf) (s x : List ℕ) → AreElements q s → AreElements q x → AreElements q (s ++ x)
AreElements-append q s x a b = record {
  small = λ k. elim (cases_lt k (length s)) [
    | inl l ↦ rw (get_or_append_left s x 0 k l) (a.small k)
    | inr l ↦ (let e : ◌≡◌ {A = ℕ} (length s + (k - length s)) k = omega arith in rw (sym e, get_or-append-add s x (k - length s) 0) (b.small (k - length s)))
  ];
}

pub HasRows-none : (q : Gf) (n : ℕ) (f : ℕ → ℕ → ℕ) → HasRows q n 0 f []
HasRows-none q n f = record {
  count = omega arith;
  at = λ r j h l. absurd (omega (arith, h));
  elements = record { small = λ k. order-pos q };
}

pub HasRows-more : (q : Gf) (n m : ℕ) (f : ℕ → ℕ → ℕ) (s x : List ℕ) → length x ≡ n → AreElements q x → ((j : ℕ) → j < n → get_or x j 0 ≡ f m j) → HasRows q n m f s → HasRows q n (m + 1) f (s ++ x)
HasRows-more q n m f s x width small e h = record {
  count = length-append s x ∙ omega (arith, h.count, width);
  at = λ r j l b. elim (cases_lt r m) [
    | inl o ↦ get_or_append_left s x 0 (r * n + j) (let p = place_below n r j m 0 o b in let c = h.count in omega arith) ∙ h.at r j o b
    | inr o ↦ last r j (omega arith) b
  ];
  elements = AreElements-append q s x h.elements small;
}
  where
    last : (r j : ℕ) → m ≡ r → j < n → get_or (s ++ x) (r * n + j) 0 ≡ f r j
    last r j same b =
        ap (λ r. get_or (s ++ x) (r * n + j) 0) (sym same) ∙ ap (λ a. get_or (s ++ x) (a + j) 0) (sym h.count) ∙ get_or-append-add s x j 0 ∙ e j b ∙ ap (λ r. f r j) same

-- They are the first rows of a matrix.
pub rows_of-first : (q : Gf) (m n k : ℕ) (rows : List (List ℕ)) (s : List ℕ) → IsGrid q m n rows → k ≤ m → HasRows q n k (entry rows) s → rows_of k n s ≡ take k rows
rows_of-first q m n k rows s g fits h =
    let t = IsGrid-take q m n k rows g fits in
    let u = IsGrid-rows_of q k n s h.elements in
    rows_same k n (rows_of k n s) (take k rows) u.count t.count u.width t.width (λ i j l b. entry-rows_of k n s i j l b ∙ h.at i j l b ∙ sym (entry-take k rows i j l))

pub AreElements-row : (q : Gf) (m n i : ℕ) (rows : List (List ℕ)) → IsGrid q m n rows → AreElements q (get_or rows i [])
AreElements-row q m n i rows g = record { small = λ k. rw (row-entry rows i k) (g.small i k) }

pub HasRows-next : (q : Gf) (m n i : ℕ) (rows : List (List ℕ)) (s : List ℕ) → IsGrid q m n rows → i < m → HasRows q n i (entry rows) s → HasRows q n (i + 1) (entry rows) (s ++ get_or rows i [])
HasRows-next q m n i rows s g l h = HasRows-more q n i (entry rows) s (get_or rows i []) (g.width i l) (AreElements-row q m n i rows g) (λ j b. row-entry rows i j) h
