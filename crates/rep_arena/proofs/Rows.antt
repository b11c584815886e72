-- Entries of a matrix that are stored row by row.
use Rattle.std.proofs.Common.{ℕ, ◌<◌, ◌≡◌, ◌+◌, ◌*◌, ◌-◌, List, [], ◌∷◌, ◌++◌, length, take, get_or, inl, inr, refl, sym, ap, ◌∙◌, arith, subst}
use Rattle.std.proofs.lemmas.Bool.{cases_lt}
use Rattle.std.proofs.lemmas.Nat.{row_fits}
use Rattle.std.proofs.lemmas.List.{ext_get_or, take_more, take_all, length_push, length-append, get_or_push, get_or_append_left, get_or-append_right, get_or-append-add}
use Rattle.linear_algebra.specs.Field.{Gf, order}
use Rattle.linear_algebra.specs.FieldLaws.{order-pos}
use Rattle.linear_algebra.specs.Rows.{rows_of, list_of}
use Rattle.linear_algebra.proofs.Rows.{length-rows_of, row-rows_of, list_of-is, list_of-same, row-entry}
use Rattle.fp_linear.specs.Slices.{AreElements}
use Rattle.fp_linear.specs.Matrix.{PlainMatrix, plain, IsMatrix, HoldsMatrix}

-- a row more
pub rows_of-push : (m n : ℕ) (s r : List ℕ) → length s ≡ m * n → length r ≡ n → rows_of (m + 1) n (s ++ r) ≡ rows_of m n s ++ r ∷ []
rows_of-push m n s r e l =
    ext_get_or [] (rows_of (m + 1) n (s ++ r)) (rows_of m n s ++ r ∷ [])
    (length-rows_of (m + 1) n (s ++ r) ∙ sym (length_push (rows_of m n s) r ∙ ap (λ k. k + 1) (length-rows_of m n s)))
    (λ i b. let inside : i < m + 1 = omega (arith, length-rows_of (m + 1) n (s ++ r), b) in row-rows_of (m + 1) n (s ++ r) i inside ∙ elim (cases_lt i m) [
      | inl k ↦
          list_of-same n _ _ 0 (λ j h. get_or_append_left s r 0 (i * n + j) (let f = row_fits i n m n k (omega arith) in omega (arith, f, e, h)))
          ∙ sym (row-rows_of m n s i k) ∙ sym (get_or_append_left (rows_of m n s) (r ∷ []) [] i (omega (arith, length-rows_of m n s, k)))
      | inr g ↦
          (let at : i ≡ m = omega arith in subst (λ i. list_of n (λ j. get_or (s ++ r) (i * n + j) 0) ≡ get_or (rows_of m n s ++ r ∷ []) i []) (sym at)
          (sym (list_of-is n _ r 0 l (λ j h. sym (get_or-append-add s r j 0) ∙ ap (λ k. get_or (s ++ r) (k + j) 0) e)) ∙ sym (get_or_push (rows_of m n s) r [] m (length-rows_of m n s))))
    ])

pub AreElements-append : (q : Gf) (s r : List ℕ) → AreElements q s → AreElements q r → AreElements q (s ++ r)
AreElements-append q s r a b = record {
  small = λ k. elim (cases_lt k (length s)) [
    | inl l ↦ subst (λ x. x < order q) (sym (get_or_append_left s r 0 k l)) (a.small k)
    | inr g ↦ subst (λ x. x < order q) (sym (get_or-append_right s r (length s) k 0 refl g)) (b.small (k - length s))
  ];
}

-- The first i rows of a matrix, one behind the other.
pub record HoldsRows (m : PlainMatrix) (i : ℕ) (s : List ℕ) : Type 0 where
  pub count : length s ≡ i * m.col_count
  pub rows : rows_of i m.col_count s ≡ take i m.rows
  pub small : AreElements m.field s

pub holds_none : (m : PlainMatrix) (s : List ℕ) → s ≡ [] → HoldsRows m 0 s
unfolding rows_of list_of
holds_none m s e = rw e (record { count = omega arith; rows = refl; small = record { small = λ k. order-pos m.field } })

pub holds_more : (m : PlainMatrix) (i : ℕ) (s r new : List ℕ) → IsMatrix m → i < m.row_count → r ≡ get_or m.rows i [] → new ≡ s ++ r → HoldsRows m i s → HoldsRows m (i + 1) new
holds_more m i s r new M l e n h = rw n (record {
  count = length-append s r ∙ (let w = width in let c = h.count in omega arith);
  rows = rows_of-push i m.col_count s r h.count width ∙ (λ k. h.rows k ++ e k ∷ []) ∙ sym (take_more m.rows i [] (omega (arith, M.grid.count)));
  small = AreElements-append m.field s r h.small (record { small = λ k. subst (λ x. x < order m.field) (sym (ap (λ r. get_or r k 0) e ∙ row-entry m.rows i k)) (M.grid.small i k) });
})
  where
    width : length r ≡ m.col_count
    width = ap length e ∙ M.grid.width i l

pub holds_all : (m : PlainMatrix) (i : ℕ) (s : List ℕ) → IsMatrix m → i ≡ m.row_count → HoldsRows m i s → HoldsMatrix m.field m.row_count m.col_count s
holds_all m i s M e h = record { count = h.count ∙ ap (λ k. k * m.col_count) e; small = h.small; fits = M.fits }

pub rows_all : (m : PlainMatrix) (i : ℕ) (s : List ℕ) → IsMatrix m → i ≡ m.row_count → HoldsRows m i s → plain m.field m.row_count m.col_count (rows_of m.row_count m.col_count s) ≡ m
rows_all m i s M e h = λ k. record { field = m.field; row_count = m.row_count; col_count = m.col_count; rows = same k }
  where
    same : rows_of m.row_count m.col_count s ≡ m.rows
    same = ap (λ n. rows_of n m.col_count s) (sym e) ∙ h.rows ∙ take_all i m.rows (omega (arith, M.grid.count, e))
