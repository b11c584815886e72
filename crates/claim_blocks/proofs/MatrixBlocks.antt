-- Matrices that are read one by one, those without entries by themselves.
use Rattle.std.proofs.Common.{◌≡◌, ◌≢◌, ℕ, zero, suc, ◌+◌, ◌*◌, ◌-◌, ◌<◌, true, false, List, [], ◌∷◌, ◌++◌, length, get_or, cond, replicate, inl, inr, refl, sym, ap, ◌∙◌, subst, arith, append_assoc, append-nil}
use Rattle.std.specs.Prelude.{◌&&◌, nat_lt}
use Rattle.std.proofs.Common.{lt-ltb}
use Rattle.std.proofs.Math.Nat.{mul-zero, zero-mul}
use Rattle.std.proofs.lemmas.Bool.Decides.{eqb_tells}
use Rattle.std.proofs.lemmas.Bool.{cases_lt, cases_eq}
use Rattle.std.proofs.lemmas.List.{length-append, get_or_append_left, get_or_push}
use Rattle.quiver_paths.proofs.ListLemmas.{length-pushed}
use Rattle.linear_algebra.specs.Field.{Gf}
use Rattle.linear_algebra.specs.FieldLaws.{order-pos}
use Rattle.linear_algebra.proofs.Rows.{rows_same}
use Rattle.fp_linear.specs.Matrix.{PlainMatrix, plain, zero_rows, IsMatrix}
use Rattle.fp_linear.proofs.Matrices.{IsMatrix-held, rows_of-zeros}
use Rattle.module_types.specs.Shapes.{HasShape, AreMatrices}
use Rattle.object_lines.specs.Spelling.{at_line, at_lines}
use Rattle.claim_blocks.specs.Matrices.{empty_matrix, empties, filled}

some_product : (m n i j : ℕ) → i < m → j < n → m * n ≡ 0 → ⊥
some_product zero n i j l k e = absurd (omega (arith, l))
some_product (suc m) zero i j l k e = absurd (omega (arith, k))
some_product (suc m) (suc n) i j l k e = absurd (omega (arith, e))

-- the only matrix without entries
pub empty_shape : (q : Gf) (m n : ℕ) → m * n ≡ 0 → HasShape q m n (empty_matrix q m n)
empty_shape q m n e =
    let none : ◌≡◌ {A = List ℕ} [] (replicate (m * n) 0) = ap (λ k. replicate k 0) (sym e) in
    let held = IsMatrix-held q m n [] record { count = sym e; small = record { small = λ k. order-pos q }; fits = omega (arith, e) } in
    record {
      matrix = subst (λ rows. IsMatrix (plain q m n rows)) (rows_of-zeros m n [] none) held;
      field = refl;
      row_count = refl;
      col_count = refl;
    }

pub only_empty : (q : Gf) (m n : ℕ) (a : PlainMatrix) → m * n ≡ 0 → HasShape q m n a → a ≡ empty_matrix q m n
only_empty q m n a e s =
    let z = (empty_shape q m n e).matrix.grid in
    let g = s.matrix.grid in
    let same : a.rows ≡ zero_rows m n = rows_same m n a.rows (zero_rows m n) (g.count ∙ s.row_count) z.count
    (λ i l. g.width i (omega (arith, l, s.row_count)) ∙ s.col_count) z.width (λ i j l k. absurd (some_product m n i j l k e)) in
    λ i. record { field = s.field i; row_count = s.row_count i; col_count = s.col_count i; rows = same i }

module _ (q : Gf) (rows columns : ℕ → ℕ) where
  pub push_matrix : (ms : List PlainMatrix) (a : PlainMatrix) → AreMatrices q (length ms) rows columns ms → HasShape q (rows (length ms)) (columns (length ms)) a
      → AreMatrices q (length (ms ++ a ∷ [])) rows columns (ms ++ a ∷ [])
  push_matrix ms a are s = record {
    counted = refl;
    each = λ i d l. elim (cases_lt i (length ms)) [
      | inl inside ↦ subst (HasShape q (rows i) (columns i)) (sym (get_or_append_left ms (a ∷ []) d i inside)) (are.each i d inside)
      | inr past ↦
          let long = length-append ms (a ∷ []) in
          let e : length ms ≡ i = omega arith in
          subst (λ j. HasShape q (rows j) (columns j) (get_or (ms ++ a ∷ []) i d)) e (subst (HasShape q (rows (length ms)) (columns (length ms))) (sym (get_or_push ms a d i e)) s)
    ];
  }

  push_empties : (n : ℕ) (ms : List PlainMatrix) → AreMatrices q (length ms) rows columns ms
      → AreMatrices q (length (ms ++ empties q rows columns n (length ms))) rows columns (ms ++ empties q rows columns n (length ms))
  push_empties zero ms are = subst (λ l. AreMatrices q (length l) rows columns l) (sym (append-nil ms)) are
  push_empties (suc n) ms are =
      let i = length ms in
      let E = empty_matrix q (rows i) (columns i) in
      elim (eqb_tells (rows i * columns i) 0) [
        | inl here ↦
            let more = push_empties n (ms ++ E ∷ []) (push_matrix ms E are (empty_shape q (rows i) (columns i) here.1)) in
            let e : (ms ++ E ∷ []) ++ empties q rows columns n (length (ms ++ E ∷ [])) ≡ ms ++ empties q rows columns (suc n) i =
            append_assoc ms (E ∷ []) (empties q rows columns n (length (ms ++ E ∷ [])))
            ∙ (ap (λ k. ms ++ E ∷ empties q rows columns n k) (length-pushed ms (ms ++ E ∷ []) E refl)
            ∙ ap (λ b. ms ++ cond b (E ∷ empties q rows columns n (i + 1)) []) (sym here.0)) in
            subst (λ l. AreMatrices q (length l) rows columns l) e more
        | inr other ↦
            subst (λ l. AreMatrices q (length l) rows columns l) (sym (append-nil ms) ∙ ap (λ b. ms ++ cond b (E ∷ empties q rows columns n (i + 1)) []) (sym other.0)) are
      ]

  -- with the matrices without entries that come next
  pub push_filled : (count : ℕ) (ms : List PlainMatrix) → AreMatrices q (length ms) rows columns ms
      → AreMatrices q (length (filled q rows columns count ms)) rows columns (filled q rows columns count ms)
  push_filled count ms are = push_empties (count - length ms) ms are

  -- a matrix without entries is there already
  pub filled_empty : (count : ℕ) (ms : List PlainMatrix) → length ms < count → rows (length ms) * columns (length ms) ≡ 0
      → filled q rows columns count ms ≡ filled q rows columns count (ms ++ empty_matrix q (rows (length ms)) (columns (length ms)) ∷ [])
  filled_empty count ms l e =
      let i = length ms in
      let E = empty_matrix q (rows i) (columns i) in
      let long : length (ms ++ E ∷ []) ≡ i + 1 = length-pushed ms (ms ++ E ∷ []) E refl in
      let left : count - i ≡ suc (count - length (ms ++ E ∷ [])) = omega (arith, l, long) in
      elim (eqb_tells (rows i * columns i) 0) [
        | inl here ↦
            ap (λ n. ms ++ empties q rows columns n i) left
            ∙ (ap (λ b. ms ++ cond b (E ∷ empties q rows columns (count - length (ms ++ E ∷ [])) (i + 1)) []) here.0
            ∙ (ap (λ k. ms ++ E ∷ empties q rows columns (count - length (ms ++ E ∷ [])) k) (sym long)
            ∙ sym (append_assoc ms (E ∷ []) (empties q rows columns (count - length (ms ++ E ∷ [])) (length (ms ++ E ∷ []))))))
        | inr other ↦ absurd (other.1 e)
      ]

  -- where the next matrix has an entry, or none is left, nothing fills in
  pub filled_entry : (count : ℕ) (ms : List PlainMatrix) → rows (length ms) * columns (length ms) ≢ 0 → filled q rows columns count ms ≡ ms
  filled_entry count ms differs = by (count - length ms)
    where
      by : (n : ℕ) → ms ++ empties q rows columns n (length ms) ≡ ms
      by zero = append-nil ms
      by (suc n) = elim (eqb_tells (rows (length ms) * columns (length ms)) 0) [
        | inl here ↦ absurd (differs here.1)
        | inr other ↦ ap (λ b. ms ++ cond b (empty_matrix q (rows (length ms)) (columns (length ms)) ∷ empties q rows columns n (length ms + 1)) []) other.0 ∙ append-nil ms
      ]

  pub filled_whole : (count : ℕ) (ms : List PlainMatrix) → length ms ≡ count → filled q rows columns count ms ≡ ms
  filled_whole count ms e = let none : count - length ms ≡ 0 = omega (arith, e) in ap (λ n. ms ++ empties q rows columns n (length ms)) none ∙ append-nil ms

-- ---- their lines

no_product : (m n : ℕ) → m * n ≡ 0 → (nat_lt 0 m && nat_lt 0 n) ≡ false
no_product zero n e = refl
no_product (suc m) zero e = λ i. lt-ltb 0 (suc m) (omega arith) i && false
no_product (suc m) (suc n) e = absurd (omega (arith, e))

a_product : (m n : ℕ) → m * n ≢ 0 → (nat_lt 0 m && nat_lt 0 n) ≡ true
a_product zero n differs = absurd (differs (zero-mul n))
a_product (suc m) zero differs = absurd (differs (mul-zero (suc m)))
a_product (suc m) (suc n) differs = λ i. lt-ltb 0 (suc m) (omega arith) i && lt-ltb 0 (suc n) (omega arith) i

module _ (name : ℕ → List ℕ) where
  pub at_lines-empty : (i : ℕ) (a : PlainMatrix) (rest : List PlainMatrix) → a.row_count * a.col_count ≡ 0 → at_lines name i (a ∷ rest) ≡ at_lines name (i + 1) rest
  at_lines-empty i a rest e = ap (λ b. cond b (at_line (name i) a ∷ []) [] ++ at_lines name (i + 1) rest) (no_product a.row_count a.col_count e)

  pub at_lines-entry : (i : ℕ) (a : PlainMatrix) (rest : List PlainMatrix) → a.row_count * a.col_count ≢ 0 → at_lines name i (a ∷ rest) ≡ at_line (name i) a ∷ at_lines name (i + 1) rest
  at_lines-entry i a rest differs = ap (λ b. cond b (at_line (name i) a ∷ []) [] ++ at_lines name (i + 1) rest) (a_product a.row_count a.col_count differs)

  pub at_lines-append : (i : ℕ) (ms ns : List PlainMatrix) → at_lines name i (ms ++ ns) ≡ at_lines name i ms ++ at_lines name (i + length ms) ns
  at_lines-append i [] ns = ap (λ k. at_lines name k ns) (omega arith)
  at_lines-append i (a ∷ ms) ns =
      let more = at_lines-append (i + 1) ms ns ∙ ap (λ k. at_lines name (i + 1) ms ++ at_lines name k ns) (omega arith) in
      elim (cases_eq (a.row_count * a.col_count) 0) [
        | inl e ↦ at_lines-empty i a (ms ++ ns) e ∙ (more ∙ ap (λ l. l ++ at_lines name (i + length (a ∷ ms)) ns) (sym (at_lines-empty i a ms e)))
        | inr differs ↦
            at_lines-entry i a (ms ++ ns) differs ∙ (ap (λ l. at_line (name i) a ∷ l) more ∙ ap (λ l. l ++ at_lines name (i + length (a ∷ ms)) ns) (sym (at_lines-entry i a ms differs)))
      ]

  at_lines-empties : (q : Gf) (rows columns : ℕ → ℕ) (n i j : ℕ) → at_lines name j (empties q rows columns n i) ≡ []
  at_lines-empties q rows columns zero i j = refl
  at_lines-empties q rows columns (suc n) i j =
      let E = empty_matrix q (rows i) (columns i) in
      let rest = empties q rows columns n (i + 1) in
      elim (eqb_tells (rows i * columns i) 0) [
        | inl here ↦ ap (λ b. at_lines name j (cond b (E ∷ rest) [])) here.0 ∙ (at_lines-empty j E rest here.1 ∙ at_lines-empties q rows columns n (i + 1) (j + 1))
        | inr other ↦ ap (λ b. at_lines name j (cond b (E ∷ rest) [])) other.0
      ]

  pub at_lines-filled : (q : Gf) (rows columns : ℕ → ℕ) (count i : ℕ) (ms : List PlainMatrix) → at_lines name i (filled q rows columns count ms) ≡ at_lines name i ms
  at_lines-filled q rows columns count i ms =
      at_lines-append i ms (empties q rows columns (count - length ms) (length ms))
      ∙ (ap (λ l. at_lines name i ms ++ l) (at_lines-empties q rows columns (count - length ms) (length ms) (i + length ms)) ∙ append-nil (at_lines name i ms))

  -- one matrix with an entry more
  pub at_lines-push : (ms : List PlainMatrix) (a : PlainMatrix) → a.row_count * a.col_count ≢ 0 → at_lines name 0 (ms ++ a ∷ []) ≡ at_lines name 0 ms ++ at_line (name (length ms)) a ∷ []
  at_lines-push ms a differs =
      at_lines-append 0 ms (a ∷ []) ∙ ap (λ l. at_lines name 0 ms ++ l) (at_lines-entry (0 + length ms) a [] differs ∙ ap (λ k. at_line (name k) a ∷ []) (omega arith))
