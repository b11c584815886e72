-- Matrices: by their rows, one by one.
use Rattle.std.proofs.Common.{◌≡◌, ℕ, ◌+◌, ◌*◌, ◌<◌, ◌≤◌, zero, suc, Bool, true, false, List, [], ◌∷◌, ◌++◌, take, drop, length, get_or, All, decimal, refl, sym, ap, ◌∙◌, subst, inl, inr, arith, append_assoc, append-nil}
use Rattle.std.specs.Prelude.{MatchBool}
use Rattle.std.specs.List.{concat}
use Rattle.std.proofs.lemmas.Bool.{cases_lt}
use Rattle.std.proofs.lemmas.List.{length-append, length-map, take-append-drop, get_or_past, get_or_default, get_or_append_left, get_or-append-add, ext_get_or, length-take-le}
use Rattle.std.proofs.lemmas.List.Elements.{All-nil, All-cons, All-head, All-tail, All-append, All-take}
use Rattle.std.proofs.Math.Dec.{eqb-suc-zero}
use Rattle.std.proofs.Math.Nat.{suc-mul, zero-mul}
use Rattle.linear_algebra.specs.Field.{Gf, order}
use Rattle.linear_algebra.specs.Rows.{IsRow, IsGrid, rows_of, list_of, entry}
use Rattle.linear_algebra.proofs.Rows.{length-rows_of, row-rows_of, length-list_of, get_or-list_of}
use Rattle.fp_linear.specs.Matrix.{PlainMatrix, plain, most_entries}
use Rattle.fp_linear.specs.Slices.{AreElements}
use Rattle.header_text.proofs.Joining.{concat-append}
use Rattle.module_types.specs.Shapes.{HasShape}
use Rattle.object_lines.specs.Spelling.{numbers_form, slash_each, matrix_form}
use Rattle.object_lines.specs.Reading.{IsElement, Takes, BeginsOtherwise, slash_before, TakesRow, LacksRow, TakesRows, LacksRows}
use Rattle.object_lines.proofs.Taking.{same_front, no_list}
use Rattle.object_lines.proofs.RowReading.{all_small, row_all, is_row}
use Rattle.object_lines.proofs.WrittenLines.{slash-append, matrix-more, matrix_take}

-- ---- lengths

slash_length : (n : ℕ) (rows us : List (List ℕ)) → All (λ r. length r ≡ n) rows → All (λ r. length r ≡ n) us → length rows ≡ length us → length (slash_each rows) ≡ length (slash_each us)
slash_length n [] [] a b e = refl
slash_length n [] (u ∷ us) a b e = absurd (omega (arith, e))
slash_length n (r ∷ rows) [] a b e = absurd (omega (arith, e))
slash_length n (r ∷ rows) (u ∷ us) a b e =
    let rest = slash_length n rows us (All-tail (λ x. length x ≡ n) r rows a) (All-tail (λ x. length x ≡ n) u us b) (omega (arith, e)) in
    let same = All-head (λ x. length x ≡ n) r rows a in
    let alike = All-head (λ x. length x ≡ n) u us b in
    omega (arith, length-append (numbers_form r) (slash_each rows), length-append (numbers_form u) (slash_each us), length-map r decimal, length-map u decimal)

-- rows of one length, as many, have as many tokens
pub form_length : (n : ℕ) (rows us : List (List ℕ)) → All (λ r. length r ≡ n) rows → All (λ r. length r ≡ n) us → length rows ≡ length us → length (matrix_form rows) ≡ length (matrix_form us)
form_length n [] [] a b e = refl
form_length n [] (u ∷ us) a b e = absurd (omega (arith, e))
form_length n (r ∷ rows) [] a b e = absurd (omega (arith, e))
form_length n (r ∷ rows) (u ∷ us) a b e =
    let rest = slash_length n rows us (All-tail (λ x. length x ≡ n) r rows a) (All-tail (λ x. length x ≡ n) u us b) (omega (arith, e)) in
    let same = All-head (λ x. length x ≡ n) r rows a in
    let alike = All-head (λ x. length x ≡ n) u us b in
    omega (arith, length-append (numbers_form r) (slash_each rows), length-append (numbers_form u) (slash_each us), length-map r decimal, length-map u decimal)

pub row_lengths : (q : Gf) (n : ℕ) (rows : List (List ℕ)) → All (IsRow q n) rows → All (λ r. length r ≡ n) rows
row_lengths q n rows all = λ i d h. (all i d h).count

-- ---- one row more

-- rows in front of others
front_form : (xs ys : List (List ℕ)) → (more : List (List ℕ)) × (matrix_form (xs ++ ys) ≡ matrix_form xs ++ more)
front_form [] ys = (matrix_form ys, refl)
front_form (x ∷ xs) ys = (slash_each ys, ap (λ l. numbers_form x ++ l) (slash-append xs ys) ∙ sym (append_assoc (numbers_form x) (slash_each xs) (slash_each ys)))

matrix_push : (xs : List (List ℕ)) (row : List ℕ) → matrix_form (xs ++ row ∷ []) ≡ (matrix_form xs ++ slash_before (length xs)) ++ numbers_form row
matrix_push [] row = append-nil (numbers_form row)
matrix_push (x ∷ xs) row = rw (eqb-suc-zero (length xs)) (matrix-more x xs row)

pub rows_none : (q : Gf) (n : ℕ) (entries : List ℕ) (tokens : List (List ℕ)) → entries ≡ [] → TakesRows q 0 n entries tokens tokens
rows_none q n entries tokens e = record { taken = []; counted = refl; all = All-nil (IsRow q n); entries_are = e; spelled = refl }

pub rows_more : (q : Gf) (i n : ℕ) (old new : List ℕ) (tokens rest less : List (List ℕ)) → TakesRows q i n old tokens rest → TakesRow q i n old new rest less → TakesRows q (i + 1) n new tokens less
rows_more q i n old new tokens rest less t r = record {
  taken = t.taken ++ r.row ∷ [];
  counted = let counted = t.counted in omega (arith, length-append t.taken (r.row ∷ []));
  all = All-append (IsRow q n) t.taken (r.row ∷ []) t.all (All-cons (IsRow q n) r.row [] r.is_row (All-nil (IsRow q n)));
  entries_are = r.behind ∙ (ap (λ l. l ++ r.row) t.entries_are ∙ sym (concat-append t.taken (r.row ∷ []) ∙ ap (λ l. concat t.taken ++ l) (append-nil r.row)));
  spelled = t.spelled ∙ (ap (λ l. matrix_form t.taken ++ l) r.spelled
      ∙ (sym (append_assoc (matrix_form t.taken) (slash_before i ++ numbers_form r.row) less)
      ∙ ap (λ l. l ++ less) (sym (append_assoc (matrix_form t.taken) (slash_before i) (numbers_form r.row))
      ∙ (ap (λ k. (matrix_form t.taken ++ slash_before k) ++ numbers_form r.row) (sym t.counted) ∙ sym (matrix_push t.taken r.row)))));
}

-- where the next row is missing, there are no more rows than were taken
pub no_more_rows : (q : Gf) (i m n : ℕ) (entries : List ℕ) (tokens rest : List (List ℕ)) → TakesRows q i n entries tokens rest → i < m → LacksRow q i n rest → LacksRows q m n tokens
no_more_rows q i m n entries tokens rest t l none = λ rows less counted all e.
    let row = get_or rows i [] in
    let front = take i rows in
    let cut = front_form (take (i + 1) rows) (drop (i + 1) rows) in
    let more = cut.0 in
    let form : matrix_form rows ≡ ((matrix_form front ++ slash_before i) ++ numbers_form row) ++ more =
    ap matrix_form (sym (take-append-drop (i + 1) rows)) ∙ (cut.1 ∙ ap (λ x. x ++ more) (matrix_take rows i [] (omega arith))) in
    let flat : (((matrix_form front ++ slash_before i) ++ numbers_form row) ++ more) ++ less ≡ matrix_form front ++ ((slash_before i ++ numbers_form row) ++ (more ++ less)) = simp append_assoc in
    let size : length front ≡ i = length-take-le i rows (omega arith) in
    let same = same_front (matrix_form t.taken) (matrix_form front) rest ((slash_before i ++ numbers_form row) ++ (more ++ less))
    (form_length n t.taken front (row_lengths q n t.taken t.all) (All-take (λ r. length r ≡ n) i rows (row_lengths q n rows all)) (let counted = t.counted in omega arith))
    (sym t.spelled ∙ (e ∙ (ap (λ x. x ++ less) form ∙ flat))) in
    none row (more ++ less) (all i [] (omega arith)) same.1

-- tokens behind the rows: there are more tokens than a matrix has
pub longer_matrix : (q : Gf) (m n : ℕ) (entries : List ℕ) (tokens rest : List (List ℕ)) → (rest ≡ [] → ⊥) → TakesRows q m n entries tokens rest
    → (rows : List (List ℕ)) → length rows ≡ m → All (IsRow q n) rows → tokens ≡ matrix_form rows → ⊥
longer_matrix q m n entries tokens rest some t rows counted all e =
    let same = form_length n t.taken rows (row_lengths q n t.taken t.all) (row_lengths q n rows all) (let few = t.counted in omega arith) in
    some (no_list rest (omega (arith, ap length (sym t.spelled ∙ e), length-append (matrix_form t.taken) rest)))

-- ---- the matrix of the rows

rows_by : (p q : Gf) (m n : ℕ) (rows : List (List ℕ)) → p ≡ q → IsGrid p m n rows → All (IsRow q n) rows
unfolding entry
rows_by p q m n rows e grid = λ i d h.
    let same : get_or rows i d ≡ get_or rows i [] = get_or_default rows i d [] h in
    record {
      count = ap length same ∙ grid.width i (let count = grid.count in omega arith);
      small = λ j. subst (λ r. get_or r j 0 < order q) (sym same) (subst (λ f. get_or (get_or rows i []) j 0 < order f) e (grid.small i j));
    }

-- the rows of a matrix of a shape
pub shape_rows : (q : Gf) (m n : ℕ) (a : PlainMatrix) → HasShape q m n a → (length a.rows ≡ m) × All (IsRow q n) a.rows
shape_rows q m n a s = (s.matrix.grid.count ∙ s.row_count, rows_by a.field q m n a.rows s.field (subst (λ k. IsGrid a.field k n a.rows) s.row_count (subst (λ k. IsGrid a.field a.row_count k a.rows) s.col_count s.matrix.grid)))

-- rows make a matrix
pub rows_shape : (q : Gf) (m n : ℕ) (rows : List (List ℕ)) → m * n ≤ most_entries → length rows ≡ m → All (IsRow q n) rows → HasShape q m n (plain q m n rows)
unfolding entry
rows_shape q m n rows fits counted all = record {
  matrix = record {
    grid = record {
      count = counted;
      width = λ i h. (all i [] (omega arith)).count;
      small = λ i j. elim (cases_lt i (length rows)) [
        | inl inside ↦ (all i [] inside).small j
        | inr past ↦ subst (λ r. get_or r j 0 < order q) (sym (get_or_past rows i [] past)) (all_small q [] (All-nil (IsElement q)) j)
      ];
    };
    fits = fits;
  };
  field = refl;
  row_count = refl;
  col_count = refl;
}

concat_length : (n : ℕ) (rows : List (List ℕ)) → All (λ r. length r ≡ n) rows → length (concat rows) ≡ length rows * n
concat_length n [] all = omega arith
concat_length n (r ∷ rows) all =
    let rest = concat_length n rows (All-tail (λ x. length x ≡ n) r rows all) in
    let here = All-head (λ x. length x ≡ n) r rows all in
    omega (arith, length-append r (concat rows), suc-mul (length rows) n)

pub concat_small : (q : Gf) (n : ℕ) (rows : List (List ℕ)) → All (IsRow q n) rows → All (IsElement q) (concat rows)
concat_small q n [] all = All-nil (IsElement q)
concat_small q n (r ∷ rows) all = All-append (IsElement q) r (concat rows) (row_all q n r (All-head (IsRow q n) r rows all)) (concat_small q n rows (All-tail (IsRow q n) r rows all))

concat_at : (n : ℕ) (rows : List (List ℕ)) (i j : ℕ) → All (λ r. length r ≡ n) rows → i < length rows → j < n → get_or (concat rows) (i * n + j) 0 ≡ get_or (get_or rows i []) j 0
concat_at n [] i j all h k = absurd (omega arith)
concat_at n (r ∷ rows) zero j all h k =
    let here = All-head (λ x. length x ≡ n) r rows all in
    let at' : 0 * n + j ≡ j = omega (arith, zero-mul n) in
    ap (λ x. get_or (r ++ concat rows) x 0) at' ∙ get_or_append_left r (concat rows) 0 j (omega arith)
concat_at n (r ∷ rows) (suc i) j all h k =
    let here = All-head (λ x. length x ≡ n) r rows all in
    let at' : suc i * n + j ≡ length r + (i * n + j) = omega (arith, suc-mul i n) in
    ap (λ x. get_or (r ++ concat rows) x 0) at' ∙ (get_or-append-add r (concat rows) (i * n + j) 0 ∙ concat_at n rows i j (All-tail (λ x. length x ≡ n) r rows all) (omega arith) k)

pub rows_of-concat : (n : ℕ) (rows : List (List ℕ)) → All (λ r. length r ≡ n) rows → rows_of (length rows) n (concat rows) ≡ rows
rows_of-concat n rows all =
    let m = length rows in
    let s = concat rows in
    let size = length-rows_of m n s in
    ext_get_or [] (rows_of m n s) rows size (λ i h.
    let inside : i < m = omega arith in
    let f = λ (j : ℕ). get_or s (i * n + j) 0 in
    let wide = length-list_of n f in
    row-rows_of m n s i inside
    ∙ ext_get_or 0 (list_of n f) (get_or rows i []) (wide ∙ sym (all i [] inside)) (λ j k.
    let within : j < n = omega arith in get_or-list_of n f j 0 within ∙ concat_at n rows i j all inside within))

-- what was taken as rows is a matrix
pub matrix_is : (q : Gf) (m n : ℕ) (entries : List ℕ) (tokens rest : List (List ℕ)) (a : PlainMatrix) → rest ≡ [] → TakesRows q m n entries tokens rest → m * n ≤ most_entries
    → a ≡ plain q m n (rows_of m n entries) → HasShape q m n a × (tokens ≡ matrix_form a.rows)
matrix_is q m n entries tokens rest a none t fits e =
    let rows : rows_of m n entries ≡ t.taken = ap (rows_of m n) t.entries_are ∙ (ap (λ k. rows_of k n (concat t.taken)) (sym t.counted) ∙ rows_of-concat n t.taken (row_lengths q n t.taken t.all)) in
    let same : a ≡ plain q m n t.taken = e ∙ ap (plain q m n) rows in (
      subst (HasShape q m n) (sym same) (rows_shape q m n t.taken fits t.counted t.all),
      t.spelled ∙ (ap (λ l. matrix_form t.taken ++ l) none ∙ (append-nil (matrix_form t.taken) ∙ ap (λ (x : PlainMatrix). matrix_form x.rows) (sym same))),
    )

pub entries_count : (q : Gf) (m n : ℕ) (entries : List ℕ) (tokens rest : List (List ℕ)) → TakesRows q m n entries tokens rest → length entries ≡ m * n
entries_count q m n entries tokens rest t = ap length t.entries_are ∙ (concat_length n t.taken (row_lengths q n t.taken t.all) ∙ ap (λ k. k * n) t.counted)

pub entries_small : (q : Gf) (m n : ℕ) (entries : List ℕ) (tokens rest : List (List ℕ)) → TakesRows q m n entries tokens rest → AreElements q entries
entries_small q m n entries tokens rest t = record { small = all_small q entries (subst (All (IsElement q)) (sym t.entries_are) (concat_small q n t.taken t.all)) }

pub no_matrix : (q : Gf) (m n : ℕ) (tokens : List (List ℕ)) → LacksRows q m n tokens → (a : PlainMatrix) → HasShape q m n a → tokens ≡ matrix_form a.rows → ⊥
no_matrix q m n tokens none a s e = let rows = shape_rows q m n a s in none a.rows [] rows.0 rows.1 (e ∙ sym (append-nil (matrix_form a.rows)))

pub no_longer_matrix : (q : Gf) (m n : ℕ) (entries : List ℕ) (tokens rest : List (List ℕ)) → (rest ≡ [] → ⊥) → TakesRows q m n entries tokens rest
    → (a : PlainMatrix) → HasShape q m n a → tokens ≡ matrix_form a.rows → ⊥
no_longer_matrix q m n entries tokens rest some t a s e = let rows = shape_rows q m n a s in longer_matrix q m n entries tokens rest some t a.rows rows.0 rows.1 e

pub too_large : (q : Gf) (m n : ℕ) (a : PlainMatrix) → most_entries < m * n → HasShape q m n a → ⊥
too_large q m n a large s =
    let fits = s.matrix.fits in
    let same : a.row_count * a.col_count ≡ m * n = ap (λ k. k * a.col_count) s.row_count ∙ ap (λ k. m * k) s.col_count in
    absurd (omega arith)

-- a row behind what stands before it
pub row_answer : (b : Bool) (q : Gf) (i n : ℕ) (old new : List ℕ) (tokens mid rest : List (List ℕ)) → tokens ≡ slash_before i ++ mid
    → MatchBool b (Takes decimal (IsElement q) n old new mid rest) (BeginsOtherwise decimal (IsElement q) n mid) → MatchBool b (TakesRow q i n old new tokens rest) (LacksRow q i n tokens)
row_answer true q i n old new tokens mid rest e t = record {
  row = t.taken;
  is_row = is_row q n t.taken t.counted t.all;
  behind = t.behind;
  spelled = e ∙ (ap (λ l. slash_before i ++ l) t.spelled ∙ sym (append_assoc (slash_before i) (numbers_form t.taken) rest));
}
row_answer false q i n old new tokens mid rest e other = λ row less is f.
    other row less is.count (row_all q n row is) (same_front (slash_before i) (slash_before i) mid (numbers_form row ++ less) refl (sym e ∙ (f ∙ append_assoc (slash_before i) (numbers_form row) less))).1
