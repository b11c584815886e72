-- Rows that are read one by one.
use Rattle.std.specs.Prelude.{IsTrue, ◌↔◌, nat_eq}
use Rattle.std.proofs.lemmas.Bool.Decides.{eqb_tells}
use Rattle.std.proofs.Common.{◌≡◌, true, false, ℕ, suc, ◌-◌, ◌+◌, ◌*◌, ◌<◌, ◌≤◌, List, [], ◌∷◌, ◌++◌, length, map, get_or, All, inl, inr, refl, sym, ap, ◌∙◌, subst, arith, append_assoc, append-nil}
use Rattle.std.proofs.lemmas.Bool.{cases_lt}
use Rattle.std.proofs.lemmas.List.{length-append, map-append, get_or_append_left, get_or-append-add, get_or_push}
use Rattle.std.proofs.lemmas.List.Elements.{All-nil, All-head, All-tail, All-push}
use Rattle.std.proofs.Math.Nat.{mul-le-mul_right, suc-mul}
use Rattle.text_lines.proofs.Readings.{Goes}
use Rattle.linear_algebra.specs.Field.{Gf, order}
use Rattle.linear_algebra.specs.Rows.{list_of, rows_of, IsRow}
use Rattle.linear_algebra.proofs.Rows.{length-rows_of, row-rows_of, list_of-is, list_of-same}
use Rattle.fp_linear.specs.Matrix.{PlainMatrix, plain, most_entries}
use Rattle.fp_linear.specs.Slices.{AreElements}
use Rattle.module_types.specs.Shapes.{HasShape}
use Rattle.deciding.proofs.Deciding.{like, both, below}
use Rattle.object_lines.specs.Spelling.{row_line}
use Rattle.object_lines.specs.Reading.{AddsRow}
use Rattle.object_lines.proofs.ClearLines.{StandsOutside, row_clear}
use Rattle.object_lines.proofs.DecidedLines.{row_decided}
use Rattle.object_lines.proofs.MatrixReading.{shape_rows, rows_shape}
use Rattle.object_lines.proofs.OneLine.{row_one}
use Rattle.claim_lines.proofs.Clear.{ClearLine}
use Rattle.claim_blocks.specs.Leading.{Leads}
use Rattle.claim_blocks.specs.PartRows.{PartRows, HoldsRows, rows_from, no_rows, matrix_of, FitsRow, with_row, RowStep}
use Rattle.claim_blocks.specs.Taking.{Takes}
use Rattle.claim_blocks.proofs.TakenLines.{takes, takes_own, takes_go}

-- a place in an earlier row
place_before : (i j k n : ℕ) → i < k → j < n → i * n + j < k * n
place_before i j k n l m = let up = mul-le-mul_right n (let s : suc i ≤ k = omega (arith, l) in s) in let e = suc-mul i n in omega (arith, up, e, m)

-- the entries of a row behind those of others
pub rows_of-push : (k n : ℕ) (s row : List ℕ) → length s ≡ k * n → length row ≡ n → rows_of k n s ++ row ∷ [] ≡ rows_of (suc k) n (s ++ row)
unfolding rows_of
rows_of-push k n s row long wide =
    list_of-is (suc k) (λ i. list_of n (λ j. get_or (s ++ row) (i * n + j) 0)) (rows_of k n s ++ row ∷ []) [] (let a = length-append (rows_of k n s) (row ∷ []) in let b = length-rows_of k n s in omega (arith, a, b))
    (λ i l. elim (cases_lt i k) [
      | inl before ↦
          get_or_append_left (rows_of k n s) (row ∷ []) [] i (let b = length-rows_of k n s in omega (arith, b, before))
          ∙ (row-rows_of k n s i before ∙ list_of-same n _ _ 0 (λ j m. sym (get_or_append_left s row 0 (i * n + j) (let p = place_before i j k n before m in omega (arith, p, long)))))
      | inr last ↦
          let e : i ≡ k = omega (arith, l, last) in
          get_or_push (rows_of k n s) row [] i (let b = length-rows_of k n s in omega (arith, b, e))
          ∙ list_of-is n (λ j. get_or (s ++ row) (i * n + j) 0) row 0 wide
          (λ j m. sym (ap (λ p. get_or (s ++ row) p 0) (let f : i * n ≡ length s = ap (λ x. x * n) e ∙ sym long in let g : i * n + j ≡ length s + j = omega (arith, f) in g) ∙ get_or-append-add s row j 0))
    ])

-- ---- what was read

-- so many rows of this length at most, and each is one
pub record AreRead (q : Gf) (width : ℕ) (r : PartRows) : Type 0 where
  pub field : r.field ≡ q
  pub width_is : r.width ≡ width
  pub few : length r.rows ≤ r.wanted
  pub all : All (IsRow q width) r.rows

pub read_none : (q : Gf) (width wanted : ℕ) → AreRead q width (no_rows q width wanted)
read_none q width wanted = record { field = refl; width_is = refl; few = omega arith; all = All-nil (IsRow q width) }

pub read_more : (q : Gf) (width : ℕ) (r : PartRows) (row : List ℕ) → AreRead q width r → FitsRow r row → AreRead q width (with_row r row)
read_more q width r row are fits = record {
  field = are.field;
  width_is = are.width_is;
  few = let l = length-append r.rows (row ∷ []) in let left = fits.left in omega (arith, l, left);
  all = All-push (IsRow q width) r.rows row are.all (subst (λ n. IsRow q n row) are.width_is (subst (λ f. IsRow f r.width row) are.field fits.is_row));
}

pub lines_more : (ls : List (List (List ℕ))) (rows : List (List ℕ)) (row : List ℕ) → ls ≡ map row_line rows → ls ++ row_line row ∷ [] ≡ map row_line (rows ++ row ∷ [])
lines_more ls rows row e = ap (λ x. x ++ row_line row ∷ []) e ∙ sym (map-append row_line rows (row ∷ []))

-- the rows are a matrix
pub read_shape : (q : Gf) (width : ℕ) (r : PartRows) → AreRead q width r → length r.rows * width ≤ most_entries → HasShape q (length r.rows) width (matrix_of r)
read_shape q width r are fits =
    subst (λ f. HasShape q (length r.rows) width (plain f (length r.rows) r.width r.rows)) (sym are.field)
    (subst (λ n. HasShape q (length r.rows) width (plain q (length r.rows) n r.rows)) (sym are.width_is) (rows_shape q (length r.rows) width r.rows fits refl are.all))

-- ---- rows are read one behind the other

pub one_row : (r : PartRows) (x y : List ℕ) → FitsRow r x → FitsRow r y → row_line x ≡ row_line y → x ≡ y
one_row r x y a b e = row_one r.field r.width x y a.is_row b.is_row e

-- the rows that are left, behind those that were read
read_rest : (q : Gf) (width wanted : ℕ) (done rest : List (List ℕ)) → length done + length rest ≤ wanted → All (IsRow q width) rest
    → Leads RowStep record { field = q; width = width; wanted = wanted; rows = done } (map row_line rest) record { field = q; width = width; wanted = wanted; rows = done ++ rest }
read_rest q width wanted done [] few all = ap (λ (rows : List (List ℕ)). record { field = q; width = width; wanted = wanted; rows = rows }) (append-nil done)
read_rest q width wanted done (row ∷ rest) few all =
    let r : PartRows = record { field = q; width = width; wanted = wanted; rows = done } in
    let long = length-append done (row ∷ []) in (
      with_row r row,
      takes_own (FitsRow r) row_line (with_row r) row (record { left = omega (arith, few); is_row = All-head (IsRow q width) row rest all }) (one_row r),
      subst (λ (rows : List (List ℕ)). Leads RowStep (with_row r row) (map row_line rest) record { field = q; width = width; wanted = wanted; rows = rows }) (append_assoc done (row ∷ []) rest)
          (read_rest q width wanted (done ++ row ∷ []) rest (omega (arith, few, long)) (All-tail (IsRow q width) row rest all)),
    )

pub read_all : (q : Gf) (width : ℕ) (rows : List (List ℕ)) → All (IsRow q width) rows
    → Leads RowStep (no_rows q width (length rows)) (map row_line rows) record { field = q; width = width; wanted = length rows; rows = rows }
read_all q width rows all = read_rest q width (length rows) [] rows (omega arith) all

-- of a matrix
pub matrix_back : (q : Gf) (m n : ℕ) (a : PlainMatrix) → HasShape q m n a → plain q (length a.rows) n a.rows ≡ a
matrix_back q m n a s =
    let counted = (shape_rows q m n a s).0 in
    λ i. record { field = sym s.field i; row_count = (counted ∙ sym s.row_count) i; col_count = sym s.col_count i; rows = a.rows }

pub row_goes_within : {Whole : Type 0} (r : PartRows) (within : PartRows → Whole) (ts : List (List ℕ)) → Goes (Takes (FitsRow r) row_line (λ row. within (with_row r row)) ts)
row_goes_within r within ts =
    takes_go (FitsRow r) row_line (λ row. within (with_row r row)) ts (one_row r)
    (like (λ d. (d.1.0, (record { left = d.0; is_row = d.1.1 }, d.1.2))) (λ x. (x.1.0.left, (x.0, x.1.0.is_row, x.1.1))) (both (below (length r.rows) r.wanted) (row_decided r.field r.width ts)))

pub row_line_clear : (c : ℕ) → StandsOutside c → (q : Gf) (n : ℕ) (row : List ℕ) → IsRow q n row → ClearLine c (row_line row)
row_line_clear c outside q n row is = record { some = λ e. none e; lacks = row_clear c outside q n row is }
  where
    none : row_line row ≡ [] → ⊥
    none e = cc

-- ---- by their entries

pub no_entries : (q : Gf) (width wanted : ℕ) (entries : List ℕ) → rows_from q width wanted 0 entries ≡ no_rows q width wanted
unfolding rows_of list_of
no_entries q width wanted entries = refl

clash : false ≡ true → ⊥
clash e = cc

pub whole_rows : (r : PartRows) (q : Gf) (width wanted read : ℕ) (entries : List ℕ) → rows_from q width wanted read entries ≡ r → IsTrue (nat_eq read wanted) ↔ (length r.rows ≡ r.wanted)
whole_rows r q width wanted read entries e =
    subst (λ (x : PartRows). IsTrue (nat_eq read wanted) ↔ (length x.rows ≡ x.wanted)) e
    (let long = length-rows_of read width entries in elim (eqb_tells read wanted) [
      | inl same ↦ (λ t. long ∙ same.1, λ t. same.0)
      | inr other ↦ (λ t. absurd (clash (sym other.0 ∙ t)), λ t. absurd (other.1 (sym long ∙ t)))
    ])

pub no_row_left : (r : PartRows) (q : Gf) (width wanted read : ℕ) (entries : List ℕ) (ts : List (List ℕ)) → rows_from q width wanted read entries ≡ r → read ≡ wanted → (next : PartRows) → RowStep r ts next → ⊥
no_row_left r q width wanted read entries ts e none next t =
    let same : rows_from q width wanted read entries ≡ r = e in
    let left = subst (λ (x : PartRows). length x.rows < x.wanted) (sym same) t.fits.left in
    let long = length-rows_of read width entries in
    absurd (omega (arith, left, long, none))

pub entries_matrix : (r : PartRows) (q : Gf) (width wanted read : ℕ) (entries : List ℕ) (m : PlainMatrix) → rows_from q width wanted read entries ≡ r → m ≡ plain q read width (rows_of read width entries) → m ≡ matrix_of r
entries_matrix r q width wanted read entries m e is =
    subst (λ (x : PartRows). m ≡ matrix_of x) e (is ∙ ap (λ k. plain q k width (rows_of read width entries)) (sym (length-rows_of read width entries)))

-- the entries of a row more
pub row_reads : (r : PartRows) (q : Gf) (width wanted read : ℕ) (entries new : List ℕ) (ts : List (List ℕ)) → rows_from q width wanted read entries ≡ r → HoldsRows q width wanted read entries → (read ≡ wanted → ⊥)
    → AddsRow q width row_line entries new ts → RowStep r ts (rows_from q width wanted (read + 1) new)
row_reads r q width wanted read entries new ts e holds more a =
    let long = length-rows_of read width entries in
    let few = holds.few in
    let step : suc read ≡ read + 1 = omega arith in
    subst (λ (x : PartRows). RowStep x ts (rows_from q width wanted (read + 1) new)) e
    (takes (FitsRow (rows_from q width wanted read entries)) row_line (with_row (rows_from q width wanted read entries)) ts a.row (rows_from q width wanted (read + 1) new)
    (record { left = below_of few more long; is_row = a.is_row }, a.spelled) (one_row (rows_from q width wanted read entries))
    (ap (λ (rows : List (List ℕ)). record { field = q; width = width; wanted = wanted; rows = rows })
    (ap (rows_of (read + 1) width) a.behind ∙ (ap (λ k. rows_of k width (entries ++ a.row)) (sym step) ∙ sym (rows_of-push read width entries a.row holds.counted a.is_row.count)))))
  where
    below_of : {i k n : ℕ} → k ≤ n → (k ≡ n → ⊥) → i ≡ k → i < n
    below_of {i} {k} {n} l other e = elim (cases_lt i n) [
      | inl inside ↦ inside
      | inr past ↦ absurd (other (omega (arith, l, past, e)))
    ]

elements_append : (q : Gf) (xs ys : List ℕ) → AreElements q xs → ((j : ℕ) → get_or ys j 0 < order q) → AreElements q (xs ++ ys)
elements_append q xs ys are small = record {
  small = λ j. elim (cases_lt j (length xs)) [
    | inl inside ↦ let l = are.small j in let e = get_or_append_left xs ys 0 j inside in omega (arith, l, e)
    | inr past ↦
        let k = j - length xs in
        let l = small k in
        let e : get_or (xs ++ ys) j 0 ≡ get_or ys k 0 = ap (λ i. get_or (xs ++ ys) i 0) (let f : j ≡ length xs + k = omega (arith, past) in f) ∙ get_or-append-add xs ys k 0 in
        omega (arith, l, e)
  ];
}

-- the entries that are kept with a row more
pub holds_more : (q : Gf) (width wanted read : ℕ) (entries new : List ℕ) (ts : List (List ℕ)) → HoldsRows q width wanted read entries → (read ≡ wanted → ⊥) → AddsRow q width row_line entries new ts
    → HoldsRows q width wanted (read + 1) new
holds_more q width wanted read entries new ts holds more a = record {
  counted = ap length a.behind ∙ (length-append entries a.row ∙ (let l = holds.counted in let w = a.is_row.count in let s = suc-mul read width in let t : suc read * width ≡ (read + 1) * width = ap (λ k. k * width) (omega arith) in omega (arith, l, w, s, t)));
  small = subst (AreElements q) (sym a.behind) (elements_append q entries a.row holds.small a.is_row.small);
  few = let few = holds.few in below few more;
  fits = holds.fits;
}
  where
    below : {k n : ℕ} → k ≤ n → (k ≡ n → ⊥) → k + 1 ≤ n
    below {k} {n} l other = elim (cases_lt k n) [
      | inl inside ↦ omega (arith, inside)
      | inr past ↦ absurd (other (omega (arith, l, past)))
    ]
