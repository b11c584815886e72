-- The rows that a line holds, one by one, as the rows of a matrix.
use Rattle.std.proofs.Common.{ℕ, zero, suc, ◌≡◌, ◌<◌, ◌≤◌, ◌+◌, ◌*◌, ◌-◌, Bool, true, false, inl, inr, List, [], ◌∷◌, ◌++◌, length, take, get_or, replicate, refl, sym, ap, ◌∙◌, subst, arith, mul-le-mul_right, suc-mul, add-one}
use Rattle.std.specs.Prelude.{All, nat_eq, ◌&&◌, not, slice_index}
use Rattle.std.specs.List.{list_all}
use Rattle.std.proofs.lemmas.Bool.{cases_lt, true≢false, eqb-true}
use Rattle.std.proofs.lemmas.List.{length-append, get_or_append_left, get_or-append-add, get_or_push, take_more, take_all, get_or_default, get_or_past, length-replicate}
use Rattle.std.proofs.lemmas.List.Elements.{All-get_or}
use Rattle.linear_algebra.specs.Field.{Gf, order}
use Rattle.linear_algebra.specs.FieldLaws.{order-pos}
use Rattle.linear_algebra.specs.Rows.{list_of, rows_of, entry}
use Rattle.linear_algebra.proofs.Rows.{length-rows_of, row-rows_of, list_of-is, list_of-same}
use Rattle.fp_linear.specs.Matrix.{PlainMatrix, plain, zero_rows, IsMatrix, most_entries}
use Rattle.fp_linear.specs.Slices.{AreElements}
use Rattle.fp_linear.proofs.Matrices.{IsMatrix-held, rows_of-zeros, zero_at}
use Rattle.script_types.specs.Ranges.{IsRow}
use Rattle.module_types.specs.Shapes.{HasShape}
use Rattle.script_answers.specs.Written.{rows_fit, matrix_or_zero}

-- ---- what fits

last_parts : (a b c d : Bool) → (a && b && c && d) ≡ true → (c ≡ true) × (d ≡ true)
last_parts true true true d e = (refl, e)
last_parts true true false d e = absurd (true≢false (sym e))
last_parts true false c d e = absurd (true≢false (sym e))
last_parts false b c d e = absurd (true≢false (sym e))

pass_all : {A : Type 0} (p : A → Bool) (xs : List A) → list_all p xs ≡ true → (i : ℕ) (d : A) → i < length xs → p (get_or xs i d) ≡ true
pass_all p [] e i d l = absurd (omega arith)
pass_all p (x ∷ xs) e zero d l = head (p x) (list_all p xs) e
  where
    head : (a b : Bool) → (a && b) ≡ true → a ≡ true
    head true b e = refl
    head false b e = e
pass_all p (x ∷ xs) e (suc i) d l = pass_all p xs (tail (p x) (list_all p xs) e) i d (omega arith)
  where
    tail : (a b : Bool) → (a && b) ≡ true → b ≡ true
    tail true b e = e
    tail false b e = absurd (true≢false (sym e))

-- some rows that fit are all rows of the matrix
pub record AreAllRows (m n : ℕ) (rows : List (List ℕ)) : Type 0 where
  pub count : length rows ≡ m
  pub width : (i : ℕ) → i < length rows → length (get_or rows i []) ≡ n

pub rows_are : (m n : ℕ) (rows : List (List ℕ)) → (rows ≡ [] → ⊥) → rows_fit m n rows ≡ true → AreAllRows m n rows
rows_are m n [] some e = absurd (some refl)
rows_are m n (row ∷ rows) some e =
    let p = last_parts (not (nat_eq m 0)) (not (nat_eq n 0)) (nat_eq (suc (length rows)) m) (list_all (λ (r : List ℕ). nat_eq (length r) n) (row ∷ rows)) e in
    record {
      count = eqb-true _ _ p.0;
      width = λ i l. eqb-true _ _ (pass_all (λ (r : List ℕ). nat_eq (length r) n) (row ∷ rows) p.1 i [] l);
    }

pub filled : (q : Gf) (m n : ℕ) (rows : List (List ℕ)) → (rows ≡ [] → ⊥) → matrix_or_zero q m n rows ≡ plain q m n rows
filled q m n [] some = absurd (some refl)
filled q m n (row ∷ rows) some = refl

pub emptied : (q : Gf) (m n : ℕ) (rows : List (List ℕ)) → rows ≡ [] → matrix_or_zero q m n rows ≡ plain q m n (zero_rows m n)
emptied q m n rows e = ap (matrix_or_zero q m n) e

-- ---- row by row

append_elements : (q : Gf) (s r : List ℕ) → AreElements q s → All (λ e. e < order q) r → AreElements q (s ++ r)
append_elements q s r a b = record {
  small = λ k. elim (cases_lt k (length s)) [
    | inl l ↦ let e = get_or_append_left s r 0 k l in let z = a.small k in omega (arith, e, z)
    | inr l ↦
        let at : length s + (k - length s) ≡ k = omega (arith, l) in
        let e : get_or (s ++ r) k 0 ≡ get_or r (k - length s) 0 = ap (λ i. get_or (s ++ r) i 0) (sym at) ∙ get_or-append-add s r (k - length s) 0 in
        elim (cases_lt (k - length s) (length r)) [
          | inl inside ↦ let z = All-get_or (λ e. e < order q) r (k - length s) 0 inside b in omega (arith, e, z)
          | inr past ↦ let z = get_or_past r (k - length s) 0 past in let o = order-pos q in omega (arith, e, z, o)
        ]
  ];
}

place_before : (i j k n : ℕ) → i < k → j < n → i * n + j < k * n
place_before i j k n l m = let up = mul-le-mul_right n (let s : suc i ≤ k = omega (arith, l) in s) in let e = suc-mul i n in omega (arith, up, e, m)

rows_of-push : (k n : ℕ) (s row : List ℕ) → length s ≡ k * n → length row ≡ n → rows_of k n s ++ row ∷ [] ≡ rows_of (suc k) n (s ++ row)
unfolding rows_of
rows_of-push k n s row long wide =
    list_of-is (suc k) (λ i. list_of n (λ j. get_or (s ++ row) (i * n + j) 0)) (rows_of k n s ++ row ∷ []) [] (let a = length-append (rows_of k n s) (row ∷ []) in let b = length-rows_of k n s in omega (arith, a, b))
    (λ i l. elim (cases_lt i k) [
      | inl before ↦
          get_or_append_left (rows_of k n s) (row ∷ []) [] i (let b = length-rows_of k n s in omega (arith, b, before))
          ∙ (row-rows_of k n s i before ∙ list_of-same n _ _ 0 (λ j m. sym (get_or_append_left s row 0 (i * n + j) (let p = place_before i j k n before m in omega (arith, p, long)))))
      | inr last ↦
          let e : i ≡ k = omega (arith, l, last) in
          get_or_push (rows_of k n s) row [] i (let b = length-rows_of k n s in omega (arith, b, e))
          ∙ list_of-is n (λ j. get_or (s ++ row) (i * n + j) 0) row 0 wide
          (λ j m. sym (ap (λ p. get_or (s ++ row) p 0) (let f : i * n ≡ length s = ap (λ x. x * n) e ∙ sym long in let g : i * n + j ≡ length s + j = omega (arith, f) in g) ∙ get_or-append-add s row j 0))
    ])

-- the entries of the first i rows
pub record HoldFirst (q : Gf) (n i : ℕ) (rows : List (List ℕ)) (entries : List ℕ) : Type 0 where
  pub count : length entries ≡ i * n
  pub elements : AreElements q entries
  pub rows_are : rows_of i n entries ≡ take i rows

pub first_none : (q : Gf) (n : ℕ) (rows : List (List ℕ)) (entries : List ℕ) → entries ≡ [] → HoldFirst q n 0 rows entries
unfolding rows_of list_of
first_none q n rows entries e = record {
  count = let c = ap length e in omega (arith, c);
  elements = record { small = λ k. let o = order-pos q in let z : slice_index entries k ≡ 0 = ap (λ s. slice_index s k) e in omega (arith, o, z) };
  rows_are = refl;
}

pub first_more : (q : Gf) (m n i : ℕ) (rows : List (List ℕ)) (row entries new : List ℕ) → (rows ≡ [] → ⊥) → rows_fit m n rows ≡ true → All (IsRow q) rows → i < length rows → row ≡ get_or rows i row → new ≡ entries ++ row
    → HoldFirst q n i rows entries → HoldFirst q n (i + 1) rows new
first_more q m n i rows row entries new some fit all l is e held =
    let at : row ≡ get_or rows i [] = is ∙ get_or_default rows i row [] l in
    let wide : length row ≡ n = ap length at ∙ (rows_are m n rows some fit).width i l in
    let entries_of : All (λ e. e < order q) row = subst (λ (r : List ℕ). All (λ e. e < order q) r) (sym at) (All-get_or (IsRow q) rows i [] l all).entries in
    subst (λ (s : List ℕ). HoldFirst q n (i + 1) rows s) (sym e) (record {
      count = let a = length-append entries row in let c = held.count in let b = suc-mul i n in let s : (i + 1) * n ≡ i * n + n = ap (λ k. k * n) (add-one i) ∙ b in omega (arith, a, c, s, wide);
      elements = append_elements q entries row held.elements entries_of;
      rows_are = ap (λ k. rows_of k n (entries ++ row)) (add-one i) ∙ sym (rows_of-push i n entries row held.count wide) ∙ ap (λ (rs : List (List ℕ)). rs ++ row ∷ []) held.rows_are
          ∙ ap (λ (r : List ℕ). take i rows ++ r ∷ []) at ∙ sym (take_more rows i [] l);
    })

pub entries_count : (q : Gf) (m n i : ℕ) (rows : List (List ℕ)) (entries : List ℕ) → (rows ≡ [] → ⊥) → rows_fit m n rows ≡ true → i ≡ length rows → HoldFirst q n i rows entries → length entries ≡ m * n
entries_count q m n i rows entries some fit e held = held.count ∙ ap (λ k. k * n) (e ∙ (rows_are m n rows some fit).count)

pub matrix_is : (q : Gf) (m n i : ℕ) (rows : List (List ℕ)) (entries : List ℕ) (a : PlainMatrix) → (rows ≡ [] → ⊥) → rows_fit m n rows ≡ true → i ≡ length rows → HoldFirst q n i rows entries → a ≡ plain q m n (rows_of m n entries) → a ≡ matrix_or_zero q m n rows
matrix_is q m n i rows entries a some fit e held is =
    is ∙ ap (plain q m n) (ap (λ k. rows_of k n entries) (sym (e ∙ (rows_are m n rows some fit).count)) ∙ held.rows_are ∙ take_all i rows (omega (arith, e))) ∙ sym (filled q m n rows some)

-- ---- shapes

zero_shape : (q : Gf) (m n : ℕ) → m * n ≤ most_entries → HasShape q m n (plain q m n (zero_rows m n))
zero_shape q m n size =
    let s : List ℕ = replicate (m * n) 0 in
    record {
      matrix = subst (λ (rows : List (List ℕ)). IsMatrix (plain q m n rows)) (rows_of-zeros m n s refl)
          (IsMatrix-held q m n s (record { count = length-replicate {A = ℕ} (m * n) 0; small = record { small = λ k. small k }; fits = size }));
      field = refl;
      row_count = refl;
      col_count = refl;
    }
  where
    small : (k : ℕ) → slice_index (replicate (m * n) 0) k < order q
    small k = let o = order-pos q in let z = zero_at (m * n) (replicate (m * n) 0) k refl in omega (arith, o, z)

entry_small : (q : Gf) (rows : List (List ℕ)) → All (IsRow q) rows → (i j : ℕ) → entry rows i j < order q
unfolding entry
entry_small q rows all i j =
    let o = order-pos q in
    elim (cases_lt i (length rows)) [
      | inl l ↦ elim (cases_lt j (length (get_or rows i []))) [
        | inl m ↦ All-get_or (λ e. e < order q) (get_or rows i []) j 0 m (All-get_or (IsRow q) rows i [] l all).entries
        | inr past ↦ let z = get_or_past (get_or rows i []) j 0 past in omega (arith, o, z)
      ]
      | inr past ↦ let z : slice_index (get_or rows i []) j ≡ 0 = ap (λ (r : List ℕ). slice_index r j) (get_or_past rows i [] past) in omega (arith, o, z)
    ]

pub shape_of : (q : Gf) (m n : ℕ) (rows : List (List ℕ)) → m * n ≤ most_entries → ((rows ≡ [] → ⊥) → rows_fit m n rows ≡ true) → All (IsRow q) rows → HasShape q m n (matrix_or_zero q m n rows)
shape_of q m n [] size fit all = zero_shape q m n size
shape_of q m n (row ∷ rows) size fit all =
    let some : (row ∷ rows ≡ []) → ⊥ = (λ e. let l = ap length e in absurd (omega (arith, l))) in
    let r = rows_are m n (row ∷ rows) some (fit some) in
    record {
      matrix = record { grid = record { count = r.count; width = λ i l. r.width i (let c = r.count in omega (arith, l, c)); small = entry_small q (row ∷ rows) all }; fits = size };
      field = refl;
      row_count = refl;
      col_count = refl;
    }
