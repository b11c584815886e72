-- The values at the rows of a basis as a column, and rows times such a column.
use Rattle.std.proofs.Common.{ℕ, ◌<◌, ◌≡◌, ◌+◌, ◌*◌, List, [], ◌++◌, length, get_or, take, drop, sym, ap, ap₂, ◌∙◌, inl, inr, arith, subst, mod-eq_of_lt}
use Rattle.std.proofs.lemmas.Bool.{cases_lt}
use Rattle.std.proofs.lemmas.List.{get_or_past}
use Rattle.linear_algebra.specs.Field.{Gf, order}
use Rattle.linear_algebra.specs.FieldLaws.{order-pos}
use Rattle.linear_algebra.specs.Matrix.{Mat, Row, zeros, ◌·◌}
use Rattle.linear_algebra.specs.Parts.{row, scalar}
use Rattle.representations.specs.HomSpace.{unflat}
use Rattle.linear_algebra.specs.Rows.{rows_of, times}
use Rattle.linear_algebra.specs.Typed.{as_mat, as_row}
use Rattle.linear_algebra.proofs.PartsLaws.{row-at, Mat_1-eq, scalar-at}
use Rattle.linear_algebra.proofs.Typed.{as_row-at, as_row-times, row-as_mat}
use Rattle.fp_linear.specs.Matrix.{PlainMatrix, IsMatrix}
use Rattle.fp_linear.specs.Slices.{AreElements}
use Rattle.fp_linear.proofs.Cells.{IsGrid-rows_of}
use Rattle.path_algebra.specs.declared.Header.{Header}
use Rattle.local_modules.specs.Algebra.{Element}
use Rattle.module_types.specs.declared.Module.{Module}
use Rattle.module_types.specs.declared.TermRows.{TermRows}
use Rattle.module_types.specs.Algebras.{sided_words}
use Rattle.module_types.specs.Readings.{read}
use Rattle.module_types.specs.TermMatrices.{count}
use Rattle.module_types.specs.Presentations.{value_on}
use Rattle.claim_conditions.specs.LocalConditions.{families_of, ring_rows}
use Rattle.local_checks.specs.Families.{IsFamily, family}
use Rattle.local_checks.specs.Standing.{standing}
use Rattle.local_checks.proofs.Places.{part_before, part_within}
use Rattle.local_checks.proofs.RowLists.{matrix_row}
use Rattle.local_checks.proofs.Spaces.{standing-at, as_row_is}
use Rattle.functional_checks.specs.Values.{HoldsValue, HoldsValues, VanishUpTo}

-- One number, as a row and as a scalar.
one_number : (q : Gf) (s : List ℕ) → scalar q (get_or s 0 0) ≡ as_row q 1 s
one_number q s = Mat_1-eq _ _ (scalar-at q (get_or s 0 0) ∙ sym (as_row-at q 1 s 0 (omega arith)))

pub number_zero : (q : Gf) (s : List ℕ) → AreElements q s → length s ≡ 1 → get_or s 0 0 ≡ 0 → as_row q 1 s ≡ zeros q 1 1
unfolding zeros
number_zero q s a e z = Mat_1-eq _ _ (as_row_is q 1 s a e 0 ∙ z)

pub zero_number : (q : Gf) (s : List ℕ) → AreElements q s → length s ≡ 1 → as_row q 1 s ≡ zeros q 1 1 → get_or s 0 0 ≡ 0
unfolding zeros
zero_number q s a e z = sym (as_row_is q 1 s a e 0) ∙ ap (λ (x : Mat q 1 1). x.at 0 0) z

pub scalar_zero : (q : Gf) (c : ℕ) → c < order q → scalar q c ≡ zeros q 1 1 → c ≡ 0
unfolding zeros
scalar_zero q c l z = sym (mod-eq_of_lt l) ∙ sym (scalar-at q c) ∙ ap (λ (x : Mat q 1 1). x.at 0 0) z

pub scalar_none : (q : Gf) → scalar q 0 ≡ zeros q 1 1
unfolding zeros
scalar_none q = Mat_1-eq _ _ (scalar-at q 0 ∙ mod-eq_of_lt (order-pos q))

-- Row i of a matrix times a column.
pub value_of_row : (q : Gf) (n : ℕ) (M : PlainMatrix) (i d : ℕ) (x values product : List ℕ) → IsMatrix M → M.col_count ≡ n → i < M.row_count → d ≡ 1 → x ≡ get_or M.rows i [] → AreElements q values
    → product ≡ times q d x (rows_of (length x) d values) → as_row q 1 product ≡ row i (as_mat q M.row_count n M.rows) · standing q n 1 values
value_of_row q n M i d x values product is c l one e a p =
    ap (as_row q 1) (p ∙ ap₂ (λ (s k : ℕ). times q s x (rows_of k s values)) one (ap length e ∙ is.grid.width i l ∙ c))
    ∙ as_row-times q n 1 x (rows_of n 1 values) (IsGrid-rows_of q n 1 values a)
    ∙ ap (λ (y : Row q n). y · standing q n 1 values) (ap (as_row q n) e ∙ sym (row-as_mat q M.row_count n M.rows i l))

pub vanish_more : (q : Gf) (n : ℕ) (M : PlainMatrix) (values : List ℕ) (i : ℕ) → VanishUpTo q n M values i → row i (as_mat q M.row_count n M.rows) · standing q n 1 values ≡ zeros q 1 1 → VanishUpTo q n M values (i + 1)
vanish_more q n M values i v e = record {
  zero = λ j l. elim (cases_lt j i) [
    | inl before ↦ v.zero j before
    | inr past ↦ subst (λ (k : ℕ). row k (as_mat q M.row_count n M.rows) · standing q n 1 values ≡ zeros q 1 1) (let same : i ≡ j = omega (arith, l, past) in same) e
  ];
}

-- A row of the basis is a family.
pub family_of_row : (h : Header) (m : Module) (basis : PlainMatrix) (i : ℕ) (x : List ℕ) → IsMatrix basis → basis.field ≡ h.field → basis.col_count ≡ (families_of h m).size → i < basis.row_count → x ≡ get_or basis.rows i [] → IsFamily h m x
family_of_row h m basis i x is f c l e = record {
  count = ap length e ∙ is.grid.width i l ∙ c;
  elements = subst (λ (q : Gf). AreElements q x) f (matrix_row basis is i x e);
}

-- The value at one row more is written.
module _ (h : Header) (m : Module) (t : TermRows) (functional : List ℕ) (basis : PlainMatrix) (i k : ℕ) (old w x : List ℕ) (inside : i < basis.row_count) (one : k ≡ 1) (count_old : length old ≡ basis.row_count) (count_new : length w ≡ 1)
    (elements : AreElements h.field w) (e : x ≡ get_or basis.rows i []) where
  abbrev new : List ℕ
  new = take i old ++ (w ++ drop k (drop i old))

  before : (j : ℕ) → j < i → get_or new j 0 ≡ get_or old j 0
  before j l = part_before old w i k 1 count_new one (omega (arith, inside, count_old)) j l

  newest : get_or new i 0 ≡ get_or w 0 0
  newest = ap (λ (j : ℕ). get_or new j 0) (let same : ◌≡◌ {A = ℕ} i (i + 0) = omega arith in same) ∙ part_within old w i k 1 count_new one (omega (arith, inside, count_old)) 0 (omega arith)

  pub values_more : HoldsValue h m t functional (family h m x) (count t) w → HoldsValues h m t functional basis i old → HoldsValues h m t functional basis (i + 1) new
  values_more v o = record {
    small = λ j l. elim (cases_lt j i) [
      | inl p ↦ rw (before j p) (o.small j p)
      | inr p ↦ subst (λ (n : ℕ). get_or new n 0 < order h.field) (let same : i ≡ j = omega (arith, l, p) in same) (rw newest (elements.small 0))
    ];
    values = λ T j l. elim (cases_lt j i) [
      | inl p ↦ ap (scalar h.field) (before j p) ∙ o.values T j p
      | inr p ↦ subst (λ (n : ℕ). scalar h.field (get_or new n 0) ≡ value_on (sided_words m.side T) (read h m) t functional (unflat (read h m) (read h m) (row n (ring_rows h m basis)))) (let same : i ≡ j = omega (arith, l, p) in same)
          (ap (scalar h.field) newest ∙ one_number h.field w ∙ v.value T
          ∙ ap (λ (y : Element (families_of h m)). value_on (sided_words m.side T) (read h m) t functional (unflat (read h m) (read h m) y)) (ap (as_row h.field (families_of h m).size) e ∙ sym (row-as_mat h.field basis.row_count (families_of h m).size basis.rows i inside)))
    ];
  }

pub values_elements : (h : Header) (m : Module) (t : TermRows) (functional : List ℕ) (basis : PlainMatrix) (s : List ℕ) → length s ≡ basis.row_count → HoldsValues h m t functional basis basis.row_count s → AreElements h.field s
values_elements h m t functional basis s e v = record {
  small = λ k. elim (cases_lt k basis.row_count) [
    | inl l ↦ v.small k l
    | inr p ↦ rw (get_or_past {X = ℕ} s k 0 (omega (arith, e, p))) (order-pos h.field)
  ];
}

pub row_of_column : (q : Gf) (n : ℕ) (s : List ℕ) (i : ℕ) → AreElements q s → i < n → row i (standing q n 1 s) ≡ scalar q (get_or s i 0)
row_of_column q n s i a l = Mat_1-eq _ _ (row-at i (standing q n 1 s) 0 ∙ standing-at q n 1 s a i 0 l (omega arith)
    ∙ ap (λ (j : ℕ). get_or s j 0) (let same : i * 1 + 0 ≡ i = omega arith in same) ∙ sym (mod-eq_of_lt (a.small i)) ∙ sym (scalar-at q (get_or s i 0)))
