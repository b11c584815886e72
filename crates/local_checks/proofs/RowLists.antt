-- Rows that are written one behind the other, and the space that elimination leaves.
use Rattle.std.proofs.Common.{ℕ, ◌<◌, ◌≤◌, ◌≡◌, ◌+◌, ◌*◌, List, [], ◌++◌, get_or, length, take, drop, sym, ap, ap₂, ◌∙◌, arith, subst, mul-le-mul_right}
use Rattle.std.proofs.lemmas.Nat.{div-mul-add, mod-mul-add}
use Rattle.std.proofs.lemmas.List.{get_or-take, length-take-le}
use Rattle.linear_algebra.specs.Field.{Gf, order}
use Rattle.linear_algebra.specs.Matrix.{◌·◌}
use Rattle.linear_algebra.specs.Rank.{IsInSpan}
use Rattle.linear_algebra.specs.Rows.{entry, rows_of, times, product, IsGrid}
use Rattle.linear_algebra.specs.Reduced.{IsReduced, pivots_of, ReducesTo}
use Rattle.linear_algebra.specs.Typed.{as_mat}
use Rattle.linear_algebra.proofs.Rows.{row-entry, entry-rows_of, rows_same, length-rows_of, row-product, row-rows_of, length-list_of, length-times}
use Rattle.linear_algebra.proofs.Reduced.{entry-take, IsGrid-take}
use Rattle.linear_algebra.proofs.Typed.{same_span_forth, same_span_back, IsGrid-product, as_mat-product}
use Rattle.fp_linear.specs.Matrix.{PlainMatrix, IsMatrix}
use Rattle.fp_linear.specs.Slices.{AreElements, IsWritten}
use Rattle.fp_linear.proofs.Cells.{IsGrid-rows_of}
use Rattle.local_checks.specs.Standing.{standing}
use Rattle.local_checks.specs.Rows.{row_entry, IsSpaceOf}
use Rattle.local_checks.proofs.Places.{place_below, lent_length, lent_elements, part_elements, IsWritten-part, row_room, next_row}

-- A row among the entries row by row.
pub row_entries : (n : ℕ) (rows : List (List ℕ)) (i : ℕ) (w : List ℕ) → w ≡ get_or rows i [] → (j : ℕ) → j < n → get_or w j 0 ≡ row_entry n rows (i * n + j)
row_entries n rows i w e j l = ap (λ (x : List ℕ). get_or x j 0) e ∙ row-entry rows i j ∙ sym (ap₂ (entry rows) (div-mul-add i n j l) (mod-mul-add i n j l))

from_zero : (k : ℕ) → k ≡ 0 + k
from_zero k = omega arith

-- All rows are written.
pub written_rows : (q : Gf) (m n c : ℕ) (rows : List (List ℕ)) (old new : List ℕ) → IsGrid q m n rows → c ≡ m * n → IsWritten old new 0 c (row_entry n rows) → rows_of m n new ≡ rows
written_rows q m n c rows old new g e w = rows_same m n (rows_of m n new) rows (length-rows_of m n new) g.count
    (λ i l. ap length (row-rows_of m n new i l) ∙ length-list_of n _) (λ i l. g.width i l) (λ i j l h.
    entry-rows_of m n new i j l h ∙ ap (λ (k : ℕ). get_or new k 0) (from_zero (i * n + j)) ∙ w.within (i * n + j) (let a = place_below i n j m l h in omega (arith, a, e))
    ∙ ap₂ (entry rows) (div-mul-add i n j h) (mod-mul-add i n j h))

-- Row i of a product.
pub product_entries : (q : Gf) (k n i b d : ℕ) (a : List (List ℕ)) (x basis w : List ℕ) → i < length a → x ≡ get_or a i [] → b ≡ k → d ≡ n → w ≡ times q d x (rows_of b d basis)
    → (j : ℕ) → j < n → get_or w j 0 ≡ row_entry n (product q n a (rows_of k n basis)) (i * n + j)
product_entries q k n i b d a x basis w l e f g p = row_entries n (product q n a (rows_of k n basis)) i w
    (p ∙ ap₂ (λ (s t : ℕ). times q t x (rows_of s t basis)) f g ∙ ap (λ (y : List ℕ). times q n y (rows_of k n basis)) e ∙ sym (row-product q n a (rows_of k n basis) i l))

pub combinations_standing : (q : Gf) (m k n c : ℕ) (a : List (List ℕ)) (basis old new : List ℕ) → IsGrid q m k a → AreElements q basis → c ≡ m * n → IsWritten old new 0 c (row_entry n (product q n a (rows_of k n basis)))
    → standing q m n new ≡ as_mat q m k a · standing q k n basis
combinations_standing q m k n c a basis old new g e d w =
    ap (as_mat q m n) (written_rows q m n c (product q n a (rows_of k n basis)) old new (IsGrid-product q m k n a (rows_of k n basis) g (IsGrid-rows_of q k n basis e)) d w)
    ∙ as_mat-product q m k n a (rows_of k n basis) g (IsGrid-rows_of q k n basis e)

-- The first rows.
pub first_rows : (m n r : ℕ) (s : List ℕ) → r ≤ m → rows_of r n (take (r * n) s) ≡ take r (rows_of m n s)
first_rows m n r s h = rows_same r n (rows_of r n (take (r * n) s)) (take r (rows_of m n s)) (length-rows_of r n (take (r * n) s))
    (length-take-le r (rows_of m n s) (let c = length-rows_of m n s in omega (arith, c, h)))
    (λ i l. ap length (row-rows_of r n (take (r * n) s) i l) ∙ length-list_of n _)
    (λ i l. ap length (get_or-take r (rows_of m n s) i [] l ∙ row-rows_of m n s i (omega (arith, l, h))) ∙ length-list_of n _)
    (λ i j l k. entry-rows_of r n (take (r * n) s) i j l k ∙ get_or-take (r * n) s (i * n + j) 0 (place_below i n j r l k)
    ∙ sym (entry-take r (rows_of m n s) i j l ∙ entry-rows_of m n s i j (omega (arith, l, h)) k))

module _ (q : Gf) (m n : ℕ) (old new pivots : List ℕ) (r : ℕ) (a : AreElements q old) (b : AreElements q new) (c : length new ≡ m * n) (p : m ≤ length pivots)
    (d : ReducesTo q n (rows_of m n old) (rows_of m n new) pivots r) where
  fits : r ≤ m
  fits = let l = length-rows_of m n new in let f = d.fits in omega (arith, l, f)

  size : length (take r pivots) ≡ r
  size = length-take-le r pivots (let f = fits in omega (arith, f, p))

  room : 0 + r * n ≤ length new
  room = let f = mul-le-mul_right n fits in omega (arith, f, c)

  same : rows_of (length (take r pivots)) n (take (r * n) new) ≡ take r (rows_of m n new)
  same = ap (λ (k : ℕ). rows_of k n (take (r * n) new)) size ∙ first_rows m n r new fits

  grid : IsGrid q r n (take r (rows_of m n new))
  grid = IsGrid-take q m n r (rows_of m n new) (IsGrid-rows_of q m n new b) fits

  pub space_of_form : IsSpaceOf (standing q m n old) new pivots r
  space_of_form = record {
    few = fits;
    count = size;
    is_space = record {
      count = length-take-le (r * n) new (let o = room in omega (arith, o)) ∙ ap (λ (k : ℕ). k * n) (sym size);
      elements = lent_elements q new 0 (r * n) room b;
      reduced = subst (IsReduced n) (sym same) d.reduced;
      places = d.columns ∙ ap pivots_of (sym same);
    };
    forth = subst (λ L. IsInSpan (as_mat q (length (take r pivots)) n L) (standing q m n old)) (sym same)
        (subst (λ (k : ℕ). IsInSpan (as_mat q k n (take r (rows_of m n new))) (standing q m n old)) (sym size) (same_span_forth q m r n (rows_of m n old) (take r (rows_of m n new)) (IsGrid-rows_of q m n old a) grid d.span));
    back = subst (λ L. IsInSpan (standing q m n old) (as_mat q (length (take r pivots)) n L)) (sym same)
        (subst (λ (k : ℕ). IsInSpan (standing q m n old) (as_mat q k n (take r (rows_of m n new)))) (sym size) (same_span_back q m r n (rows_of m n old) (take r (rows_of m n new)) (IsGrid-rows_of q m n old a) grid d.span));
  }

-- One row more is written.
pub copy_step : (q : Gf) (m n i k : ℕ) (rows : List (List ℕ)) (old mid w : List ℕ) → i < m → length mid ≡ m * n → k ≡ n → w ≡ get_or rows i [] → length w ≡ n → AreElements q mid → AreElements q w
    → IsWritten old mid 0 (i * n) (row_entry n rows)
    → IsWritten old (take (i * n) mid ++ (w ++ drop k (drop (i * n) mid))) 0 ((i + 1) * n) (row_entry n rows) × AreElements q (take (i * n) mid ++ (w ++ drop k (drop (i * n) mid)))
copy_step q m n i k rows old mid w h c e d size a b s =
    let room = row_room m n i mid c h in (
      IsWritten-part old mid w 0 (i * n) (i * n) k n ((i + 1) * n) (row_entry n rows) s (from_zero (i * n)) size e (omega (arith, room)) (next_row i n) (row_entries n rows i w d),
      part_elements mid w (i * n) k n size e room q a b,
    )

pub product_step : (q : Gf) (m n kk i k : ℕ) (A : List (List ℕ)) (x basis old mid w : List ℕ) → i < m → length A ≡ m → length mid ≡ m * n → k ≡ n → x ≡ get_or A i [] → length x ≡ kk → AreElements q mid → AreElements q w
    → w ≡ times q (length (take k (drop (i * n) mid))) x (rows_of (length x) (length (take k (drop (i * n) mid))) basis)
    → IsWritten old mid 0 (i * n) (row_entry n (product q n A (rows_of kk n basis)))
    → IsWritten old (take (i * n) mid ++ (w ++ drop k (drop (i * n) mid))) 0 ((i + 1) * n) (row_entry n (product q n A (rows_of kk n basis))) × AreElements q (take (i * n) mid ++ (w ++ drop k (drop (i * n) mid)))
product_step q m n kk i k A x basis old mid w h ca c e d dx a b p s =
    let room = row_room m n i mid c h in
    let part : length (take k (drop (i * n) mid)) ≡ n = lent_length mid (i * n) k (omega (arith, room, e)) ∙ e in
    let size : length w ≡ n = ap length p ∙ length-times q (length (take k (drop (i * n) mid))) x (rows_of (length x) (length (take k (drop (i * n) mid))) basis) ∙ part in (
      IsWritten-part old mid w 0 (i * n) (i * n) k n ((i + 1) * n) (row_entry n (product q n A (rows_of kk n basis))) s (from_zero (i * n)) size e (omega (arith, room)) (next_row i n)
          (product_entries q kk n i (length x) (length (take k (drop (i * n) mid))) A x basis w (omega (arith, h, ca)) d dx part p),
      part_elements mid w (i * n) k n size e room q a b,
    )

pub matrix_row : (M : PlainMatrix) → IsMatrix M → (i : ℕ) (w : List ℕ) → w ≡ get_or M.rows i [] → AreElements M.field w
matrix_row M g i w e = record { small = λ j. subst (λ z. z < order M.field) (sym (ap (λ (y : List ℕ). get_or y j 0) e ∙ row-entry M.rows i j)) (g.grid.small i j) }
