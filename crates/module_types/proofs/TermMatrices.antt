-- The matrices of homomorphisms that are given by rows and by columns: they are the theory's, and their entries.
use Rattle.std.proofs.Common.{ℕ, zero, suc, ◌≡◌, ◌<◌, ◌+◌, ◌-◌, List, inl, inr, refl, sym, ap, ◌∙◌, arith, subst, ltb, lt-ltb, not-suc-le-zero, mod-eq_of_lt}
use Rattle.std.proofs.lemmas.Bool.{cases_eq, cases_lt, cond-true}
use Rattle.linear_algebra.specs.Field.{Gf}
use Rattle.linear_algebra.specs.Matrix.{Mat, Mat-eq_below, Row, Column, ◌·◌, stack, transpose, join}
use Rattle.linear_algebra.specs.Rows.{IsGrid, entry}
use Rattle.linear_algebra.specs.Typed.{as_mat}
use Rattle.linear_algebra.specs.BlockFamilies.{total}
use Rattle.linear_algebra.proofs.Blocks.{join-first, join-shifted}
use Rattle.linear_algebra.proofs.MatrixLaws.{transpose-at, transpose_mul, mul_assoc_mat}
use Rattle.linear_algebra.proofs.BlockFamilies.{total_grows}
use Rattle.linear_algebra.proofs.Typed.{as_mat-at}
use Rattle.representations.specs.Quiver.{Quiver, BoundQuiver, opposite_algebra}
use Rattle.representations.specs.Rep.{Rep, IsMod}
use Rattle.representations.specs.Hom.{zero_hom}
use Rattle.representations.specs.Sum.{sum_family, from_sum}
use Rattle.representations.specs.Dual.{dual}
use Rattle.representations.proofs.SumFamilies.{from_family}
use Rattle.representations.proofs.Duals.{IsMod-dual}
use Rattle.projectives.specs.Words.{Words, IsWordBasis, along_word, projective}
use Rattle.projectives.specs.Projective.{of_rows}
use Rattle.projectives.specs.Yoneda.{yoneda, word_rows}
use Rattle.projectives.specs.Families.{projectives}
use Rattle.projectives.specs.Components.{family_out, component}
use Rattle.projectives.specs.HomRows.{hom_of_rows}
use Rattle.projectives.specs.TwoSided.{TwoSided, other}
use Rattle.projectives.specs.Pairing.{hom_of_columns}
use Rattle.projectives.proofs.Places.{sum_family-dim}
use Rattle.projectives.proofs.Turning.{turn-at}
use Rattle.projectives.proofs.DualYoneda.{along_word-reversed}
use Rattle.module_types.specs.TermMatrices.{rows_along, columns_along}

-- They are the theory's.
pub hom_of_rows-at : {q : Gf} (A : BoundQuiver) (W : Words q A.quiver) (B : IsWordBasis A W) (k : ℕ) (v : ℕ → ℕ) (X : Rep q A.quiver) (M : IsMod A X) (x : (j : ℕ) → Row q (X.dim (v j))) (w : ℕ)
    → (hom_of_rows A W B k v X M x).at w ≡ rows_along W X k v x w
unfolding hom_of_rows rows_along from_family sum_family zero_hom from_sum yoneda word_rows
hom_of_rows-at A W B zero v X M x w = refl
hom_of_rows-at A W B (suc k) v X M x w = ap (λ z. stack z (of_rows (W.count (v k) w) (λ i. x k · along_word W X (v k) w i))) (hom_of_rows-at A W B k v X M x w)

pub hom_of_columns-at : {q : Gf} {A : BoundQuiver} (T : TwoSided q A) (h : ℕ) (u : ℕ → ℕ) (X : Rep q A.quiver) (M : IsMod A X) (y : (j : ℕ) → Column q (X.dim (u j))) (w : ℕ)
    → (hom_of_columns T h u X M y).at w ≡ columns_along T X h u y w
unfolding hom_of_columns columns_along
hom_of_columns-at {A = A} T h u X M y w =
    turn-at X (projectives (other T) h u) (hom_of_rows (opposite_algebra A) (other T) T.opposite_basis h u (dual X) (IsMod-dual A X M) (λ j. transpose (y j))) w
    ∙ ap transpose (hom_of_rows-at (opposite_algebra A) (other T) T.opposite_basis h u (dual X) (IsMod-dual A X M) (λ j. transpose (y j)) w)

-- The row at the place of generator j and word i, which stands behind the words of the generators before.
pub rows_along-row : {q : Gf} {Q : Quiver} (W : Words q Q) (X : Rep q Q) (k : ℕ) (v : ℕ → ℕ) (x : (j : ℕ) → Row q (X.dim (v j))) (w j i z : ℕ) → j < k → i < W.count (v j) w
    → (rows_along W X k v x w).at (total j (λ c. W.count (v c) w) + i) z ≡ (x j · along_word W X (v j) w i).at 0 z
unfolding rows_along sum_family stack of_rows
rows_along-row W X zero v x w j i z h l = absurd (not-suc-le-zero h)
rows_along-row W X (suc k) v x w j i z h l = elim (cases_eq j k) [
  | inl e ↦ subst (λ j. i < W.count (v j) w → (rows_along W X (suc k) v x w).at (total j (λ c. W.count (v c) w) + i) z ≡ (x j · along_word W X (v j) w i).at 0 z) (sym e)
      (λ l. ap (λ n. join ((projectives W k v).dim w) (λ t. (rows_along W X k v x w).at t z) (λ t. (of_rows (W.count (v k) w) (λ i. x k · along_word W X (v k) w i)).at t z) (n + i)) (sym (sum_family-dim k (λ c. projective W (v c)) w))
      ∙ join-shifted ((projectives W k v).dim w) (λ t. (rows_along W X k v x w).at t z) (λ t. (of_rows (W.count (v k) w) (λ i. x k · along_word W X (v k) w i)).at t z) i
      ∙ cond-true (ltb i (W.count (v k) w)) ((x k · along_word W X (v k) w i).at 0 z) zero (lt-ltb i (W.count (v k) w) l)) l
  | inr n ↦
      let inside = total_grows (λ c. W.count (v c) w) k j (omega arith) in
      let whole = sum_family-dim k (λ c. projective W (v c)) w in
      join-first ((projectives W k v).dim w) (λ t. (rows_along W X k v x w).at t z) (λ t. (of_rows (W.count (v k) w) (λ i. x k · along_word W X (v k) w i)).at t z) (total j (λ c. W.count (v c) w) + i) (omega arith)
      ∙ rows_along-row W X k v x w j i z (omega arith) l
]

-- The entry in row r at the place of generator j and word i: entry r of the word times the column.
pub columns_along-entry : {q : Gf} {A : BoundQuiver} (T : TwoSided q A) (X : Rep q A.quiver) (h : ℕ) (u : ℕ → ℕ) (y : (j : ℕ) → Column q (X.dim (u j))) (w r j i : ℕ) → j < h → i < T.words.count w (u j)
    → (columns_along T X h u y w).at r (total j (λ c. T.words.count w (u c)) + i) ≡ (along_word T.words X w (u j) i · y j).at r 0
unfolding columns_along
columns_along-entry T X h u y w r j i l m =
    transpose-at (rows_along (other T) (dual X) h u (λ j. transpose (y j)) w) r (total j (λ c. T.words.count w (u c)) + i)
    ∙ rows_along-row (other T) (dual X) h u (λ j. transpose (y j)) w j i r l m
    ∙ ap (λ (z : Mat _ 1 (X.dim w)). z.at 0 r) (ap (λ z. transpose (y j) · z) (along_word-reversed T X (u j) w i) ∙ sym (transpose_mul (along_word T.words X w (u j) i) (y j)))
    ∙ transpose-at (along_word T.words X w (u j) i · y j) 0 r

-- An arrow acts on each component of a row of a sum of projective modules by the words' own matrix.
pub component-mat : {q : Gf} {Q : Quiver} (W : Words q Q) (k : ℕ) (v : ℕ → ℕ) (i a : ℕ) (y : Row q ((projectives W k v).dim (Q.source a)))
    → component W k v i (Q.target a) (y · (projectives W k v).mat a) ≡ component W k v i (Q.source a) y · W.act (v i) a
component-mat {Q = Q} W k v i a y =
    mul_assoc_mat y ((projectives W k v).mat a) ((family_out k (λ j. projective W (v j)) i).at (Q.target a))
    ∙ ap (λ z. y · z) ((family_out k (λ j. projective W (v j)) i).square a)
    ∙ sym (mul_assoc_mat y ((family_out k (λ j. projective W (v j)) i).at (Q.source a)) (W.act (v i) a))

-- Each place below a total is a place of one of the parts.
pub place_in : (size : ℕ → ℕ) (k i : ℕ) → i < total k size → (j : ℕ) × (t : ℕ) × (j < k) × (t < size j) × (total j size + t ≡ i)
place_in size zero i h = absurd (not-suc-le-zero h)
place_in size (suc k) i h = elim (cases_lt i (total k size)) [
  | inl l ↦ let s = place_in size k i l in (s.0, s.1, omega (arith, s.2), s.3, s.4)
  | inr l ↦ (k, i - total k size, omega arith, omega (arith, h, l), omega (arith, l))
]

-- So a list of rows with these entries is read as the matrix.
pub rows_read : {q : Gf} {Q : Quiver} (W : Words q Q) (k : ℕ) (v : ℕ → ℕ) (X : Rep q Q) (x : (j : ℕ) → Row q (X.dim (v j))) (w : ℕ) (rows : List (List ℕ))
    → IsGrid q (total k (λ t. W.count (v t) w)) (X.dim w) rows
    → ((j i c : ℕ) → j < k → i < W.count (v j) w → c < X.dim w → entry rows (total j (λ t. W.count (v t) w) + i) c ≡ (x j · along_word W X (v j) w i).at 0 c)
    → as_mat q ((projectives W k v).dim w) (X.dim w) rows ≡ rows_along W X k v x w
rows_read {q} W k v X x w rows g e = Mat-eq_below _ _ (λ i c l m.
    let s = place_in (λ t. W.count (v t) w) k i (let d = sum_family-dim k (λ t. projective W (v t)) w in omega (arith, d, l)) in
    as_mat-at q ((projectives W k v).dim w) (X.dim w) rows i c l m ∙ mod-eq_of_lt (g.small i c) ∙ ap (λ z. entry rows z c) (sym s.4) ∙ e s.0 s.1 c s.2 s.3 m
    ∙ sym (rows_along-row W X k v x w s.0 s.1 c s.2 s.3) ∙ ap (λ z. (rows_along W X k v x w).at z c) s.4)
