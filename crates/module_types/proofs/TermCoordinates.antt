-- Coordinates of homomorphisms out of a term are the theory's, and following the next differential is composition.
use Rattle.std.proofs.Common.{ℕ, ◌≡◌, ◌<◌, ◌+◌, refl, sym, ap, ap₂, ◌∙◌, arith}
use mathlib.Core.Path.{fun_ext}
use Rattle.linear_algebra.specs.Field.{Gf, add, mul}
use Rattle.linear_algebra.specs.Matrix.{Mat, Mat-eq_below, Row, ◌⊞◌, ◌⊙◌, ◌·◌}
use Rattle.linear_algebra.specs.LinearMaps.{IsLinear, matrix_of}
use Rattle.linear_algebra.specs.BlockFamilies.{beside_all, total}
use Rattle.linear_algebra.proofs.MatrixLaws.{mul_assoc_mat, mul_add_mat, add_mul_mat, mul_scale, scale_mul}
use Rattle.linear_algebra.proofs.LinearMaps.{mul-matrix_of}
use Rattle.linear_algebra.proofs.BlockFamilies.{beside_all-same, beside_all-add, beside_all-scale, column_block-at, column_block_of}
use Rattle.representations.specs.Quiver.{Quiver, BoundQuiver}
use Rattle.representations.specs.Rep.{Rep, IsMod}
use Rattle.representations.specs.Hom.{Hom, ◌≫◌}
use Rattle.representations.proofs.Homs.{compose-at}
use Rattle.projectives.specs.Words.{Words, IsWordBasis, along_word, projective}
use Rattle.projectives.specs.Families.{projectives, generator_of}
use Rattle.projectives.specs.HomRows.{value, hom_of_rows}
use Rattle.projectives.specs.Extensions.{coordinate_row, hom_of_row, composition_matrix}
use Rattle.projectives.proofs.Places.{sum_family-dim}
use Rattle.projectives.proofs.Families.{generator-from_rows}
use Rattle.module_types.specs.declared.TermRows.{TermRows}
use Rattle.module_types.specs.TermMatrices.{rows_along, count, vertex, generator_row, sum_of_term}
use Rattle.module_types.specs.TermCoordinates.{coordinates, value_in, follow, follow_matrix}
use Rattle.module_types.proofs.TermMatrices.{hom_of_rows-at, rows_along-row, place_in}

module _ {q : Gf} (A : BoundQuiver) (W : Words q A.quiver) (B : IsWordBasis A W) (Y : Rep q A.quiver) (M : IsMod A Y) (t : TermRows) where
  -- The values of generators, one after another, are the coordinates of the homomorphism with these values; and in coordinates x it has the values in x.
  pub coordinates-of_rows : (x : (j : ℕ) → Row q (Y.dim (vertex t j)))
      → coordinate_row A W B (count t) (vertex t) (hom_of_rows A W B (count t) (vertex t) Y M x) ≡ beside_all (count t) (λ j. Y.dim (vertex t j)) x
  unfolding coordinate_row hom_of_rows
  coordinates-of_rows x = beside_all-same (λ j. Y.dim (vertex t j)) (count t) _ x (generator-from_rows A W B (count t) (vertex t) Y M x)

  pub value-of_row : (x : Row q (coordinates Y t)) (j : ℕ) → j < count t → value A W B (count t) (vertex t) (hom_of_row A W B (count t) (vertex t) Y M x) j ≡ value_in Y t x j
  unfolding hom_of_row hom_of_rows
  value-of_row x j l = generator-from_rows A W B (count t) (vertex t) Y M (value_in Y t x) j l

  pub value-coordinates : (f : Hom (sum_of_term W t) Y) (j : ℕ) → j < count t → value_in Y t (coordinate_row A W B (count t) (vertex t) f) j ≡ value A W B (count t) (vertex t) f j
  unfolding coordinate_row
  value-coordinates f j l = column_block_of (λ j. Y.dim (vertex t j)) (count t) (λ j. value A W B (count t) (vertex t) f j) j l

  -- For each differential that takes the generators of the next term to their printed rows.
  module _ (next : TermRows) (d : Hom (sum_of_term W next) (sum_of_term W t))
      (printed : (i : ℕ) → i < count next → value A W B (count next) (vertex next) d i ≡ generator_row (sum_of_term W t) next i) where
    pub follow_is : (x : Row q (coordinates Y t)) → follow W Y t next x ≡ coordinate_row A W B (count next) (vertex next) (d ≫ hom_of_row A W B (count t) (vertex t) Y M x)
    unfolding follow coordinate_row hom_of_row
    follow_is x =
        let y = hom_of_rows A W B (count t) (vertex t) Y M (value_in Y t x) in
        beside_all-same (λ i. Y.dim (vertex next i)) (count next) _ _ (λ i h.
        ap₂ (λ a b. a · b) (sym (printed i h)) (sym (hom_of_rows-at A W B (count t) (vertex t) Y M (value_in Y t x) (vertex next i)))
        ∙ mul_assoc_mat (generator_of A W B (count next) (vertex next) i) (d.at (vertex next i)) (y.at (vertex next i))
        ∙ ap (λ z. generator_of A W B (count next) (vertex next) i · z) (sym (compose-at d y (vertex next i))))

    pub follow_matrix_is : follow_matrix W Y t next ≡ composition_matrix A W B (count next) (vertex next) (count t) (vertex t) Y M d
    unfolding composition_matrix
    follow_matrix_is = ap matrix_of (fun_ext follow_is)

-- The place of coordinate i of the value of generator j.
pub value_in-at : {q : Gf} {Q : Quiver} (Y : Rep q Q) (t : TermRows) (x : Row q (coordinates Y t)) (j i : ℕ) → i < Y.dim (vertex t j)
    → (value_in Y t x j).at 0 i ≡ x.at 0 (total j (λ c. Y.dim (vertex t c)) + i)
value_in-at Y t x j i l = column_block-at (λ j. Y.dim (vertex t j)) (count t) j x 0 i l

-- Following is linear, on representations that need not be modules.
sum-entry : {q : Gf} {m n : ℕ} (a b : Mat q m n) (i j : ℕ) → (a ⊞ b).at i j ≡ add q (a.at i j) (b.at i j)
unfolding ◌⊞◌
sum-entry a b i j = refl

multiple-entry : {q : Gf} {m n : ℕ} (c : ℕ) (a : Mat q m n) (i j : ℕ) → (c ⊙ a).at i j ≡ mul q c (a.at i j)
unfolding ◌⊙◌
multiple-entry c a i j = refl

module _ {q : Gf} {Q : Quiver} (W : Words q Q) (Y : Rep q Q) where
  -- Matrices over the rows of a sum of projective modules are equal by the places of its words.
  equal_by_places : (k : ℕ) (v : ℕ → ℕ) (w : ℕ) (a b : Mat q ((projectives W k v).dim w) (Y.dim w))
      → ((j i z : ℕ) → j < k → i < W.count (v j) w → a.at (total j (λ c. W.count (v c) w) + i) z ≡ b.at (total j (λ c. W.count (v c) w) + i) z) → a ≡ b
  equal_by_places k v w a b e = Mat-eq_below a b (λ r z l n.
      let s = place_in (λ t. W.count (v t) w) k r (let d = sum_family-dim k (λ t. projective W (v t)) w in omega (arith, d, l)) in
      ap (λ n. a.at n z) (sym s.4) ∙ e s.0 s.1 z s.2 s.3 ∙ ap (λ n. b.at n z) s.4)

  rows_along-sum : (k : ℕ) (v : ℕ → ℕ) (x y : (j : ℕ) → Row q (Y.dim (v j))) (w : ℕ) → rows_along W Y k v (λ j. x j ⊞ y j) w ≡ rows_along W Y k v x w ⊞ rows_along W Y k v y w
  rows_along-sum k v x y w = equal_by_places k v w _ _ (λ j i z l m.
      rows_along-row W Y k v (λ j. x j ⊞ y j) w j i z l m
      ∙ ap (λ (a : Mat q 1 (Y.dim w)). a.at 0 z) (add_mul_mat (x j) (y j) (along_word W Y (v j) w i))
      ∙ sum-entry (x j · along_word W Y (v j) w i) (y j · along_word W Y (v j) w i) 0 z
      ∙ ap₂ (add q) (sym (rows_along-row W Y k v x w j i z l m)) (sym (rows_along-row W Y k v y w j i z l m))
      ∙ sym (sum-entry (rows_along W Y k v x w) (rows_along W Y k v y w) (total j (λ c. W.count (v c) w) + i) z))

  rows_along-multiple : (c k : ℕ) (v : ℕ → ℕ) (x : (j : ℕ) → Row q (Y.dim (v j))) (w : ℕ) → rows_along W Y k v (λ j. c ⊙ x j) w ≡ c ⊙ rows_along W Y k v x w
  rows_along-multiple c k v x w = equal_by_places k v w _ _ (λ j i z l m.
      rows_along-row W Y k v (λ j. c ⊙ x j) w j i z l m
      ∙ ap (λ (a : Mat q 1 (Y.dim w)). a.at 0 z) (scale_mul c (x j) (along_word W Y (v j) w i))
      ∙ multiple-entry c (x j · along_word W Y (v j) w i) 0 z
      ∙ ap (mul q c) (sym (rows_along-row W Y k v x w j i z l m))
      ∙ sym (multiple-entry c (rows_along W Y k v x w) (total j (λ c. W.count (v c) w) + i) z))

  module _ (t : TermRows) where
    value_in-sum : (x y : Row q (coordinates Y t)) (j : ℕ) → value_in Y t (x ⊞ y) j ≡ value_in Y t x j ⊞ value_in Y t y j
    value_in-sum x y j = Mat-eq_below _ _ (λ i c l n.
        column_block-at (λ j. Y.dim (vertex t j)) (count t) j (x ⊞ y) i c n
        ∙ sum-entry x y i (total j (λ j. Y.dim (vertex t j)) + c)
        ∙ ap₂ (add q) (sym (column_block-at (λ j. Y.dim (vertex t j)) (count t) j x i c n)) (sym (column_block-at (λ j. Y.dim (vertex t j)) (count t) j y i c n))
        ∙ sym (sum-entry (value_in Y t x j) (value_in Y t y j) i c))

    value_in-multiple : (c : ℕ) (x : Row q (coordinates Y t)) (j : ℕ) → value_in Y t (c ⊙ x) j ≡ c ⊙ value_in Y t x j
    value_in-multiple c x j = Mat-eq_below _ _ (λ i r l n.
        column_block-at (λ j. Y.dim (vertex t j)) (count t) j (c ⊙ x) i r n
        ∙ multiple-entry c x i (total j (λ j. Y.dim (vertex t j)) + r)
        ∙ ap (mul q c) (sym (column_block-at (λ j. Y.dim (vertex t j)) (count t) j x i r n))
        ∙ sym (multiple-entry c (value_in Y t x j) i r))

    module _ (next : TermRows) where
      -- the rows of the values in x at the vertex of generator i of the next term
      abbrev along : Row q (coordinates Y t) → (i : ℕ) → Mat q ((sum_of_term W t).dim (vertex next i)) (Y.dim (vertex next i))
      along x i = rows_along W Y (count t) (vertex t) (value_in Y t x) (vertex next i)

      follow-linear : IsLinear (follow W Y t next)
      unfolding follow
      follow-linear = record {
        sum = λ x y.
            beside_all-same (λ i. Y.dim (vertex next i)) (count next) _ (λ i. generator_row (sum_of_term W t) next i · along x i ⊞ generator_row (sum_of_term W t) next i · along y i) (λ i h.
            ap (λ f. generator_row (sum_of_term W t) next i · rows_along W Y (count t) (vertex t) f (vertex next i)) (fun_ext (value_in-sum x y))
            ∙ ap (λ a. generator_row (sum_of_term W t) next i · a) (rows_along-sum (count t) (vertex t) (value_in Y t x) (value_in Y t y) (vertex next i))
            ∙ mul_add_mat (generator_row (sum_of_term W t) next i) (along x i) (along y i))
            ∙ sym (beside_all-add (λ i. Y.dim (vertex next i)) (count next) (λ i. generator_row (sum_of_term W t) next i · along x i) (λ i. generator_row (sum_of_term W t) next i · along y i));
        multiple = λ c x.
            beside_all-same (λ i. Y.dim (vertex next i)) (count next) _ (λ i. c ⊙ (generator_row (sum_of_term W t) next i · along x i)) (λ i h.
            ap (λ f. generator_row (sum_of_term W t) next i · rows_along W Y (count t) (vertex t) f (vertex next i)) (fun_ext (value_in-multiple c x))
            ∙ ap (λ a. generator_row (sum_of_term W t) next i · a) (rows_along-multiple c (count t) (vertex t) (value_in Y t x) (vertex next i))
            ∙ mul_scale c (generator_row (sum_of_term W t) next i) (along x i))
            ∙ sym (beside_all-scale (λ i. Y.dim (vertex next i)) c (count next) (λ i. generator_row (sum_of_term W t) next i · along x i));
      }

      -- So it is multiplication with its matrix.
      pub follow-matrix : (x : Row q (coordinates Y t)) → follow W Y t next x ≡ x · follow_matrix W Y t next
      follow-matrix x = sym (mul-matrix_of (follow W Y t next) follow-linear x)
