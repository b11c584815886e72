-- The entries of the matrix of following by the next differential, as sums over the words of one generator.
use Rattle.std.proofs.Common.{ℕ, zero, suc, ◌≡◌, ◌≢◌, ◌<◌, ◌≤◌, ◌+◌, inl, inr, refl, sym, ap, ap₂, ◌∙◌, arith, subst, not-suc-le-zero}
use Rattle.std.proofs.lemmas.Bool.{cases_eq, cases_lt}
use Rattle.linear_algebra.specs.Field.{Gf, add, mul}
use Rattle.linear_algebra.specs.FieldLaws.{mul_zero, add_zero, zero_add}
use Rattle.linear_algebra.specs.Sums.{sum_to, sum_below, sum-same, sum-zeros, sum-split}
use Rattle.linear_algebra.specs.Matrix.{Mat, Row, zeros, delta, delta-same, delta-other, ◌·◌}
use Rattle.linear_algebra.specs.Parts.{unit, row}
use Rattle.linear_algebra.specs.MatrixLaws.{one-at}
use Rattle.linear_algebra.specs.LinearMaps.{matrix_of}
use Rattle.linear_algebra.specs.BlockFamilies.{total, beside_all}
use Rattle.linear_algebra.proofs.MatrixLaws.{zeros_mul}
use Rattle.linear_algebra.proofs.PartsLaws.{Row-eq, row-at, unit-at, unit_mul}
use Rattle.linear_algebra.proofs.LinearMaps.{row-matrix_of}
use Rattle.linear_algebra.proofs.BlockFamilies.{total_grows, beside_all-at}
use Rattle.representations.specs.Quiver.{Quiver}
use Rattle.representations.specs.Rep.{Rep}
use Rattle.projectives.specs.Words.{Words, along_word, projective}
use Rattle.projectives.specs.Families.{projectives}
use Rattle.projectives.proofs.Places.{sum_family-dim}
use Rattle.module_types.specs.declared.TermRows.{TermRows}
use Rattle.module_types.specs.TermMatrices.{rows_along, count, vertex, generator_row, sum_of_term}
use Rattle.module_types.specs.TermCoordinates.{coordinates, value_in, follow, follow_matrix}
use Rattle.module_types.proofs.TermMatrices.{rows_along-row, place_in}
use Rattle.module_types.proofs.TermCoordinates.{value_in-at}

-- A sum over places of parts, of which one part alone has terms that are not zero.
sum_of_part : (q : Gf) (size : ℕ → ℕ) (f : ℕ → ℕ) (k j : ℕ) → j < k → ((i c : ℕ) → i < k → i ≢ j → c < size i → f (total i size + c) ≡ 0) → sum_to q (total k size) f ≡ sum_to q (size j) (λ c. f (total j size + c))
sum_of_part q size f zero j l z = absurd (not-suc-le-zero l)
sum_of_part q size f (suc k) j l z = sum-split q (total k size) (size k) f ∙ elim (cases_eq j k) [
  | inl e ↦
      ap (λ s. add q s (sum_to q (size k) (λ c. f (total k size + c))))
      (sum-zeros q (total k size) f (λ r b. let p = place_in size k r b in ap f (sym p.4) ∙ z p.0 p.1 (let i = p.2 in omega (arith, i)) (let i = p.2 in omega (arith, i, e)) p.3))
      ∙ zero_add q _ (sum_below q (size k) _) ∙ ap (λ k. sum_to q (size k) (λ c. f (total k size + c))) (sym e)
  | inr d ↦
      ap₂ (add q) (sum_of_part q size f k j (omega arith) (λ i c b n m. z i c (omega arith) n m)) (sum-zeros q (size k) _ (λ c b. z k c (omega arith) (λ e. d (sym e)) b))
      ∙ add_zero q _ (sum_below q (size j) _)
]

module _ {q : Gf} {Q : Quiver} (W : Words q Q) (Y : Rep q Q) (t next : TermRows) where
  abbrev dims : ℕ → ℕ
  dims j = Y.dim (vertex t j)

  abbrev next_dims : ℕ → ℕ
  next_dims i = Y.dim (vertex next i)

  -- the values of a unit row of coordinates
  module _ (j c : ℕ) (l : j < count t) (b : c < dims j) where
    abbrev here : Row q (coordinates Y t)
    here = unit q (coordinates Y t) (total j dims + c)

    inside : total j dims + c < coordinates Y t
    inside = let g = total_grows dims (count t) j l in omega (arith, g, b)

    here-at : (r : ℕ) → here.at 0 r ≡ delta (total j dims + c) r
    here-at r = unit-at q (coordinates Y t) (total j dims + c) r ∙ one-at q (coordinates Y t) (total j dims + c) r inside

    shifted : (d : ℕ) → delta (total j dims + c) (total j dims + d) ≡ delta c d
    shifted d = elim (cases_eq c d) [
      | inl e ↦ ap (λ d. delta (total j dims + c) (total j dims + d)) (sym e) ∙ delta-same (total j dims + c) ∙ sym (delta-same c) ∙ ap (delta c) e
      | inr n ↦ delta-other (total j dims + c) (total j dims + d) (λ e. n (omega arith)) ∙ sym (delta-other c d n)
    ]

    value_here : value_in Y t here j ≡ unit q (dims j) c
    value_here = Row-eq _ _ (λ d m. value_in-at Y t here j d m ∙ here-at (total j dims + d) ∙ shifted d ∙ sym (unit-at q (dims j) c d ∙ one-at q (dims j) c d b))

    apart : (i d : ℕ) → i < count t → i ≢ j → d < dims i → total j dims + c ≢ total i dims + d
    apart i d m n k e = elim (cases_lt i j) [
      | inl s ↦ let g = total_grows dims j i s in omega (arith, g, e, k)
      | inr s ↦ let g = total_grows dims i j (omega arith) in omega (arith, g, e, b)
    ]

    value_elsewhere : (i : ℕ) → i < count t → i ≢ j → value_in Y t here i ≡ zeros q 1 (dims i)
    unfolding zeros
    value_elsewhere i m n = Row-eq _ _ (λ d k. value_in-at Y t here i d k ∙ here-at (total i dims + d) ∙ delta-other _ _ (apart i d m n k))

    -- what following makes of it
    module _ (i z : ℕ) (m : i < count next) (k : z < next_dims i) where
      abbrev along : Mat q ((sum_of_term W t).dim (vertex next i)) (next_dims i)
      along = rows_along W Y (count t) (vertex t) (value_in Y t here) (vertex next i)

      abbrev image : Row q ((sum_of_term W t).dim (vertex next i))
      image = generator_row (sum_of_term W t) next i

      abbrev word_counts : ℕ → ℕ
      word_counts g = W.count (vertex t g) (vertex next i)

      row_here : (p : ℕ) → p < word_counts j → along.at (total j word_counts + p) z ≡ (along_word W Y (vertex t j) (vertex next i) p).at c z
      row_here p s =
          rows_along-row W Y (count t) (vertex t) (value_in Y t here) (vertex next i) j p z l s
          ∙ ap (λ (x : Row q (dims j)). (x · along_word W Y (vertex t j) (vertex next i) p).at 0 z) value_here
          ∙ ap (λ (x : Row q (next_dims i)). x.at 0 z) (unit_mul c (along_word W Y (vertex t j) (vertex next i) p))
          ∙ row-at c (along_word W Y (vertex t j) (vertex next i) p) z

      row_elsewhere : (g p : ℕ) → g < count t → g ≢ j → p < word_counts g → along.at (total g word_counts + p) z ≡ 0
      unfolding zeros
      row_elsewhere g p s n r =
          rows_along-row W Y (count t) (vertex t) (value_in Y t here) (vertex next i) g p z s r
          ∙ ap (λ (x : Row q (dims g)). (x · along_word W Y (vertex t g) (vertex next i) p).at 0 z) (value_elsewhere g s n)
          ∙ ap (λ (x : Row q (next_dims i)). x.at 0 z) (zeros_mul (along_word W Y (vertex t g) (vertex next i) p))

      product_sum : (image · along).at 0 z ≡ sum_to q ((sum_of_term W t).dim (vertex next i)) (λ r. mul q (image.at 0 r) (along.at r z))
      unfolding ◌·◌
      product_sum = refl

      pub follow_entry : (follow_matrix W Y t next).at (total j dims + c) (total i next_dims + z)
          ≡ sum_to q (word_counts j) (λ p. mul q (image.at 0 (total j word_counts + p)) ((along_word W Y (vertex t j) (vertex next i) p).at c z))
      unfolding follow
      follow_entry =
          sym (row-at (total j dims + c) (follow_matrix W Y t next) (total i next_dims + z))
          ∙ ap (λ (x : Row q (coordinates Y next)). x.at 0 (total i next_dims + z)) (row-matrix_of (follow W Y t next) (total j dims + c) inside)
          ∙ beside_all-at next_dims (count next) (λ i. generator_row (sum_of_term W t) next i · rows_along W Y (count t) (vertex t) (value_in Y t here) (vertex next i)) i m 0 z k
          ∙ product_sum
          ∙ ap (λ n. sum_to q n (λ r. mul q (image.at 0 r) (along.at r z))) (sum_family-dim (count t) (λ g. projective W (vertex t g)) (vertex next i))
          ∙ sum_of_part q word_counts (λ r. mul q (image.at 0 r) (along.at r z)) (count t) j l
          (λ g p s n r. ap (mul q (image.at 0 (total g word_counts + p))) (row_elsewhere g p s n r) ∙ mul_zero q (image.at 0 (total g word_counts + p)))
          ∙ sum-same q (word_counts j) _ _ (λ p s. ap (mul q (image.at 0 (total j word_counts + p))) (row_here p s))
