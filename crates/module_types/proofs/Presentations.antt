-- The entries of what is read from a presentation and a functional: the transposed homomorphism, its dual, θ and the pullback; and the functional as a
-- pairing.
use Rattle.std.proofs.Common.{ℕ, ◌≡◌, ◌<◌, ◌+◌, ◌%◌, List, get_or, arith, sym, ap, ap₂, ◌∙◌}
use mathlib.Core.Path.{fun_ext}
use Rattle.linear_algebra.specs.Field.{Gf, order}
use Rattle.linear_algebra.specs.Matrix.{Row, zeros, ◌·◌, ◌⊞◌, ◌⊟◌, negative, transpose, beside}
use Rattle.linear_algebra.specs.BlockFamilies.{total, sum_all}
use Rattle.linear_algebra.proofs.BlockFamilies.{sum_all-same}
use Rattle.linear_algebra.proofs.Blocks.{beside_stack}
use Rattle.linear_algebra.proofs.PartsLaws.{made-at}
use Rattle.linear_algebra.proofs.MatrixLaws.{difference, sub_eq_zeros, sub_self_mat, mul_negative}
use Rattle.representations.specs.Quiver.{BoundQuiver, opposite_algebra}
use Rattle.representations.specs.Rep.{Rep, IsMod}
use Rattle.representations.specs.Hom.{Hom, ◌≫◌}
use Rattle.representations.proofs.Sums.{IsMod-family}
use Rattle.representations.proofs.Duals.{dual-at}
use Rattle.projectives.specs.Words.{along_word, projective}
use Rattle.projectives.specs.Families.{projectives}
use Rattle.projectives.specs.Components.{component, in_component}
use Rattle.projectives.specs.HomRows.{value}
use Rattle.projectives.specs.TwoSided.{TwoSided, other}
use Rattle.projectives.specs.Transposed.{transposed, nakayama, coefficients}
use Rattle.projectives.specs.Pairing.{pairing, hom_of_columns}
use Rattle.projectives.proofs.Places.{component-places}
use Rattle.projectives.proofs.Components.{component_of_sum}
use Rattle.projectives.proofs.Families.{projectives_mod, generator-from_rows}
use Rattle.projectives.proofs.Pairing.{value-natural}
use Rattle.projectives.proofs.DualYoneda.{column-hom_of_columns}
use Rattle.module_types.specs.declared.TermRows.{TermRows}
use Rattle.module_types.specs.TermMatrices.{count, vertex, generator_row, sum_of_term, rows_along, term_matrix}
use Rattle.module_types.specs.Presentations.{Presentation, injective_term, differential, transposed_of, nakayama_of, transposed_row, part, theta, value_on, pullback}
use Rattle.module_types.proofs.TermMatrices.{hom_of_rows-at, hom_of_columns-at, columns_along-entry}

module _ {q : Gf} {A : BoundQuiver} (T : TwoSided q A) (p : Presentation) where
  -- The matrices of the differential are those of the printed term; its values are the printed rows.
  pub differential-at : (w : ℕ) → (differential T p).at w ≡ term_matrix T.words (sum_of_term T.words p.cover) p.syzygy w
  differential-at w = hom_of_rows-at A T.words T.basis (count p.syzygy) (vertex p.syzygy) (sum_of_term T.words p.cover) (projectives_mod A T.words T.basis (count p.cover) (vertex p.cover))
      (generator_row (sum_of_term T.words p.cover) p.syzygy) w

  pub differential-value : (i : ℕ) → i < count p.syzygy → value A T.words T.basis (count p.syzygy) (vertex p.syzygy) (differential T p) i ≡ generator_row (sum_of_term T.words p.cover) p.syzygy i
  differential-value i l = generator-from_rows A T.words T.basis (count p.syzygy) (vertex p.syzygy) (sum_of_term T.words p.cover)
      (projectives_mod A T.words T.basis (count p.cover) (vertex p.cover)) (generator_row (sum_of_term T.words p.cover) p.syzygy) i l

  -- Component i of row j of the transposed has the numbers that component j of row i has.
  pub transposed_row-entry : (i j x : ℕ) → i < count p.syzygy → j < count p.cover → x < T.words.count (vertex p.cover j) (vertex p.syzygy i)
      → (transposed_row T p j).at 0 (total i (λ c. T.words.count (vertex p.cover j) (vertex p.syzygy c)) + x)
      ≡ (generator_row (sum_of_term T.words p.cover) p.syzygy i).at 0 (total j (λ c. T.words.count (vertex p.cover c) (vertex p.syzygy i)) + x)
  unfolding transposed_row
  transposed_row-entry i j x l m n =
      sym (component-places (other T) (count p.syzygy) (vertex p.syzygy) i (vertex p.cover j) l (transposed_row T p j) x n)
      ∙ ap (λ (z : Row q (T.words.count (vertex p.cover j) (vertex p.syzygy i))). z.at 0 x) (component_of_sum (other T) (count p.syzygy) (vertex p.syzygy) (vertex p.cover j) i l
      (λ i. component T.words (count p.cover) (vertex p.cover) j (vertex p.syzygy i) (generator_row (sum_of_term T.words p.cover) p.syzygy i)))
      ∙ component-places T.words (count p.cover) (vertex p.cover) j (vertex p.syzygy i) m (generator_row (sum_of_term T.words p.cover) p.syzygy i) x n

  -- The matrices of the transposed homomorphism, by these rows.
  pub transposed_of-at : (w : ℕ) → (transposed_of T p).at w ≡ rows_along (other T) (projectives (other T) (count p.syzygy) (vertex p.syzygy)) (count p.cover) (vertex p.cover) (transposed_row T p) w
  unfolding transposed transposed_row
  transposed_of-at w =
      hom_of_rows-at (opposite_algebra A) (other T) T.opposite_basis (count p.cover) (vertex p.cover) (projectives (other T) (count p.syzygy) (vertex p.syzygy))
      (IsMod-family (opposite_algebra A) (count p.syzygy) (λ i. projective (other T) (vertex p.syzygy i)) (λ i l. T.opposite_basis.modules (vertex p.syzygy i)))
      (λ j. sum_all (count p.syzygy) (λ i. in_component (other T) (count p.syzygy) (vertex p.syzygy) i (vertex p.cover j) (coefficients T (count p.syzygy) (vertex p.syzygy) (count p.cover) (vertex p.cover) (differential T p) i j))) w
      ∙ ap (λ f. rows_along (other T) (projectives (other T) (count p.syzygy) (vertex p.syzygy)) (count p.cover) (vertex p.cover) f w) (fun_ext (λ j. sum_all-same (count p.syzygy) _ _ (λ i l.
      ap (λ z. in_component (other T) (count p.syzygy) (vertex p.syzygy) i (vertex p.cover j) (component T.words (count p.cover) (vertex p.cover) j (vertex p.syzygy i) z)) (differential-value i l))))

  -- νd is at each vertex the transposed matrix of the transposed.
  pub nakayama_of-at : (w : ℕ) → (nakayama_of T p).at w ≡ transpose ((transposed_of T p).at w)
  unfolding nakayama
  nakayama_of-at w = dual-at (transposed_of T p) w

module _ {q : Gf} {A : BoundQuiver} (T : TwoSided q A) (M : Rep q A.quiver) (t : TermRows) (functional : List ℕ) where
  -- Entry i of part j is the number of the functional behind those of the parts before.
  pub part-at : (j i : ℕ) → i < M.dim (vertex t j) → (part T M t functional j).at i 0 ≡ get_or functional (total j (λ c. M.dim (vertex t c)) + i) 0 % order q
  part-at j i l = made-at q (M.dim (vertex t j)) 1 (λ i z. get_or functional (total j (λ c. M.dim (vertex t c)) + i) 0) i 0 l (omega arith)

  -- The entry of θ in row r at the place of generator j and word i: part j of the functional on row r behind the word.
  pub theta-entry : (w r j i : ℕ) → j < count t → i < T.words.count w (vertex t j)
      → (theta T M t functional w).at r (total j (λ c. T.words.count w (vertex t c)) + i) ≡ (along_word T.words M w (vertex t j) i · part T M t functional j).at r 0
  theta-entry w r j i l m = columns_along-entry T M (count t) (vertex t) (part T M t functional) w r j i l m

  module _ (m : IsMod A M) where
    -- On a module these are the matrices of the homomorphism to the injective modules that the functional stands for, and its value is the pairing with it.
    pub theta-at : (w : ℕ) → (hom_of_columns T (count t) (vertex t) M m (part T M t functional)).at w ≡ theta T M t functional w
    theta-at w = hom_of_columns-at T (count t) (vertex t) M m (part T M t functional) w

    pub value_on-pairing : (c : Hom (sum_of_term T.words t) M) → ((j : ℕ) → j < count t → value A T.words T.basis (count t) (vertex t) c j ≡ generator_row M t j) → (x : Hom M M)
        → pairing T (count t) (vertex t) (c ≫ x) (hom_of_columns T (count t) (vertex t) M m (part T M t functional)) ≡ value_on T M t functional x.at
    unfolding pairing
    value_on-pairing c values x = sum_all-same (count t) _ (λ j. generator_row M t j · x.at (vertex t j) · part T M t functional j) (λ j l. ap₂ (λ a b. a · b)
        (value-natural T (count t) (vertex t) M M c x j ∙ ap (λ a. a · x.at (vertex t j)) (values j l))
        (column-hom_of_columns T (count t) (vertex t) M m (part T M t functional) j l))

module _ {q : Gf} {A : BoundQuiver} (T : TwoSided q A) (M : Rep q A.quiver) (p : Presentation) (functional : List ℕ) (w : ℕ) where
  -- The rows (y, m) that the pullback takes to zero are those with y · νd = m · θ.
  pullback-by : (y : Row q ((injective_term T p.syzygy).dim w)) (m : Row q (M.dim w))
      → beside y m · pullback T M p functional w ≡ y · (nakayama_of T p).at w ⊟ m · theta T M p.cover functional w
  pullback-by y m =
      beside_stack y m ((nakayama_of T p).at w) (negative (theta T M p.cover functional w))
      ∙ ap (λ z. y · (nakayama_of T p).at w ⊞ z) (mul_negative m (theta T M p.cover functional w))
      ∙ sym (difference (y · (nakayama_of T p).at w) (m · theta T M p.cover functional w))

  pub pullback-equal : (y : Row q ((injective_term T p.syzygy).dim w)) (m : Row q (M.dim w))
      → beside y m · pullback T M p functional w ≡ zeros q 1 ((injective_term T p.cover).dim w) → y · (nakayama_of T p).at w ≡ m · theta T M p.cover functional w
  pullback-equal y m e = sub_eq_zeros (y · (nakayama_of T p).at w) (m · theta T M p.cover functional w) (sym (pullback-by y m) ∙ e)

  pub pullback-member : (y : Row q ((injective_term T p.syzygy).dim w)) (m : Row q (M.dim w))
      → y · (nakayama_of T p).at w ≡ m · theta T M p.cover functional w → beside y m · pullback T M p functional w ≡ zeros q 1 ((injective_term T p.cover).dim w)
  pullback-member y m e =
      pullback-by y m ∙ ap (λ z. z ⊟ m · theta T M p.cover functional w) e ∙ sub_self_mat (m · theta T M p.cover functional w)
