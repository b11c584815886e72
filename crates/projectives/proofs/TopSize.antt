-- As many generators stand at a vertex as the dimension there is larger than that of the radical.
use Rattle.std.proofs.Common.{ℕ, zero, ◌+◌, ◌<◌, ◌≡◌, ◌≢◌, cond, eqb, inl, inr, sym, ap, ◌∙◌, arith, subst, mod-eq_of_lt, eq-eqb, ne_eqb, le_antisymm}
use Rattle.std.proofs.lemmas.Bool.{cases_eq, cond-true, cond-false}
use Rattle.linear_algebra.specs.Field.{Gf, mul}
use Rattle.linear_algebra.specs.FieldLaws.{mul_zero, zero_mul, mul_one, one_mul, mod-mul}
use Rattle.linear_algebra.specs.Sums.{sum-single, sum-zeros}
use Rattle.linear_algebra.specs.Matrix.{Mat, Mat-eq_below, Row, made, delta, delta-same, delta-other, delta_below, zeros, one, ◌·◌, stack}
use Rattle.linear_algebra.specs.Parts.{row}
use Rattle.linear_algebra.specs.Rank.{IsInSpan, HasRightInverse}
use Rattle.linear_algebra.specs.BlockFamilies.{stack_all, beside_all, column_block}
use Rattle.linear_algebra.proofs.MatrixLaws.{mul_assoc_mat, mul_one_mat, zeros_mul}
use Rattle.linear_algebra.proofs.PartsLaws.{Row-eq, row-at, made-at}
use Rattle.linear_algebra.proofs.Families.{in_span_zeros}
use Rattle.linear_algebra.proofs.Solving.{in_span_by_rows, row_in_span, in_span_trans, in_span_sum, in_span_mul, right_inverse_injective}
use Rattle.linear_algebra.proofs.BlockFamilies.{stack_all_mul, stack_all-same, beside_blocks, beside_stack_all, beside_all-same, beside_all-zeros, sum_all-at}
use Rattle.linear_algebra.proofs.Steinitz.{steinitz}
use Rattle.linear_algebra.proofs.Subspaces.{independent_sum}
use Rattle.representations.specs.Quiver.{Quiver}
use Rattle.representations.specs.Rep.{Rep}
use Rattle.representations.specs.StackSpans.{stack_all_has, stack_has_first, stack_has_second}
use Rattle.representations.specs.RadicalModule.{radical}
use Rattle.representations.proofs.MatrixExtras.{span_of_rows}
use Rattle.representations.proofs.RadicalModule.{radical_in_basis, basis_in_radical}
use Rattle.projectives.specs.Generators.{count_at, rows_at, IsIndependentModuloRadical, SpansModuloRadical}
use Rattle.projectives.proofs.Generators.{rows_at-elsewhere}

module _ {q : Gf} {Q : Quiver} (X : Rep q Q) (k : ℕ) (v : ℕ → ℕ) (x : (j : ℕ) → Row q (X.dim (v j))) (w : ℕ) where
  -- one row for each generator at w, and none for the others
  abbrev pub size : ℕ → ℕ
  size j = cond (eqb (v j) w) 1 zero

  pub size_here : (j : ℕ) → v j ≡ w → size j ≡ 1
  size_here j e = cond-true (eqb (v j) w) 1 zero (eq-eqb (v j) w e)

  pub size_elsewhere : (j : ℕ) → v j ≢ w → size j ≡ 0
  size_elsewhere j d = cond-false (eqb (v j) w) 1 zero (ne_eqb (v j) w d)

  pub all_rows : Mat q k (X.dim w)
  all_rows = rows_at X k v x w

  pub block : (j : ℕ) → Mat q (size j) (X.dim w)
  block j = made q (size j) (X.dim w) (λ i c. all_rows.at j c)

  pub choice : (j : ℕ) → Mat q (size j) k
  choice j = made q (size j) k (λ i t. delta j t)

  pub chosen : Mat q (count_at k v w) (X.dim w)
  chosen = stack_all k size block

  pub choices : Mat q (count_at k v w) k
  choices = stack_all k size choice

  pub choice-at : (j i t : ℕ) → i < size j → t < k → (choice j).at i t ≡ delta j t
  unfolding choice
  choice-at j i t h l = made-at q (size j) k (λ i t. delta j t) i t h l ∙ mod-eq_of_lt (delta_below q j t)

  pub block-at : (j i c : ℕ) → i < size j → c < X.dim w → (block j).at i c ≡ all_rows.at j c
  unfolding block
  block-at j i c h l = made-at q (size j) (X.dim w) (λ i c. all_rows.at j c) i c h l ∙ mod-eq_of_lt (all_rows.fits.small j c)

  pub choice_block : (j : ℕ) → j < k → choice j · all_rows ≡ block j
  unfolding ◌·◌
  choice_block j h = Mat-eq_below _ _ (λ i c b l.
      sum-single q k j _ h (λ t m d. ap (λ a. mul q a (all_rows.at t c)) (choice-at j i t b m ∙ delta-other j t (λ e. d (sym e))) ∙ zero_mul q (all_rows.at t c))
      ∙ mod-mul q ((choice j).at i j) (all_rows.at j c)
      ∙ ap (λ a. mul q a (all_rows.at j c)) (choice-at j i j b h ∙ delta-same j) ∙ one_mul q (all_rows.at j c) (all_rows.fits.small j c)
      ∙ sym (block-at j i c b l))

  pub choices_chosen : choices · all_rows ≡ chosen
  unfolding choices chosen
  choices_chosen = stack_all_mul k size choice all_rows ∙ stack_all-same size k _ block choice_block

  -- The chosen rows span the same.
  pub chosen_span : IsInSpan chosen all_rows
  unfolding chosen all_rows zeros
  chosen_span = in_span_by_rows chosen all_rows (λ j h. elim (cases_eq (v j) w) [
    | inl e ↦
        let one_row = size_here j e in
        subst (IsInSpan chosen) (Row-eq (row 0 (block j)) (row j all_rows) (λ c l. row-at 0 (block j) c ∙ block-at j 0 c (omega arith) l ∙ sym (row-at j all_rows c)))
        (row_in_span chosen (block j) 0 (stack_all_has k size block j h))
    | inr d ↦ subst (IsInSpan chosen) (Row-eq (zeros q 1 (X.dim w)) (row j all_rows) (λ c l. sym (row-at j all_rows c ∙ rows_at-elsewhere X k v x w j c h d))) (in_span_zeros 1 chosen)
  ])

  -- Coefficients of the chosen rows, as coefficients of all.
  module _ (c : Row q (count_at k v w)) where
    part : (j : ℕ) → Row q (size j)
    part j = column_block k size j c

    parts : beside_all k size part ≡ c
    unfolding part
    parts = beside_blocks size k c

    part_choice-other : (j t : ℕ) → j < k → t ≢ j → (part t · choice t).at 0 j ≡ 0
    unfolding ◌·◌
    part_choice-other j t h d = sum-zeros q (size t) _ (λ i l. ap (mul q ((part t).at 0 i)) (choice-at t i j l h ∙ delta-other t j d) ∙ mul_zero q ((part t).at 0 i))

    part_choice-same : (j : ℕ) → j < k → v j ≡ w → (part j · choice j).at 0 j ≡ (part j).at 0 0
    unfolding ◌·◌
    part_choice-same j h e =
        let one_row = size_here j e in
        sum-single q (size j) 0 _ (omega arith) (λ i l d. absurd (omega arith)) ∙ mod-mul q ((part j).at 0 0) ((choice j).at 0 j)
        ∙ ap (mul q ((part j).at 0 0)) (choice-at j 0 j (omega arith) h ∙ delta-same j) ∙ mul_one q ((part j).at 0 0) ((part j).fits.small 0 0)

    coefficient : (j : ℕ) → j < k → v j ≡ w → (c · choices).at 0 j ≡ (part j).at 0 0
    unfolding choices
    coefficient j h e =
        ap (λ (z : Row q (count_at k v w)). (z · choices).at 0 j) (sym parts) ∙ ap (λ (z : Row q k). z.at 0 j) (beside_stack_all k size part choice)
        ∙ sum_all-at k (λ t. part t · choice t) 0 j
        ∙ sum-single q k j _ h (λ t l d. part_choice-other j t h d)
        ∙ mod-eq_of_lt ((part j · choice j).fits.small 0 j) ∙ part_choice-same j h e

    pub none_chosen : ((j : ℕ) → j < k → v j ≡ w → (c · choices).at 0 j ≡ 0) → c ≡ zeros q 1 (count_at k v w)
    unfolding zeros
    none_chosen z =
        sym parts
        ∙ beside_all-same size k part (λ j. zeros q 1 (size j)) (λ j h. Row-eq (part j) (zeros q 1 (size j)) (λ i l. elim (cases_eq (v j) w) [
          | inl e ↦ let one_row = size_here j e in let first : i ≡ 0 = omega arith in ap ((part j).at 0) first ∙ sym (coefficient j h e) ∙ z j h e
          | inr d ↦ let no_row = size_elsewhere j d in absurd (omega arith)
        ]))
        ∙ beside_all-zeros size k

  module _ (b : w < Q.vertices) (independent : IsIndependentModuloRadical X k v x) (span : SpansModuloRadical X k v x) where
    apart : (c : Row q (count_at k v w)) (d : Row q ((radical X).size w)) → c · chosen ≡ d · (radical X).basis w → (c ≡ zeros q 1 (count_at k v w)) × (d ≡ zeros q 1 ((radical X).size w))
    unfolding all_rows
    apart c d e = (none, right_inverse_injective ((radical X).basis w) ((radical X).independent w) d (sym e ∙ ap (λ z. z · chosen) none ∙ zeros_mul chosen))
      where
        same : c · choices · all_rows ≡ c · chosen
        same = mul_assoc_mat c choices all_rows ∙ ap (λ z. c · z) choices_chosen

        none : c ≡ zeros q 1 (count_at k v w)
        none = none_chosen c (independent w b (c · choices) (basis_in_radical (c · choices · all_rows) (record { by = d; is = sym e ∙ sym same })))

    both : HasRightInverse (stack chosen ((radical X).basis w))
    both = independent_sum chosen ((radical X).basis w) apart

    whole_span : IsInSpan (stack chosen ((radical X).basis w)) (one q (X.dim w))
    unfolding all_rows
    whole_span = span_of_rows (stack chosen ((radical X).basis w)) (one q (X.dim w)) (λ y.
        let s = span w y in
        subst (IsInSpan (stack chosen ((radical X).basis w))) (s.is ∙ sym (mul_one_mat y))
        (in_span_sum (stack chosen ((radical X).basis w)) (s.by · all_rows) s.rest
        (in_span_trans (stack chosen ((radical X).basis w)) chosen (s.by · all_rows) (stack_has_first chosen ((radical X).basis w)) (in_span_trans chosen all_rows (s.by · all_rows) chosen_span (in_span_mul all_rows s.by)))
        (in_span_trans (stack chosen ((radical X).basis w)) ((radical X).basis w) s.rest (stack_has_second chosen ((radical X).basis w)) (radical_in_basis s.in_radical))))

    pub generators_size : count_at k v w + (radical X).size w ≡ X.dim w
    generators_size = le_antisymm (steinitz _ both.inverse both.is) (steinitz whole_span.by _ whole_span.is)
