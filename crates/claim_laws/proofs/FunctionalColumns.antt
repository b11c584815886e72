-- The value of a printed functional is the row of the images times the column of its numbers.
use Rattle.std.proofs.Common.{ℕ, ◌≡◌, ◌<◌, ◌+◌, List, sym, ap, ◌∙◌, arith, slice_index}
use Rattle.linear_algebra.specs.Field.{Gf}
use Rattle.linear_algebra.specs.Matrix.{Mat, Column, Mat-eq_below, ◌·◌, made, transpose}
use Rattle.linear_algebra.specs.BlockFamilies.{beside_all, row_block, column_block, total}
use Rattle.linear_algebra.proofs.MatrixLaws.{transpose-at}
use Rattle.linear_algebra.proofs.PartsLaws.{made-at}
use Rattle.linear_algebra.proofs.BlockFamilies.{stack_all-same, stack_blocks, beside_stack_all, column_block-at, total_grows}
use Rattle.representations.specs.Quiver.{BoundQuiver}
use Rattle.representations.specs.Rep.{Rep}
use Rattle.projectives.specs.TwoSided.{TwoSided}
use Rattle.module_types.specs.declared.TermRows.{TermRows}
use Rattle.module_types.specs.TermMatrices.{count, vertex, generator_row}
use Rattle.module_types.specs.Presentations.{part, value_on}

module _ {q : Gf} {A : BoundQuiver} (T : TwoSided q A) (M : Rep q A.quiver) (t : TermRows) (phi : List ℕ) where
  abbrev size : ℕ → ℕ
  size j = M.dim (vertex t j)

  -- the numbers of the functional as a column
  unfoldable pub phi_column : Column q (total (count t) size)
  phi_column = made q (total (count t) size) 1 (λ i z. slice_index phi i)

  part_is : (j : ℕ) → j < count t → row_block (count t) size j phi_column ≡ part T M t phi j
  unfolding row_block phi_column
  part_is j l = Mat-eq_below _ _ (λ i z h k. (let inside = total_grows size (count t) j l in
      transpose-at (column_block (count t) size j (transpose phi_column)) i z ∙ column_block-at size (count t) j (transpose phi_column) z i h
      ∙ transpose-at phi_column z (total j size + i)
      ∙ made-at q (total (count t) size) 1 (λ i z. slice_index phi i) (total j size + i) z (omega arith) k
      ∙ sym (made-at q (size j) 1 (λ i z. slice_index phi (total j size + i)) i z h k)))

  pub value_on-images : (f : (w : ℕ) → Mat q (M.dim w) (M.dim w)) → value_on T M t phi f ≡ beside_all (count t) size (λ j. generator_row M t j · f (vertex t j)) · phi_column
  value_on-images f =
      sym (beside_stack_all (count t) size (λ j. generator_row M t j · f (vertex t j)) (part T M t phi))
      ∙ ap (λ z. beside_all (count t) size (λ j. generator_row M t j · f (vertex t j)) · z)
      (stack_all-same size (count t) (part T M t phi) (λ j. row_block (count t) size j phi_column) (λ j l. sym (part_is j l)) ∙ stack_blocks size (count t) phi_column)
