-- The rows of the radical are those in the span of its basis.
use Rattle.std.proofs.Common.{ℕ, zero, suc, ◌<◌, ◌≡◌, ◌≢◌, ◌⊎◌, inl, inr, refl, sym, ap, ◌∙◌, arith, subst}
use Rattle.std.proofs.lemmas.Bool.{cases_eq}
use Rattle.linear_algebra.specs.Field.{Gf}
use Rattle.linear_algebra.specs.Matrix.{Mat-eq, Row, reshape, ◌·◌}
use Rattle.linear_algebra.specs.Rank.{IsInSpan}
use Rattle.linear_algebra.specs.BlockFamilies.{stack_all, sum_all, column_block}
use Rattle.linear_algebra.proofs.MatrixLaws.{mul_zeros, mul_assoc_mat}
use Rattle.linear_algebra.proofs.PartsLaws.{reshape-at}
use Rattle.linear_algebra.proofs.Solving.{in_span_trans, in_span_sum}
use Rattle.linear_algebra.proofs.Families.{in_span_zeros}
use Rattle.linear_algebra.proofs.BlockFamilies.{beside_stack_all, beside_blocks}
use Rattle.linear_algebra.proofs.RowForm.{reduced_form}
use Rattle.representations.specs.Quiver.{Quiver, Path, trivial, then, path_length, arrow_path}
use Rattle.representations.specs.Rep.{Rep, along}
use Rattle.representations.specs.Radical.{IsInRadicalPower, IsInRadical}
use Rattle.representations.specs.RadicalModule.{arrow_at, arrow_into, arrow_rows, arrow_rows_have, radical}
use Rattle.representations.proofs.Paths.{along_arrow}
use Rattle.representations.proofs.Radical.{radical-zeros, radical-sum, radical-along, by_terms}

-- What comes along a path of at least one arrow comes along its last arrow.
pub along_last : {q : Gf} {Q : Quiver} (X : Rep q Q) {k v w : ℕ} (p : Path Q v w) → path_length p ≡ suc k → (y : Row q (X.dim v)) → IsInSpan (arrow_rows X w) (y · along X p)
unfolding along
along_last X trivial e y = absurd (omega arith)
along_last X (then a p) e y = subst (IsInSpan (arrow_rows X _)) (mul_assoc_mat y (along X p) (X.mat a)) (arrow_rows_have X a (y · along X p))

module _ {q : Gf} {Q : Quiver} {X : Rep q Q} where
  pub radical_in_span : {w : ℕ} {x : Row q (X.dim w)} → IsInRadical X w x → IsInSpan (arrow_rows X w) x
  radical_in_span {w} = by_terms (λ x. IsInSpan (arrow_rows X w) x) (in_span_zeros 1 (arrow_rows X w)) (λ x y s t. in_span_sum (arrow_rows X w) x y s t) (λ v p e y. along_last X p e y)

  along_arrow_at : (w a : ℕ) (c : (Q.target a ≡ w) ⊎ (Q.target a ≢ w)) (y : Row q (X.dim (Q.source a))) → IsInRadical X w (y · arrow_at X w a c)
  along_arrow_at w a (inl e) y = subst Comes e base e
    where
      Comes : ℕ → Type 0
      Comes w = (e : Q.target a ≡ w) → IsInRadical X w (y · reshape refl (ap X.dim e) (X.mat a))

      base : Comes (Q.target a)
      base e =
          subst (λ z. IsInRadical X (Q.target a) (y · z)) (along_arrow X a ∙ Mat-eq _ _ (λ i j. sym (reshape-at refl (ap X.dim e) (X.mat a) i j)))
          (radical-along (arrow_path a) (omega arith) y)
  along_arrow_at w a (inr d) y = subst (IsInRadical X w) (sym (mul_zeros y)) (radical-zeros 1 w)

  pub radical_sum_all : (k j w : ℕ) (f : ℕ → Row q (X.dim w)) → ((i : ℕ) → i < k → IsInRadicalPower X j w (f i)) → IsInRadicalPower X j w (sum_all k f)
  unfolding sum_all
  radical_sum_all zero j w f h = radical-zeros j w
  radical_sum_all (suc k) j w f h = radical-sum (radical_sum_all k j w f (λ i l. h i (omega arith))) (h k (omega arith))

  pub span_in_radical : {w : ℕ} (x : Row q (X.dim w)) → IsInSpan (arrow_rows X w) x → IsInRadical X w x
  unfolding arrow_rows arrow_into
  span_in_radical {w} x s =
      subst (IsInRadical X w)
      (sym (beside_stack_all Q.arrows size block (arrow_into X w)) ∙ ap (λ z. z · stack_all Q.arrows size (arrow_into X w)) (beside_blocks size Q.arrows s.by) ∙ s.is)
      (radical_sum_all Q.arrows 1 w (λ a. block a · arrow_into X w a) (λ a h. along_arrow_at w a (cases_eq (Q.target a) w) (block a)))
    where
      size : ℕ → ℕ
      size a = X.dim (Q.source a)

      block : (a : ℕ) → Row q (X.dim (Q.source a))
      block a = column_block Q.arrows size a s.by

  -- The same with the basis of the radical.
  pub radical_in_basis : {w : ℕ} {x : Row q (X.dim w)} → IsInRadical X w x → IsInSpan ((radical X).basis w) x
  unfolding radical
  radical_in_basis {w} {x} r = in_span_trans (reduced_form (arrow_rows X w)).rows (arrow_rows X w) x (reduced_form (arrow_rows X w)).spans (radical_in_span r)

  pub basis_in_radical : {w : ℕ} (x : Row q (X.dim w)) → IsInSpan ((radical X).basis w) x → IsInRadical X w x
  unfolding radical
  basis_in_radical {w} x s = span_in_radical x (in_span_trans (arrow_rows X w) (reduced_form (arrow_rows X w)).rows x (reduced_form (arrow_rows X w)).spanned s)
