-- The words of at least one arrow lie in the radical of a projective module.
use Rattle.std.proofs.Common.{ℕ, suc, ◌<◌, ◌≤◌, ◌≡◌, ◌⊎◌, inl, inr, sym, ap, ◌∙◌, arith, subst}
use Rattle.std.proofs.lemmas.Bool.{cases_lt}
use Rattle.linear_algebra.specs.Field.{Gf}
use Rattle.linear_algebra.specs.Matrix.{Row, ◌·◌}
use Rattle.linear_algebra.specs.Parts.{unit}
use Rattle.linear_algebra.proofs.MatrixLaws.{mul_assoc_mat}
use Rattle.representations.specs.Quiver.{Quiver, Path, trivial, then, path_length, arrow_path, BoundQuiver}
use Rattle.representations.specs.Rep.{Rep, along}
use Rattle.representations.specs.Radical.{IsInRadical}
use Rattle.representations.proofs.Paths.{along_arrow, along-then}
use Rattle.representations.proofs.Radical.{radical-along}
use Rattle.projectives.specs.Words.{Words, IsWordBasis, word_at, along_word, projective}

-- What comes along a path of at least one arrow is in the radical.
pub radical_of_long : {q : Gf} {Q : Quiver} (X : Rep q Q) {k v w : ℕ} (p : Path Q v w) → path_length p ≡ suc k → (y : Row q (X.dim v)) → IsInRadical X w (y · along X p)
radical_of_long X trivial e y = absurd (omega arith)
radical_of_long X (then a p) e y =
    subst (IsInRadical X _) (ap (λ z. y · along X p · z) (along_arrow X a) ∙ mul_assoc_mat y (along X p) (X.mat a) ∙ ap (λ z. y · z) (sym (along-then X a p)))
    (radical-along (arrow_path a) (omega arith) (y · along X p))

pub word_in_radical : {q : Gf} (A : BoundQuiver) (W : Words q A.quiver) (B : IsWordBasis A W) (v w i k : ℕ) → i < W.count v w
    → ((h : i < W.count v w) → path_length (W.word v w i h) ≡ suc k) → IsInRadical (projective W v) w (unit q (W.count v w) i)
unfolding along_word
word_in_radical {q} A W B v w i k h e = subst (IsInRadical (projective W v) w) (B.generates v w i h) (here (cases_lt i (W.count v w)))
  where
    here : (c : (i < W.count v w) ⊎ (W.count v w ≤ i)) → IsInRadical (projective W v) w (unit q (W.count v v) (B.place v) · word_at W (projective W v) v w i c)
    here (inl l) = radical_of_long (projective W v) (W.word v w i l) (e l) (unit q (W.count v v) (B.place v))
    here (inr l) = absurd (omega arith)
