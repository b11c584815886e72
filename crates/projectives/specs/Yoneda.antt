-- The homomorphism out of the projective module at v that takes the generator to x. (Assem, Simson, Skowroński, volume 1, chapter III, 2.)
use Rattle.std.specs.Prelude.{ℕ, ◌<◌, ◌≡◌}
use Rattle.std.proofs.Common.{sym, ap, ◌∙◌, ltb, zero, lt-ltb}
use Rattle.std.proofs.lemmas.Bool.{cond-true}
use Rattle.linear_algebra.specs.Field.{Gf}
use Rattle.linear_algebra.specs.Matrix.{Mat, Row, ◌·◌}
use Rattle.linear_algebra.specs.Parts.{row}
use Rattle.linear_algebra.proofs.MatrixLaws.{mul_assoc_mat}
use Rattle.linear_algebra.proofs.PartsLaws.{rows_equal, row-mul, Row-eq, row-at}
use Rattle.linear_algebra.proofs.LinearMaps.{mul_rows, combine-same_members}
use Rattle.linear_algebra.proofs.Families.{mul_combine, combine-same}
use Rattle.representations.specs.Quiver.{BoundQuiver}
use Rattle.representations.specs.Rep.{Rep, IsMod}
use Rattle.representations.specs.Hom.{Hom}
use Rattle.projectives.specs.Words.{Words, IsWordBasis, along_word, projective}
use Rattle.projectives.specs.Projective.{of_rows}

pub row-of_rows : {q : Gf} {n : ℕ} (m : ℕ) (r : ℕ → Row q n) (i : ℕ) → i < m → row i (of_rows m r) ≡ r i
unfolding of_rows
row-of_rows m r i h = Row-eq _ _ (λ j k. row-at i (of_rows m r) j ∙ cond-true (ltb i m) ((r i).at 0 j) zero (lt-ltb i m h))

module _ {q : Gf} (A : BoundQuiver) (W : Words q A.quiver) (B : IsWordBasis A W) (X : Rep q A.quiver) (M : IsMod A X) (v : ℕ) (x : Row q (X.dim v)) where
  -- at each vertex the rows x · X_p, for all words p
  unfoldable pub word_rows : (w : ℕ) → Mat q (W.count v w) (X.dim w)
  word_rows w = of_rows (W.count v w) (λ i. x · along_word W X v w i)

  pub row-word_rows : (w i : ℕ) → i < W.count v w → row i (word_rows w) ≡ x · along_word W X v w i
  unfolding word_rows
  row-word_rows w i h = row-of_rows (W.count v w) (λ i. x · along_word W X v w i) i h

  pub word_rows-square : (a : ℕ) → W.act v a · word_rows (A.quiver.target a) ≡ word_rows (A.quiver.source a) · X.mat a
  word_rows-square a = rows_equal _ _ (λ i h.
      row-mul i (W.act v a) (word_rows (A.quiver.target a)) ∙ mul_rows (row i (W.act v a)) (word_rows (A.quiver.target a))
      ∙ combine-same (W.count v (A.quiver.target a)) ((row i (W.act v a)).at 0) ((W.act v a).at i) (λ j. row j (word_rows (A.quiver.target a))) (λ j l. row-at i (W.act v a) j)
      ∙ combine-same_members (W.count v (A.quiver.target a)) ((W.act v a).at i) _ _ (λ j l. row-word_rows (A.quiver.target a) j l)
      ∙ sym (mul_combine (W.count v (A.quiver.target a)) ((W.act v a).at i) x (along_word W X v (A.quiver.target a)))
      ∙ ap (λ z. x · z) (sym (B.acts X M v a i h)) ∙ sym (mul_assoc_mat x (along_word W X v (A.quiver.source a) i) (X.mat a))
      ∙ ap (λ z. z · X.mat a) (sym (row-word_rows (A.quiver.source a) i h)) ∙ sym (row-mul i (word_rows (A.quiver.source a)) (X.mat a)))

  unfoldable pub yoneda : Hom (projective W v) X
  yoneda = record { at = word_rows; square = word_rows-square }
