-- A row along a word, on both sides: along the arrows of the word from first to last on the right, from last to first on the left.
use Rattle.std.proofs.Common.{ℕ, ◌≡◌, ◌<◌, ◌≤◌, ◌⊎◌, inl, inr, List, [], ◌∷◌, ◌++◌, refl, sym, ap, ◌∙◌, arith}
use Rattle.std.proofs.lemmas.Bool.{cases_lt}
use Rattle.linear_algebra.specs.Field.{Gf}
use Rattle.linear_algebra.specs.Matrix.{Row, ◌·◌}
use Rattle.linear_algebra.proofs.MatrixLaws.{mul_one_mat, mul_assoc_mat}
use Rattle.quiver_paths.specs.declared.Path.{Path}
use Rattle.path_algebra.specs.declared.Header.{Header}
use Rattle.path_algebra.specs.Allowed.{IsAllowed}
use Rattle.path_algebra.specs.Words.{AreNormalWords}
use Rattle.representations.specs.Quiver.{Quiver, Path as TypedPath, trivial, then, reverse, opposite}
use Rattle.representations.specs.Rep.{Rep, along}
use Rattle.representations.proofs.Paths.{along-trivial, along-then, along_after}
use Rattle.module_types.specs.Walks.{step, walk, walk_back}
use Rattle.projectives.specs.Words.{word_at, along_word}
use Rattle.bound_algebra.specs.TypedPaths.{quiver_of, arrows_of}
use Rattle.bound_algebra.specs.NormalWords.{word_count, normal_word, typed_word}
use Rattle.bound_algebra.specs.AlgebraWords.{algebra_words, opposite_words}
use Rattle.bound_algebra.proofs.TypedPaths.{arrows_of-path_of}

module _ {q : Gf} {Q : Quiver} (X : Rep q Q) where
  step_is : (a : ℕ) (y : Row q (X.dim (Q.source a))) → (y · X.mat a).at 0 ≡ step X a (y.at 0)
  unfolding step ◌·◌
  step_is a y = refl

  walk_push : (f : ℕ → ℕ) (xs : List ℕ) (a : ℕ) → walk X f (xs ++ a ∷ []) ≡ step X a (walk X f xs)
  walk_push f [] a = refl
  walk_push f (b ∷ xs) a = walk_push (step X b f) xs a

  pub walk_along : {v w : ℕ} (p : TypedPath Q v w) (x : Row q (X.dim v)) → (x · along X p).at 0 ≡ walk X (x.at 0) (arrows_of p)
  walk_along {v} trivial x = ap (λ (z : Row q (X.dim v)). z.at 0) (ap (λ m. x · m) (along-trivial X v) ∙ mul_one_mat x)
  walk_along (then a p) x =
      ap (λ (z : Row q (X.dim (Q.target a))). z.at 0) (ap (λ m. x · m) (along-then X a p) ∙ sym (mul_assoc_mat x (along X p) (X.mat a)))
      ∙ step_is a (x · along X p) ∙ ap (step X a) (walk_along p x) ∙ sym (walk_push (x.at 0) (arrows_of p) a)

walk_back_push : {q : Gf} {Q : Quiver} (X : Rep q Q) (f : ℕ → ℕ) (xs : List ℕ) (a : ℕ) → walk_back X f (xs ++ a ∷ []) ≡ walk_back X (step X a f) xs
walk_back_push X f [] a = refl
walk_back_push X f (b ∷ xs) a = ap (step X b) (walk_back_push X f xs a)

pub walk_reverse : {q : Gf} {Q : Quiver} (X : Rep q (opposite Q)) {v w : ℕ} (p : TypedPath Q v w) (x : Row q (X.dim w)) → (x · along X (reverse p)).at 0 ≡ walk_back X (x.at 0) (arrows_of p)
walk_reverse {q} {Q} X {v} trivial x = ap (λ (z : Row q (X.dim v)). z.at 0) (ap (λ m. x · m) (along-trivial X v) ∙ mul_one_mat x)
walk_reverse {q} {Q} X {v} (then a p) x =
    ap (λ (z : Row q (X.dim v)). z.at 0) (ap (λ m. x · m) (along_after {Q = opposite Q} X a (reverse p)) ∙ sym (mul_assoc_mat x (X.mat a) (along X (reverse p))))
    ∙ walk_reverse X p (x · X.mat a) ∙ ap (λ f. walk_back X f (arrows_of p)) (step_is X a x) ∙ sym (walk_back_push X (x.at 0) (arrows_of p) a)

module _ (h : Header) (ok : IsAllowed h) (words : List Path) (w : AreNormalWords h words) where
  right_by : (X : Rep h.field (quiver_of h.quiver)) (b c i : ℕ) → i < word_count h ok words w b c → (x : Row h.field (X.dim b)) (d : (i < word_count h ok words w b c) ⊎ (word_count h ok words w b c ≤ i))
      → (x · word_at (algebra_words h ok words w) X b c i d).at 0 ≡ walk X (x.at 0) (normal_word h ok words w b c i).arrows
  right_by X b c i l x (inl k) = walk_along X (typed_word h ok words w b c i k) x ∙ ap (walk X (x.at 0)) (arrows_of-path_of h.quiver b (normal_word h ok words w b c i).arrows c _)
  right_by X b c i l x (inr k) = absurd (omega arith)

  pub along_right_word : (X : Rep h.field (quiver_of h.quiver)) (b c i : ℕ) → i < word_count h ok words w b c → (x : Row h.field (X.dim b))
      → (x · along_word (algebra_words h ok words w) X b c i).at 0 ≡ walk X (x.at 0) (normal_word h ok words w b c i).arrows
  unfolding along_word
  along_right_word X b c i l x = right_by X b c i l x (cases_lt i (word_count h ok words w b c))

  left_by : (X : Rep h.field (opposite (quiver_of h.quiver))) (b c i : ℕ) → i < word_count h ok words w c b → (x : Row h.field (X.dim b)) (d : (i < word_count h ok words w c b) ⊎ (word_count h ok words w c b ≤ i))
      → (x · word_at (opposite_words h ok words w) X b c i d).at 0 ≡ walk_back X (x.at 0) (normal_word h ok words w c b i).arrows
  left_by X b c i l x (inl k) = walk_reverse X (typed_word h ok words w c b i k) x ∙ ap (walk_back X (x.at 0)) (arrows_of-path_of h.quiver c (normal_word h ok words w c b i).arrows b _)
  left_by X b c i l x (inr k) = absurd (omega arith)

  pub along_left_word : (X : Rep h.field (opposite (quiver_of h.quiver))) (b c i : ℕ) → i < word_count h ok words w c b → (x : Row h.field (X.dim b))
      → (x · along_word (opposite_words h ok words w) X b c i).at 0 ≡ walk_back X (x.at 0) (normal_word h ok words w c b i).arrows
  unfolding along_word
  along_left_word X b c i l x = left_by X b c i l x (cases_lt i (word_count h ok words w c b))
