-- A basis of the algebra by words: for any two vertices some paths, by whose classes the elements of the algebra from the one to the other are
-- combinations in one way. (Assem, Simson, Skowroński, volume 1, chapter II, 1 and 2, and III, 2.)
use Rattle.std.specs.Prelude.{ℕ, zero, ◌<◌, ◌≤◌, ◌≡◌, ◌⊎◌}
use Rattle.std.proofs.Common.{inl, inr}
use Rattle.std.proofs.lemmas.Bool.{cases_lt}
use Rattle.linear_algebra.specs.Field.{Gf}
use Rattle.linear_algebra.specs.Matrix.{Mat, zeros, ◌·◌}
use Rattle.linear_algebra.specs.Parts.{unit}
use Rattle.linear_algebra.specs.Families.{combine}
use Rattle.representations.specs.Quiver.{Quiver, Path, trivial, then, BoundQuiver}
use Rattle.representations.specs.Rep.{Rep, along, IsMod}

-- Words: from v to w there are `count v w` of them, and row i of `act v a` says which combination of words the i-th word from v to the source of the
-- arrow a is, followed by a.
pub record Words (q : Gf) (Q : Quiver) : Type 0 where
  pub count : ℕ → ℕ → ℕ
  pub word : (v w i : ℕ) → i < count v w → Path Q v w
  pub act : (v a : ℕ) → Mat q (count v (Q.source a)) (count v (Q.target a))
  pub past : (v w : ℕ) → Q.vertices ≤ w → count v w ≡ zero

-- The matrix of the i-th word on X, zero where there is none.
abbrev pub word_at : {q : Gf} {Q : Quiver} (W : Words q Q) (X : Rep q Q) (v w i : ℕ) → (i < W.count v w) ⊎ (W.count v w ≤ i) → Mat q (X.dim v) (X.dim w)
word_at W X v w i (inl h) = along X (W.word v w i h)
word_at {q} W X v w i (inr h) = zeros q (X.dim v) (X.dim w)

unfoldable pub along_word : {q : Gf} {Q : Quiver} (W : Words q Q) (X : Rep q Q) (v w i : ℕ) → Mat q (X.dim v) (X.dim w)
along_word W X v w i = word_at W X v w i (cases_lt i (W.count v w))

-- The representation of all words from v: the right module that the trivial path at v generates.
abbrev pub projective : {q : Gf} {Q : Quiver} → Words q Q → ℕ → Rep q Q
projective W v = record { dim = W.count v; mat = W.act v; past = W.past v }

-- The path p is a word.
pub record IsWord {q : Gf} {Q : Quiver} (W : Words q Q) (v w : ℕ) (p : Path Q v w) : Type 0 where
  pub place : ℕ
  pub below : place < W.count v w
  pub is : W.word v w place below ≡ p

-- The words are a basis of the algebra A: the representations of words are modules; on each module a word and then an arrow is the combination that
-- `act` says; the trivial path is a word, no other word is trivial, and it generates: it goes along each word to that word; a word without its last
-- arrow is a word; and where a word is followed by an arrow, no trivial word stands in the combination.
pub record IsWordBasis {q : Gf} (A : BoundQuiver) (W : Words q A.quiver) : Type 0 where
  pub modules : (v : ℕ) → IsMod A (projective W v)
  pub acts : (X : Rep q A.quiver) → IsMod A X → (v a i : ℕ) → i < W.count v (A.quiver.source a)
      → along_word W X v (A.quiver.source a) i · X.mat a ≡ combine (W.count v (A.quiver.target a)) ((W.act v a).at i) (along_word W X v (A.quiver.target a))
  pub place : ℕ → ℕ
  pub place_below : (v : ℕ) → v < A.quiver.vertices → place v < W.count v v
  pub place_trivial : (v : ℕ) (h : place v < W.count v v) → W.word v v (place v) h ≡ trivial
  pub generates : (v w i : ℕ) → i < W.count v w → unit q (W.count v v) (place v) · along_word W (projective W v) v w i ≡ unit q (W.count v w) i
  pub place_only : (v i : ℕ) (h : i < W.count v v) → W.word v v i h ≡ trivial → i ≡ place v
  pub without_last : (v a i : ℕ) (h : i < W.count v (A.quiver.target a)) (p : Path A.quiver v (A.quiver.source a)) → W.word v (A.quiver.target a) i h ≡ then a p
      → IsWord W v (A.quiver.source a) p
  pub not_trivial : (v a i : ℕ) → A.quiver.target a ≡ v → (W.act v a).at i (place v) ≡ zero
