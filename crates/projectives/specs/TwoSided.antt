-- The words of an algebra on both sides: a basis of the algebra by words, reversed, is a basis of the opposite algebra.
-- (Assem, Simson, Skowroński, volume 1, chapter I, 1, and III, 2.)
use Rattle.std.specs.Prelude.{ℕ, zero, ◌<◌, ◌≤◌, ◌≡◌}
use Rattle.std.proofs.Common.{sym, subst}
use Rattle.linear_algebra.specs.Field.{Gf}
use Rattle.linear_algebra.specs.Matrix.{Mat}
use Rattle.representations.specs.Quiver.{Quiver, Path, opposite, reverse, BoundQuiver, with_relations, opposite_relation, opposite_algebra}
use Rattle.representations.proofs.Duals.{reverse_reverse}
use Rattle.projectives.specs.Words.{Words, IsWordBasis}

-- The words reversed, as words of the opposite quiver: those from v to w are the words from w to v, in the same order. Row i of `before v a` says
-- which combination of words the arrow a, and then the i-th word from its target to v, is.
abbrev pub reversed : {q : Gf} {Q : Quiver} (W : Words q Q) → ((v a : ℕ) → Mat q (W.count (Q.target a) v) (W.count (Q.source a) v)) → ((v w : ℕ) → Q.vertices ≤ v → W.count v w ≡ zero) → Words q (opposite Q)
reversed W before none = record { count = λ v w. W.count w v; word = λ v w i h. reverse (W.word w v i h); act = before; past = λ v w h. none w v h }

-- Words that are a basis of the algebra A, and reversed a basis of the opposite algebra.
pub record TwoSided (q : Gf) (A : BoundQuiver) : Type 0 where
  pub words : Words q A.quiver
  pub before : (v a : ℕ) → Mat q (words.count (A.quiver.target a) v) (words.count (A.quiver.source a) v)
  pub none : (v w : ℕ) → A.quiver.vertices ≤ v → words.count v w ≡ zero
  pub basis : IsWordBasis A words
  pub opposite_basis : IsWordBasis (opposite_algebra A) (reversed words before none)

-- The words of the other side.
abbrev pub other : {q : Gf} {A : BoundQuiver} → TwoSided q A → Words q (opposite A.quiver)
other T = reversed T.words T.before T.none

-- Words with other paths.
abbrev pub with_paths : {q : Gf} {Q : Quiver} (W : Words q Q) → ((v w i : ℕ) → i < W.count v w → Path Q v w) → Words q Q
with_paths W p = record { count = W.count; word = p; act = W.act; past = W.past }

-- Relations and paths, reversed twice, are what they were.
pub relations_back : (A : BoundQuiver) → A.relation ≡ (λ i. opposite_relation (opposite_relation (A.relation i)))
relations_back A = sym (λ k i. record {
  from = (A.relation i).from;
  to = (A.relation i).to;
  terms = (A.relation i).terms;
  coefficient = (A.relation i).coefficient;
  path = λ j. reverse_reverse ((A.relation i).path j) k;
})

pub paths_back : {q : Gf} {Q : Quiver} (W : Words q Q) → W.word ≡ (λ v w i h. reverse (reverse (W.word v w i h)))
paths_back W = sym (λ k v w i h. reverse_reverse (W.word v w i h) k)

-- A basis of A is one of the opposite of the opposite algebra.
unfoldable pub basis_back : {q : Gf} (A : BoundQuiver) (W : Words q A.quiver) → IsWordBasis A W → IsWordBasis (opposite_algebra (opposite_algebra A)) (with_paths W (λ v w i h. reverse (reverse (W.word v w i h))))
basis_back A W B =
    subst (λ p. IsWordBasis (opposite_algebra (opposite_algebra A)) (with_paths W p)) (paths_back W)
    (subst (λ r. IsWordBasis (with_relations A r) W) (relations_back A) B)

-- The two sides exchanged.
abbrev pub swap : {q : Gf} {A : BoundQuiver} → TwoSided q A → TwoSided q (opposite_algebra A)
swap {A = A} T = record { words = other T; before = T.words.act; none = λ v w h. T.words.past w v h; basis = T.opposite_basis; opposite_basis = basis_back A T.words T.basis }
