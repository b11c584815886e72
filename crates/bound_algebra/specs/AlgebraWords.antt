-- The normal words as a basis on both sides. A word and an arrow, in either order, is a combination of words: its normal form.
-- (Assem, Simson, Skowroński, volume 1, chapter II, 1 and 2, and III, 2; normal forms are Green's.)
use Rattle.std.specs.Prelude.{ℕ, List}
use Rattle.linear_algebra.specs.Matrix.{Mat, made}
use Rattle.quiver_paths.specs.declared.Path.{Path}
use Rattle.quiver_paths.specs.Quiver.{source, target}
use Rattle.quiver_paths.specs.Path.{trivial_path, arrow_path}
use Rattle.path_algebra.specs.declared.Header.{Header}
use Rattle.path_algebra.specs.Allowed.{IsAllowed}
use Rattle.path_algebra.specs.Words.{AreNormalWords}
use Rattle.path_algebra.proofs.Between.{composite}
use Rattle.path_algebra.proofs.NormalForms.{normal_form}
use Rattle.representations.specs.Quiver.{opposite}
use Rattle.projectives.specs.Words.{Words}
use Rattle.projectives.specs.TwoSided.{reversed}
use Rattle.bound_algebra.specs.TypedPaths.{quiver_of}
use Rattle.bound_algebra.specs.NormalWords.{word_count, normal_word, typed_word, none_start, none_end}

module _ (h : Header) (ok : IsAllowed h) (words : List Path) (w : AreNormalWords h words) where
  -- Row i says which combination of the words from b' to c' the path u·w·v is, w the i-th word from b to c: entry j is the coefficient of its
  -- normal form at the j-th word. Here u leads from b' to b, and v from c to c'.
  unfoldable pub product_matrix : (b c b' c' : ℕ) → Path → Path → Mat h.field (word_count h ok words w b c) (word_count h ok words w b' c')
  product_matrix b c b' c' u v =
      made h.field (word_count h ok words w b c) (word_count h ok words w b' c')
      (λ i j. normal_form h ok words w (composite u (normal_word h ok words w b c i) v) (normal_word h ok words w b' c' j))

  -- Row i: the i-th word from v to the source of the arrow a, and then a.
  abbrev pub arrows_behind : (v a : ℕ) → Mat h.field (word_count h ok words w v (source h.quiver a)) (word_count h ok words w v (target h.quiver a))
  arrows_behind v a = product_matrix v (source h.quiver a) v (target h.quiver a) (trivial_path v) (arrow_path h.quiver a)

  -- Row i: the arrow a, and then the i-th word from its target to v.
  abbrev pub arrows_before : (v a : ℕ) → Mat h.field (word_count h ok words w (target h.quiver a) v) (word_count h ok words w (source h.quiver a) v)
  arrows_before v a = product_matrix (target h.quiver a) v (source h.quiver a) v (arrow_path h.quiver a) (trivial_path v)

  -- The words of the algebra; and reversed the words of the opposite algebra, of which those from v to w are the words from w to v.
  abbrev pub algebra_words : Words h.field (quiver_of h.quiver)
  algebra_words = record { count = word_count h ok words w; word = typed_word h ok words w; act = arrows_behind; past = none_end h ok words w }

  abbrev pub opposite_words : Words h.field (opposite (quiver_of h.quiver))
  opposite_words = reversed algebra_words arrows_before (none_start h ok words w)
