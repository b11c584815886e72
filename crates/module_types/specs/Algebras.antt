-- The two sides. Left modules are the right modules of the opposite algebra, and its words are the words reversed: the side is taken once, here,
-- and all that is read over a side is read over an algebra from the right. (Assem, Simson, Skowroński, volume 1, chapter I, 1 and 2, and III, 1.)
use Rattle.linear_algebra.specs.Field.{Gf}
use Rattle.path_algebra.specs.declared.Header.{Header}
use Rattle.representations.specs.Quiver.{BoundQuiver, opposite_algebra}
use Rattle.projectives.specs.Words.{Words, IsWordBasis}
use Rattle.projectives.specs.TwoSided.{TwoSided, other, swap}
use Rattle.bound_algebra.specs.BoundAlgebra.{bound_algebra}
use Rattle.module_types.specs.declared.Side.{Side}
use Rattle.module_types.specs.declared.Side.TheVariants.{Right, Left}

abbrev pub other_side : Side → Side
other_side Right = Left
other_side Left = Right

-- the algebra whose right modules are the modules of the side
abbrev pub sided : Side → BoundQuiver → BoundQuiver
sided Right A = A
sided Left A = opposite_algebra A

-- that of a header
abbrev pub algebra_at : Side → Header → BoundQuiver
algebra_at side h = sided side (bound_algebra h)

-- the words of the side, that they are a basis of its algebra, and that they are one on both sides of it
abbrev pub words_at : {q : Gf} {A : BoundQuiver} (side : Side) → TwoSided q A → Words q (sided side A).quiver
words_at Right T = T.words
words_at Left T = other T

abbrev pub basis_at : {q : Gf} {A : BoundQuiver} (side : Side) (T : TwoSided q A) → IsWordBasis (sided side A) (words_at side T)
basis_at Right T = T.basis
basis_at Left T = T.opposite_basis

abbrev pub sided_words : {q : Gf} {A : BoundQuiver} (side : Side) → TwoSided q A → TwoSided q (sided side A)
sided_words Right T = T
sided_words Left T = swap T
