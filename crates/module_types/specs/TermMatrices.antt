-- Terms of a resolution read as sums of projective modules, and homomorphisms out of them by the rows that their generators go to; for representations
-- that need not be modules, since whatever is printed is read. (Assem, Simson, Skowroński, volume 1, chapter III, 2.)
use Rattle.std.specs.Prelude.{ℕ, zero, suc, [], length, slice_index_or}
use Rattle.linear_algebra.specs.Field.{Gf}
use Rattle.linear_algebra.specs.Matrix.{Mat, Row, Column, zeros, ◌·◌, transpose, stack}
use Rattle.linear_algebra.specs.Typed.{as_row}
use Rattle.representations.specs.Quiver.{Quiver, BoundQuiver}
use Rattle.representations.specs.Rep.{Rep}
use Rattle.representations.specs.Dual.{dual}
use Rattle.representations.specs.Sum.{sum_family}
use Rattle.projectives.specs.Words.{Words, along_word}
use Rattle.projectives.specs.Projective.{of_rows}
use Rattle.projectives.specs.Families.{projectives}
use Rattle.projectives.specs.CanonicalCover.{vertex_in, projectives_at}
use Rattle.projectives.specs.TwoSided.{TwoSided, other}
use Rattle.projectives.specs.Injective.{injectives}
use Rattle.module_types.specs.declared.TermRows.{TermRows}

-- Generators x 0, .., x (k − 1) at the vertices v 0, .., v (k − 1): at w, for each generator j and each word p from v j to w the row x j · p,
-- generator by generator.
unfoldable pub rows_along : {q : Gf} {Q : Quiver} (W : Words q Q) (X : Rep q Q) (k : ℕ) (v : ℕ → ℕ) (x : (j : ℕ) → Row q (X.dim (v j))) (w : ℕ) → Mat q ((projectives W k v).dim w) (X.dim w)
unfolding sum_family
rows_along {q} W X zero v x w = zeros q zero (X.dim w)
rows_along W X (suc k) v x w = stack (rows_along W X k v x w) (of_rows (W.count (v k) w) (λ i. x k · along_word W X (v k) w i))

-- Columns y 0, .., y (h − 1) at the vertices u 0, .., u (h − 1): at w, for each j and each word p from w to u j the column p · y j, one beside the other;
-- the same on the other side, transposed.
unfoldable pub columns_along : {q : Gf} {A : BoundQuiver} (T : TwoSided q A) (X : Rep q A.quiver) (h : ℕ) (u : ℕ → ℕ) (y : (j : ℕ) → Column q (X.dim (u j))) (w : ℕ) → Mat q (X.dim w) ((injectives T h u).dim w)
columns_along T X h u y w = transpose (rows_along (other T) (dual X) h u (λ j. transpose (y j)) w)

-- the number of generators of a term, and the vertex of each
abbrev pub count : TermRows → ℕ
count t = length t.vertices

abbrev pub vertex : TermRows → ℕ → ℕ
vertex t = vertex_in t.vertices

-- the row that a generator of a term goes to in X
abbrev pub generator_row : {q : Gf} {Q : Quiver} (X : Rep q Q) (t : TermRows) (j : ℕ) → Row q (X.dim (vertex t j))
generator_row {q} X t j = as_row q (X.dim (vertex t j)) (slice_index_or t.images j [])

-- the term as a sum of projective modules, and its matrices
abbrev pub sum_of_term : {q : Gf} {Q : Quiver} → Words q Q → TermRows → Rep q Q
sum_of_term W t = projectives_at W t.vertices

abbrev pub term_matrix : {q : Gf} {Q : Quiver} (W : Words q Q) (X : Rep q Q) (t : TermRows) (w : ℕ) → Mat q ((sum_of_term W t).dim w) (X.dim w)
term_matrix W X t w = rows_along W X (count t) (vertex t) (generator_row X t) w
