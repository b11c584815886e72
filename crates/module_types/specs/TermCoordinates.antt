-- Homomorphisms from a term of a resolution to Y in coordinates: the coordinates in Y of the value of its first generator, then of the second, and so on;
-- and what becomes of them behind the map from the next term. (Assem, Simson, Skowroński, volume 1, chapter III, 2, and appendix A, 4.)
use Rattle.std.specs.Prelude.{ℕ}
use Rattle.linear_algebra.specs.Field.{Gf}
use Rattle.linear_algebra.specs.Matrix.{Mat, Row, ◌·◌}
use Rattle.linear_algebra.specs.LinearMaps.{matrix_of}
use Rattle.linear_algebra.specs.BlockFamilies.{beside_all, column_block}
use Rattle.representations.specs.Quiver.{Quiver}
use Rattle.representations.specs.Rep.{Rep}
use Rattle.projectives.specs.Words.{Words}
use Rattle.projectives.specs.Extensions.{coordinate_count}
use Rattle.module_types.specs.declared.TermRows.{TermRows}
use Rattle.module_types.specs.TermMatrices.{count, vertex, generator_row, sum_of_term, rows_along}

module _ {q : Gf} {Q : Quiver} (Y : Rep q Q) (t : TermRows) where
  -- the number of coordinates, and the value of generator j
  abbrev pub coordinates : ℕ
  coordinates = coordinate_count Y (count t) (vertex t)

  abbrev pub value_in : Row q coordinates → (j : ℕ) → Row q (Y.dim (vertex t j))
  value_in x j = column_block (count t) (λ j. Y.dim (vertex t j)) j x

-- What the homomorphism with the coordinates x, behind the map from the next term, takes each generator of the next term to: its row in the term, under
-- the homomorphism, which takes the word p of generator j to p behind the value of j.
unfoldable pub follow : {q : Gf} {Q : Quiver} (W : Words q Q) (Y : Rep q Q) (t next : TermRows) → Row q (coordinates Y t) → Row q (coordinates Y next)
follow W Y t next x =
    beside_all (count next) (λ i. Y.dim (vertex next i)) (λ i. generator_row (sum_of_term W t) next i · rows_along W Y (count t) (vertex t) (value_in Y t x) (vertex next i))

abbrev pub follow_matrix : {q : Gf} {Q : Quiver} (W : Words q Q) (Y : Rep q Q) (t next : TermRows) → Mat q (coordinates Y t) (coordinates Y next)
follow_matrix W Y t next = matrix_of (follow W Y t next)
