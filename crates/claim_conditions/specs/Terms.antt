-- Printed terms read as a resolution, one after another: past the printed terms there are no generators.
-- (Assem, Simson, Skowroński, volume 1, chapter I, 5, and III, 2.)
use Rattle.std.specs.Prelude.{ℕ, List, [], slice_index_or}
use Rattle.linear_algebra.specs.Field.{Gf}
use Rattle.linear_algebra.specs.Matrix.{Row}
use Rattle.representations.specs.Quiver.{Quiver}
use Rattle.representations.specs.Rep.{Rep}
use Rattle.projectives.specs.Words.{Words}
use Rattle.projectives.specs.Resolutions.{target}
use Rattle.module_types.specs.declared.TermRows.{TermRows}
use Rattle.module_types.specs.TermMatrices.{vertex, generator_row, sum_of_term, term_matrix}
use Rattle.claim_conditions.specs.Families.{Family}

abbrev pub term_at : List TermRows → ℕ → TermRows
term_at terms n = slice_index_or terms n (record { vertices = []; images = [] })

abbrev pub vertices_at : List TermRows → ℕ → List ℕ
vertices_at terms n = (term_at terms n).vertices

module _ {q : Gf} {Q : Quiver} (W : Words q Q) (X : Rep q Q) (terms : List TermRows) where
  -- term n, a sum of projective modules; what it goes to: X, and then the term before
  abbrev pub sum_at : ℕ → Rep q Q
  sum_at n = sum_of_term W (term_at terms n)

  abbrev pub goes_to : ℕ → Rep q Q
  goes_to n = target W X (vertices_at terms) n

  -- the rows that its generators go to, and its matrices
  abbrev pub printed_row : (n j : ℕ) → Row q ((goes_to n).dim (vertex (term_at terms n) j))
  printed_row n j = generator_row (goes_to n) (term_at terms n) j

  abbrev pub printed_matrix : (n : ℕ) → Family (sum_at n) (goes_to n)
  printed_matrix n = term_matrix W (goes_to n) (term_at terms n)
