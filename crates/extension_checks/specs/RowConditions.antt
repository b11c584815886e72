-- The conditions on the rows of a claim on extensions: all but the first.
use Rattle.std.specs.Prelude.{ℕ, List, [], ◌∷◌}
use Rattle.linear_algebra.specs.Field.{Gf}
use Rattle.linear_algebra.specs.Matrix.{Mat}
use Rattle.linear_algebra.specs.Typed.{as_mat}
use Rattle.fp_linear.specs.Matrix.{PlainMatrix}
use Rattle.representations.specs.Quiver.{Quiver}
use Rattle.representations.specs.Rep.{Rep}
use Rattle.projectives.specs.Words.{Words}
use Rattle.module_types.specs.declared.TermRows.{TermRows}
use Rattle.module_types.specs.TermCoordinates.{coordinates}
use Rattle.claim_conditions.specs.declared.Clause.TheVariants as clause
use Rattle.claim_conditions.specs.Conditions.{Condition, ◌asks◌}
use Rattle.claim_conditions.specs.ExtensionConditions.{AreCocycles, AreReducedModulo, AreAllCocycles}
use Rattle.claim_conditions.specs.Terms.{term_at}

module _ {q : Gf} {Q : Quiver} (W : Words q Q) (Y : Rep q Q) (terms : List TermRows) (n : ℕ) (rows : PlainMatrix) where
  -- the rows in the coordinates of homomorphisms from term n
  abbrev pub coordinate_rows : Mat q rows.row_count (coordinates Y (term_at terms n))
  coordinate_rows = as_mat q rows.row_count (coordinates Y (term_at terms n)) rows.rows

  abbrev pub row_conditions : List Condition
  row_conditions =
      (clause.Cocycles asks AreCocycles W Y terms n coordinate_rows)
      ∷ (clause.Reduced asks AreReducedModulo W Y terms n coordinate_rows)
      ∷ (clause.All asks AreAllCocycles W Y terms n coordinate_rows)
      ∷ []
