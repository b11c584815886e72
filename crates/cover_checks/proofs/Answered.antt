-- The first two of the conditions on a resolution, and then the others.
use Rattle.std.proofs.Common.{ℕ, zero, suc, List}
use Rattle.std.specs.Prelude.{Some}
use Rattle.linear_algebra.specs.Field.{Gf}
use Rattle.representations.specs.Quiver.{Quiver}
use Rattle.representations.specs.Rep.{Rep}
use Rattle.projectives.specs.Words.{Words}
use Rattle.module_types.specs.declared.TermRows.{TermRows}
use Rattle.claim_conditions.specs.declared.Clause.{Clause}
use Rattle.claim_conditions.specs.Conditions.{IsAnswer, IsFirstFailing}
use Rattle.claim_conditions.specs.ResolutionConditions.{term_conditions}
use Rattle.resolution_checks.specs.MatrixConditions.{matrix_conditions}

pub fails_in_all : {q : Gf} {Q : Quiver} (W : Words q Q) (X : Rep q Q) (terms : List TermRows) (n : ℕ) (which : Clause) → IsFirstFailing (matrix_conditions W X terms n) which → IsAnswer (term_conditions W X terms n) (Some which)
fails_in_all W X terms n which (zero, f) = (zero, f)
fails_in_all W X terms n which (suc zero, f) = (suc zero, f)
fails_in_all W X terms n which (suc (suc k), f) = absurd f.1.1
