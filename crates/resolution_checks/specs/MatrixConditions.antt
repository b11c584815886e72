-- The conditions on a resolution that its matrices alone decide: the first two of those on resolutions.
use Rattle.std.specs.Prelude.{ℕ, List, [], ◌∷◌}
use Rattle.linear_algebra.specs.Field.{Gf}
use Rattle.representations.specs.Quiver.{Quiver}
use Rattle.representations.specs.Rep.{Rep}
use Rattle.projectives.specs.Words.{Words}
use Rattle.module_types.specs.declared.TermRows.{TermRows}
use Rattle.claim_conditions.specs.declared.Clause.TheVariants as clause
use Rattle.claim_conditions.specs.Conditions.{Condition, ◌asks◌}
use Rattle.claim_conditions.specs.ResolutionConditions.{IsComplex, IsOntoByRanks, IsExactByRanks}

abbrev pub matrix_conditions : {q : Gf} {Q : Quiver} (W : Words q Q) (X : Rep q Q) (terms : List TermRows) (n : ℕ) → List Condition
matrix_conditions W X terms n =
    (clause.Complex asks IsComplex W X terms n)
    ∷ (clause.Exact asks (IsOntoByRanks W X terms × IsExactByRanks W X terms n))
    ∷ []
