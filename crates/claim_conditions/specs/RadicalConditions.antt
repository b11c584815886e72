-- The conditions on a radical.
use Rattle.std.specs.Prelude.{ℕ, List, [], ◌∷◌}
use Rattle.linear_algebra.specs.Field.{Gf}
use Rattle.linear_algebra.specs.Rank.{IsInSpan}
use Rattle.fp_linear.specs.Matrix.{PlainMatrix}
use Rattle.path_algebra.specs.declared.Header.{Header}
use Rattle.representations.specs.Quiver.{Quiver}
use Rattle.representations.specs.Rep.{Rep}
use Rattle.representations.specs.RadicalModule.{arrow_rows}
use Rattle.module_types.specs.declared.Module.{Module}
use Rattle.module_types.specs.Readings.{read, read_beside, family_of}
use Rattle.claim_conditions.specs.declared.Clause.TheVariants as clause
use Rattle.claim_conditions.specs.Conditions.{Condition, ◌asks◌}
use Rattle.claim_conditions.specs.Families.{Family, AreReduced}

-- At each vertex the rows span the sum of the images of the arrows that end there.
pub record SpanArrows {q : Gf} {Q : Quiver} (N X : Rep q Q) (i : Family N X) : Type 0 where
  pub inside : (w : ℕ) → IsInSpan (arrow_rows X w) (i w)
  pub all : (w : ℕ) → IsInSpan (i w) (arrow_rows X w)

-- `objects`: the numbers say that i goes from n to a; `reduced`; `all`: at each vertex the rows span what comes along arrows
abbrev pub radical_conditions : (named : Type 0) → Header → (n a : Module) (i : List PlainMatrix) → List Condition
radical_conditions named h n a i =
    let N = read_beside h a n in
    let X = read h a in
    (clause.Objects asks named)
    ∷ (clause.Reduced asks AreReduced N X (family_of N X i))
    ∷ (clause.All asks SpanArrows N X (family_of N X i))
    ∷ []
