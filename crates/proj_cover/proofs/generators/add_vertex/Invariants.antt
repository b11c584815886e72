use Rattle.std.proofs.Common.{◌≡◌, List}
use Rattle.linear_algebra.specs.Field.{Gf}
use Rattle.representations.specs.Quiver.{Quiver}
use Rattle.representations.specs.Rep.{Rep}
use Rattle.representations.specs.RadicalModule.{arrow_rows}
use Rattle.projectives.specs.Canonical.{Place, with_free}
use Rattle.module_operations.specs.VertexSpaces.{IsFormOf}
use Rattle.proj_cover.specs.CanonicalTerms.{term_of}
use Rattle.proj_cover.proofs.generators.add_vertex.Given as goal

abbrev pub invariant-loop-c : goal.invariant-loop-c
invariant-loop-c l = (q : Gf) (Q : Quiver) (X : Rep q Q) (before : List Place) → IsFormOf (arrow_rows X l.w) l.basis → l.initial.term ≡ term_of X before → l.term ≡ term_of X (with_free X l.w l.c before)
