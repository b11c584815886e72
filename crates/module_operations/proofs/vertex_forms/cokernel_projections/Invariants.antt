use Rattle.linear_algebra.specs.Field.{Gf}
use Rattle.representations.specs.Quiver.{Quiver}
use Rattle.representations.specs.Rep.{Rep}
use Rattle.module_types.specs.Readings.{family_of}
use Rattle.module_types.specs.Shapes.{AreMatrices}
use Rattle.module_operations.specs.VertexSpaces.{HaveProjections}
use Rattle.module_operations.proofs.vertex_forms.cokernel_projections.Given as goal

abbrev pub invariant-loop-v : goal.invariant-loop-v
invariant-loop-v l = (q : Gf) (Q : Quiver) (X Y : Rep q Q) → AreMatrices q Q.vertices X.dim Y.dim l.f → HaveProjections Y X.dim (family_of X Y l.f) l.v l.projections.items
