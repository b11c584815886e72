use Rattle.linear_algebra.specs.Field.{Gf}
use Rattle.representations.specs.Quiver.{Quiver}
use Rattle.representations.specs.Rep.{Rep}
use Rattle.module_types.specs.Shapes.{AreMatrices}
use Rattle.module_operations.specs.VertexSpaces.{HaveForms, kernel_size, kernel_family}
use Rattle.module_operations.proofs.vertex_forms.kernel_bases.Given as goal

abbrev pub invariant-loop-v : goal.invariant-loop-v
invariant-loop-v l = (q : Gf) (Q : Quiver) (X Y : Rep q Q) → AreMatrices q Q.vertices X.dim Y.dim l.f → HaveForms X (kernel_size X Y l.f) (kernel_family X Y l.f) l.v l.bases.items
