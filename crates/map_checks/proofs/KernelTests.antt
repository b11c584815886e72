-- The conditions on kernels and cokernels, and what is decided.
use Rattle.std.proofs.Common.{ℕ, ◌≤◌, ◌≡◌, List, refl, sym, ◌∙◌, arith}
use Rattle.std.specs.Prelude.{length}
use Rattle.fp_linear.specs.Matrix.{PlainMatrix}
use Rattle.quiver_paths.specs.Quiver.{vertex_count}
use Rattle.path_algebra.specs.declared.Header.{Header}
use Rattle.bound_algebra.specs.TypedPaths.{quiver_of}
use Rattle.module_types.specs.declared.Side.{Side}
use Rattle.module_types.specs.declared.Side.TheVariants.{Right, Left}
use Rattle.module_types.specs.declared.Module.{Module}
use Rattle.module_types.specs.Algebras.{algebra_at}
use Rattle.module_types.specs.Readings.{read_beside, family_of}
use Rattle.module_types.specs.Shapes.{IsModule, IsMap, AreMatrices, dimension}
use Rattle.claim_conditions.specs.Families.{AreReduced, AreCoReduced, ComposeToZero, HasKernelSize, HasCokernelSize}
use Rattle.module_checks.specs.VertexMatrices.{AreAllReduced, AreAllColumnReduced, HaveProducts, AreZeroProducts, HaveRoom, HaveRanks}
use Rattle.module_checks.proofs.Walks.{dim_within}
use Rattle.module_checks.proofs.VertexMatrices.{map_beside, reduced_family, family_reduced, column_reduced_family, family_column_reduced, have_products, compose_to_zero, zero_of_composed, kernel_size, ranks_of_kernel, cokernel_size, ranks_of_cokernel, room_for}

pub vertices_of_side : (side : Side) (h : Header) → (algebra_at side h).quiver.vertices ≡ vertex_count h.quiver
vertices_of_side Right h = refl
vertices_of_side Left h = refl

module _ (h : Header) (a : Module) where
  -- a module has a dimension for each matrix of a map
  pub dims_fit : (m x y : Module) (f : List PlainMatrix) → IsModule h.field (algebra_at m.side h).quiver m → IsMap h.field (quiver_of h.quiver) x y f → length m.dims ≡ length f
  dims_fit m x y f M F = M.counted ∙ vertices_of_side m.side h ∙ sym F.counted

  pub small_dim : (m : Module) → dimension m.dims ≤ 256 → (v : ℕ) → (read_beside h a m).dim v ≤ 256
  small_dim m s v = let d = dim_within (algebra_at a.side h).quiver m.dims v in omega (arith, d, s)

  pub beside : (x y : Module) (f : List PlainMatrix) → IsMap h.field (quiver_of h.quiver) x y f → AreMatrices h.field (algebra_at a.side h).quiver.vertices (read_beside h a x).dim (read_beside h a y).dim f
  beside x y f F = map_beside h a.side x y f F

  module _ (x y : Module) (f : List PlainMatrix) (F : IsMap h.field (quiver_of h.quiver) x y f) where
    pub reduced_yes : AreAllReduced (length f) f → AreReduced (read_beside h a x) (read_beside h a y) (family_of (read_beside h a x) (read_beside h a y) f)
    reduced_yes = reduced_family (read_beside h a x) (read_beside h a y) f (beside x y f F)

    pub reduced_no : AreReduced (read_beside h a x) (read_beside h a y) (family_of (read_beside h a x) (read_beside h a y) f) → AreAllReduced (length f) f
    reduced_no = family_reduced (read_beside h a x) (read_beside h a y) f (beside x y f F)

    pub column_reduced_yes : AreAllColumnReduced (length f) f → AreCoReduced (read_beside h a x) (read_beside h a y) (family_of (read_beside h a x) (read_beside h a y) f)
    column_reduced_yes = column_reduced_family (read_beside h a x) (read_beside h a y) f (beside x y f F)

    pub column_reduced_no : AreCoReduced (read_beside h a x) (read_beside h a y) (family_of (read_beside h a x) (read_beside h a y) f) → AreAllColumnReduced (length f) f
    column_reduced_no = family_column_reduced (read_beside h a x) (read_beside h a y) f (beside x y f F)

    pub room_there : (entries pivots : List ℕ) → dimension x.dims ≤ 256 → dimension y.dims ≤ 256 → 65536 ≤ length entries → 256 ≤ length pivots → HaveRoom f entries pivots
    room_there entries pivots s t e p = room_for (read_beside h a x) (read_beside h a y) f (beside x y f F) entries pivots (small_dim x s) (small_dim y t) e p

    pub kernel_yes : (n : Module) → HaveRanks (length f) n.dims x.dims f → HasKernelSize (read_beside h a n) (read_beside h a x) (read_beside h a y) (family_of (read_beside h a x) (read_beside h a y) f)
    kernel_yes n = kernel_size (algebra_at a.side h).quiver n x y f (beside x y f F)

    pub kernel_no : (n : Module) → HasKernelSize (read_beside h a n) (read_beside h a x) (read_beside h a y) (family_of (read_beside h a x) (read_beside h a y) f) → HaveRanks (length f) n.dims x.dims f
    kernel_no n = ranks_of_kernel (algebra_at a.side h).quiver n x y f (beside x y f F)

    pub cokernel_yes : (n : Module) → HaveRanks (length f) n.dims y.dims f → HasCokernelSize (read_beside h a x) (read_beside h a y) (read_beside h a n) (family_of (read_beside h a x) (read_beside h a y) f)
    cokernel_yes n = cokernel_size (algebra_at a.side h).quiver n x y f (beside x y f F)

    pub cokernel_no : (n : Module) → HasCokernelSize (read_beside h a x) (read_beside h a y) (read_beside h a n) (family_of (read_beside h a x) (read_beside h a y) f) → HaveRanks (length f) n.dims y.dims f
    cokernel_no n = ranks_of_cokernel (algebra_at a.side h).quiver n x y f (beside x y f F)

    module _ (z : Module) (g : List PlainMatrix) (G : IsMap h.field (quiver_of h.quiver) y z g) where
      pub products_there : HaveProducts h.field f g
      products_there = have_products (read_beside h a x) (read_beside h a y) (read_beside h a z) f g (beside x y f F) (beside y z g G)

      pub zero_yes : AreZeroProducts h.field (length f) f g
          → ComposeToZero (read_beside h a x) (read_beside h a y) (read_beside h a z) (family_of (read_beside h a x) (read_beside h a y) f) (family_of (read_beside h a y) (read_beside h a z) g)
      zero_yes = compose_to_zero (read_beside h a x) (read_beside h a y) (read_beside h a z) f g (beside x y f F) (beside y z g G)

      pub zero_no : ComposeToZero (read_beside h a x) (read_beside h a y) (read_beside h a z) (family_of (read_beside h a x) (read_beside h a y) f) (family_of (read_beside h a y) (read_beside h a z) g)
          → AreZeroProducts h.field (length f) f g
      zero_no = zero_of_composed (read_beside h a x) (read_beside h a y) (read_beside h a z) f g (beside x y f F) (beside y z g G)
