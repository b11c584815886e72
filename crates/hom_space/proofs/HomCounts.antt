-- How many entries homomorphisms have, counted by the dimensions.
use Rattle.std.proofs.Common.{ℕ, zero, suc, ◌≡◌, ◌<◌, ◌≤◌, ◌+◌, ◌*◌, List, refl, sym, ap, ap₂, ◌∙◌, arith, zero-le, mul-le-mul_left}
use Rattle.std.specs.Prelude.{slice_index, length}
use Rattle.linear_algebra.specs.BlockFamilies.{total}
use Rattle.linear_algebra.proofs.BlockFamilies.{total-same, total_grows}
use Rattle.quiver_paths.specs.Quiver.{vertex_count}
use Rattle.path_algebra.specs.declared.Header.{Header}
use Rattle.representations.specs.Quiver.{Quiver}
use Rattle.module_types.specs.declared.Side.{Side}
use Rattle.module_types.specs.declared.Side.TheVariants.{Right, Left}
use Rattle.module_types.specs.declared.Module.{Module}
use Rattle.module_types.specs.Algebras.{algebra_at}
use Rattle.module_types.specs.Readings.{dim_at}
use Rattle.module_types.specs.Shapes.{dimension, most_dimension}
use Rattle.module_checks.specs.Commuting.{block_sizes}
use Rattle.module_checks.proofs.HomRank.{dim_at-is}
use Rattle.module_checks.proofs.Sides.{dim_small}
use Rattle.module_faults.specs.ModuleFaults.{IsSmallModule}
use Rattle.hom_space.specs.HomForms.{unknown_number}

pub vertices_at : (side : Side) (h : Header) → (algebra_at side h).quiver.vertices ≡ vertex_count h.quiver
vertices_at Right h = refl
vertices_at Left h = refl

blocks_all : (Q : Quiver) (x y : List ℕ) → total Q.vertices (block_sizes x y) ≡ total Q.vertices (λ w. dim_at Q x w * dim_at Q y w)
blocks_all Q x y = total-same Q.vertices _ _ (λ w l. ap₂ (λ a b. a * b) (sym (dim_at-is Q x w l)) (sym (dim_at-is Q y w l)))

pub number_of_unknowns : (h : Header) (a b : Module) → IsSmallModule h a → total (length a.dims) (block_sizes a.dims b.dims) ≡ unknown_number h a b
number_of_unknowns h a b m = ap (λ n. total n (block_sizes a.dims b.dims)) m.shape.counted ∙ blocks_all (algebra_at a.side h).quiver a.dims b.dims

-- As many dimensions as vertices.
pub counted_vertices : (h : Header) (m : Module) → IsSmallModule h m → length m.dims ≡ vertex_count h.quiver
counted_vertices h m s = s.shape.counted ∙ vertices_at m.side h

pub same_places : (h : Header) (a b : Module) → IsSmallModule h a → IsSmallModule h b → length b.dims ≡ length a.dims
same_places h a b s t = counted_vertices h b t ∙ sym (counted_vertices h a s)

-- The products up to a vertex are few.
products_within : (x y : List ℕ) → ((v : ℕ) → slice_index y v ≤ 256) → (v : ℕ) → total v (block_sizes x y) ≤ total v (slice_index x) * 256
products_within x y h zero = zero-le
products_within x y h (suc v) =
    let before = products_within x y h v in
    let here : slice_index x v * slice_index y v ≤ slice_index x v * 256 = mul-le-mul_left (slice_index x v) (h v) in
    omega arith

pub products_small : (x y : List ℕ) → dimension x ≤ most_dimension → dimension y ≤ most_dimension → (v : ℕ) → v < length x → total v (block_sizes x y) + slice_index x v * slice_index y v ≤ 65536
products_small x y a b v l =
    let all = products_within x y (dim_small y b) (suc v) in
    let grows = total_grows (slice_index x) (length x) v l in
    omega arith
