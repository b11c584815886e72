-- Relations of a header that act as zero on a module, as its side takes their paths; terms of the bound's length or more are left out.
-- (Assem, Simson, Skowroński, volume 1, chapter II, 2, and III, 1.)
use Rattle.std.specs.Prelude.{ℕ, ◌≡◌, ◌<◌, nat_lt, if◌then◌else◌}
use Rattle.linear_algebra.specs.Field.{mul}
use Rattle.linear_algebra.specs.Matrix.{Mat}
use Rattle.quiver_paths.specs.declared.Path.{Path}
use Rattle.quiver_paths.specs.Path.{path_length}
use Rattle.path_algebra.specs.declared.Relation.{Relation}
use Rattle.path_algebra.specs.declared.Header.{Header}
use Rattle.path_algebra.specs.Elements.{sum_over}
use Rattle.representations.specs.Rep.{Rep}
use Rattle.bound_algebra.specs.BoundAlgebra.{relation_at}
use Rattle.bound_algebra.specs.PathMatrices.{path_matrix, left_path_matrix}
use Rattle.module_types.specs.declared.Side.{Side}
use Rattle.module_types.specs.declared.Side.TheVariants.{Right, Left}
use Rattle.module_types.specs.declared.Module.{Module}
use Rattle.module_types.specs.Algebras.{algebra_at}
use Rattle.module_types.specs.Readings.{read}

-- the entry at x and y of the relation's matrix, where each path has a matrix with m rows and n columns; the relation is zero so
abbrev pub short_entry : (h : Header) {m n : ℕ} (matrix : Path → Mat h.field m n) → Relation → (x y : ℕ) → ℕ
short_entry h matrix rel x y = sum_over h.field rel.terms (λ t. if nat_lt (path_length t.path) h.bound then mul h.field t.coef ((matrix t.path).at x y) else 0)

pub record IsZeroOver (h : Header) {m n : ℕ} (matrix : Path → Mat h.field m n) (rel : Relation) : Type 0 where
  pub at : (x y : ℕ) → short_entry h matrix rel x y ≡ 0

-- the relation acts as zero on a module of the side, from each vertex to each
abbrev pub RelationIsZero : (side : Side) (h : Header) → Rep h.field (algebra_at side h).quiver → Relation → Type 0
RelationIsZero Right h X rel = (v w : ℕ) → IsZeroOver h (path_matrix h.quiver X v w) rel
RelationIsZero Left h X rel = (v w : ℕ) → IsZeroOver h (left_path_matrix h.quiver X v w) rel

-- so does relation r of the header, on a printed module; so do the first n
abbrev pub IsRelationZero : Header → Module → ℕ → Type 0
IsRelationZero h m r = RelationIsZero m.side h (read h m) (relation_at h.relations r)

pub record AreRelationsZero (h : Header) (m : Module) (n : ℕ) : Type 0 where
  pub each : (r : ℕ) → r < n → IsRelationZero h m r
