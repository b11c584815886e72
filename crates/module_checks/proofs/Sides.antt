-- What modules and headers give for the quiver of a side.
use Rattle.std.proofs.Common.{ℕ, ◌<◌, ◌≤◌, ◌≡◌, ◌+◌, ◌*◌, List, refl, sym, inl, inr, arith, subst}
use Rattle.std.specs.Prelude.{slice_index, slice_index_or, length}
use Rattle.std.proofs.lemmas.Bool.{cases_lt}
use Rattle.std.proofs.lemmas.List.{get_or_past}
use Rattle.linear_algebra.specs.Field.{Gf}
use Rattle.linear_algebra.proofs.BlockFamilies.{total_grows}
use Rattle.fp_linear.specs.Matrix.{PlainMatrix}
use Rattle.quiver_paths.specs.Quiver.{HasEnds, arrow_count}
use Rattle.path_algebra.specs.declared.Header.{Header}
use Rattle.representations.specs.Quiver.{Quiver}
use Rattle.representations.specs.Rep.{Rep}
use Rattle.representations.specs.HomSpace.{unknowns}
use Rattle.module_types.specs.declared.Side.{Side}
use Rattle.module_types.specs.declared.Side.TheVariants.{Right, Left}
use Rattle.module_types.specs.declared.Module.{Module}
use Rattle.module_types.specs.Algebras.{algebra_at}
use Rattle.module_types.specs.Readings.{rep_of}
use Rattle.module_types.specs.Shapes.{IsModule, dimension, most_dimension}
use Rattle.module_checks.proofs.HomRank.{IsPlainOf, plain_of_shape, begins}

pub arrows_at : (side : Side) (h : Header) → (algebra_at side h).quiver.arrows ≡ arrow_count h.quiver
arrows_at Right h = refl
arrows_at Left h = refl

pub source_inside : (side : Side) (h : Header) → HasEnds h.quiver → (a : ℕ) → a < arrow_count h.quiver → (algebra_at side h).quiver.source a < (algebra_at side h).quiver.vertices
source_inside Right h e a l = e.sources a l
source_inside Left h e a l = e.targets a l

pub target_inside : (side : Side) (h : Header) → HasEnds h.quiver → (a : ℕ) → a < arrow_count h.quiver → (algebra_at side h).quiver.target a < (algebra_at side h).quiver.vertices
target_inside Right h e a l = e.targets a l
target_inside Left h e a l = e.sources a l

pub plain_at : (q : Gf) (Q : Quiver) (m : Module) → IsModule q Q m → (i : ℕ) (a : PlainMatrix) → i < Q.arrows → a ≡ slice_index_or m.matrices i a → IsPlainOf a ((rep_of q Q m).mat i)
plain_at q Q m M i a h e =
    let count = M.matrices.counted in
    subst (λ z. IsPlainOf z ((rep_of q Q m).mat i)) (sym e) (plain_of_shape q _ _ i m.matrices a (omega arith) (M.matrices.each i a h))

pub block_inside : {q : Gf} {Q : Quiver} (X Y : Rep q Q) (v n t c d : ℕ) → v < Q.vertices → n ≡ unknowns X Y → t ≡ begins X Y v → c ≡ X.dim v → d ≡ Y.dim v → t + c * d ≤ n
unfolding begins
block_inside {Q = Q} X Y v n t c d h e f g k = rw (e, f, g, k) (total_grows (λ w. X.dim w * Y.dim w) Q.vertices v h)

-- A dimension at a vertex is at most the dimension.
pub dim_small : (dims : List ℕ) → dimension dims ≤ most_dimension → (v : ℕ) → slice_index dims v ≤ 256
dim_small dims h v = elim (cases_lt v (length dims)) [
  | inl l ↦ let g = total_grows (slice_index dims) (length dims) v l in omega arith
  | inr l ↦ let e = get_or_past dims v 0 l in omega arith
]
