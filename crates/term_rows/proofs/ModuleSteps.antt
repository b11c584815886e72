-- A row of a module goes along an arrow by the printed matrix.
use Rattle.std.proofs.Common.{ℕ, ◌≡◌, ◌<◌, ◌≤◌, List, get_or, refl, sym, ap, ◌∙◌, arith, subst, inl, inr}
use Rattle.std.proofs.lemmas.Bool.{cases_lt}
use Rattle.linear_algebra.specs.Field.{Gf, mul}
use Rattle.linear_algebra.specs.Sums.{sum-ext}
use Rattle.quiver_paths.specs.Quiver.{arrow_count, vertex_count}
use Rattle.path_algebra.specs.declared.Header.{Header}
use Rattle.bound_algebra.specs.TypedPaths.{quiver_of}
use Rattle.fp_linear.specs.Matrix.{PlainMatrix}
use Rattle.representations.specs.Quiver.{Quiver}
use Rattle.representations.specs.Rep.{Rep}
use Rattle.module_types.specs.declared.Side.{Side}
use Rattle.module_types.specs.declared.Side.TheVariants.{Right, Left}
use Rattle.module_types.specs.Algebras.{algebra_at}
use Rattle.module_types.specs.Readings.{dim_at, dim_past}
use Rattle.module_types.specs.Walks.{step}
use Rattle.module_checks.specs.RowWalks.{row_entry, IsRowTimes}
use Rattle.module_checks.proofs.HomRank.{IsPlainOf}
use Rattle.term_rows.specs.SumDims.{IsRoomFor}
use Rattle.term_rows.specs.RowSteps.{IsStep}

pub step_of_times : {q : Gf} {Q : Quiver} (X : Rep q Q) (a : ℕ) (m : PlainMatrix) (s new : List ℕ) → IsPlainOf m (X.mat a) → IsRowTimes q m s new → IsStep X a s new
unfolding step
step_of_times {q} {Q} X a m s new p h = record {
  at = λ j. h.at j ∙ ap (λ n. row_entry q n s m j) p.row_count ∙ sum-ext q (X.dim (Q.source a)) _ _ (λ t. ap (mul q (get_or s t 0)) (p.entries t j));
}

-- the quiver of a side has the same vertices
pub dim_of_side : (side : Side) (h : Header) (dims : List ℕ) (v : ℕ) → dim_at (algebra_at side h).quiver dims v ≡ dim_at (quiver_of h.quiver) dims v
unfolding dim_at
dim_of_side Right h dims v = refl
dim_of_side Left h dims v = refl

pub room_of_side : (side : Side) (h : Header) (dims : List ℕ) (room : ℕ) → IsRoomFor h (dim_at (quiver_of h.quiver) dims) room → (v : ℕ) → dim_at (algebra_at side h).quiver dims v ≤ room
room_of_side side h dims room r v = elim (cases_lt v (vertex_count h.quiver)) [
  | inl l ↦ let e = dim_of_side side h dims v in let f = r.fits v l in omega (arith, e, f)
  | inr b ↦ let e = dim_of_side side h dims v in let p = dim_past (quiver_of h.quiver) dims v b in omega (arith, e, p)
]
