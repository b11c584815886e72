-- The value at one generator, from lent memory.
use Rattle.std.proofs.Common.{ℕ, ◌<◌, ◌≤◌, ◌≡◌, ◌+◌, ◌*◌, List, length, get_or, take, drop, sym, ap, ◌∙◌, arith, subst, mod-eq_of_lt}
use Rattle.linear_algebra.specs.Field.{Gf}
use Rattle.linear_algebra.specs.Matrix.{Mat-eq_below, ◌⊞◌, ◌·◌}
use Rattle.linear_algebra.specs.BlockFamilies.{total}
use Rattle.linear_algebra.specs.Rows.{rows_of, times}
use Rattle.linear_algebra.specs.Typed.{as_row}
use Rattle.linear_algebra.proofs.MatrixLaws.{one_scale}
use Rattle.linear_algebra.proofs.Typed.{as_row-times}
use Rattle.fp_linear.specs.Slices.{AreElements, plus_multiple}
use Rattle.fp_linear.proofs.Cells.{IsGrid-rows_of}
use Rattle.representations.specs.Quiver.{Quiver, BoundQuiver}
use Rattle.representations.specs.Rep.{Rep}
use Rattle.representations.specs.HomSpace.{unknowns, unflat}
use Rattle.representations.proofs.Equations.{unflat-at}
use Rattle.projectives.specs.TwoSided.{TwoSided}
use Rattle.module_types.specs.declared.TermRows.{TermRows}
use Rattle.module_types.specs.TermMatrices.{vertex}
use Rattle.module_types.specs.declared.Module.{Module}
use Rattle.module_types.specs.Readings.{dim_at, rep_of}
use Rattle.module_types.specs.Shapes.{IsModule}
use Rattle.module_types.specs.Presentations.{part}
use Rattle.module_types.proofs.Presentations.{part-at}
use Rattle.local_checks.specs.Standing.{standing}
use Rattle.local_checks.proofs.Spaces.{standing-at, as_row_is}
use Rattle.local_checks.proofs.ClosedSpaces.{added_row}
use Rattle.local_checks.proofs.Places.{lent, lent_length, lent_elements, place_below}
use Rattle.local_checks.proofs.Composites.{block_room}
use Rattle.module_checks.specs.Commuting.{block_sizes}
use Rattle.module_checks.proofs.HomRank.{blocks_before, dim_at-is}

-- A row times a block times a column is added to a number.
pub value_added : (q : Gf) (d : ℕ) (x block part image product old new : List ℕ) → AreElements q block → AreElements q part → AreElements q product → AreElements q old → AreElements q new → length product ≡ 1 → length old ≡ 1
    → image ≡ times q d x (rows_of d d block) → product ≡ times q 1 image (rows_of d 1 part) → new ≡ plus_multiple q 1 product old
    → as_row q 1 new ≡ as_row q 1 old ⊞ as_row q d x · standing q d d block · standing q d 1 part
value_added q d x block part image product old new b p o a n lp lo e f g =
    added_row q 1 1 product old new o a n lp lo g
    ∙ ap (λ z. as_row q 1 old ⊞ z) (one_scale (as_row q 1 product) ∙ ap (as_row q 1) f ∙ as_row-times q d 1 image (rows_of d 1 part) (IsGrid-rows_of q d 1 part p)
    ∙ ap (λ z. z · standing q d 1 part) (ap (as_row q d) e ∙ as_row-times q d d x (rows_of d d block) (IsGrid-rows_of q d d block b)))

-- The block of a family at a vertex.
pub block_of : {q : Gf} {Q : Quiver} (X : Rep q Q) (s : List ℕ) (v from : ℕ) → AreElements q s → length s ≡ unknowns X X → from ≡ total v (λ w. X.dim w * X.dim w) → from + X.dim v * X.dim v ≤ length s
    → standing q (X.dim v) (X.dim v) (take (X.dim v * X.dim v) (drop from s)) ≡ unflat X X (as_row q (unknowns X X) s) v
block_of {q} X s v from a e g room = Mat-eq_below _ _ (λ i j l k.
    standing-at q (X.dim v) (X.dim v) (take (X.dim v * X.dim v) (drop from s)) (lent_elements q s from (X.dim v * X.dim v) room a) i j l k
    ∙ lent s from (X.dim v * X.dim v) (i * X.dim v + j) (place_below i (X.dim v) j (X.dim v) l k)
    ∙ sym (unflat-at X X (as_row q (unknowns X X) s) v i j l k ∙ as_row_is q (unknowns X X) s a e (total v (λ w. X.dim w * X.dim w) + i * X.dim v + j)
    ∙ ap (λ (z : ℕ). get_or s z 0) (omega (arith, g))))

-- The part of a functional at a generator.
pub part_of : {q : Gf} {A : BoundQuiver} (T : TwoSided q A) (M : Rep q A.quiver) (t : TermRows) (s : List ℕ) (j from : ℕ) → AreElements q s → from ≡ total j (λ c. M.dim (vertex t c)) → from + M.dim (vertex t j) ≤ length s
    → standing q (M.dim (vertex t j)) 1 (take (M.dim (vertex t j)) (drop from s)) ≡ part T M t s j
part_of {q} T M t s j from a g room = Mat-eq_below _ _ (λ i z l k.
    standing-at q (M.dim (vertex t j)) 1 (take (M.dim (vertex t j)) (drop from s)) (lent_elements q s from (M.dim (vertex t j)) room a) i z l k
    ∙ lent s from (M.dim (vertex t j)) (i * 1 + z) (omega (arith, l, k)) ∙ ap (λ (n : ℕ). get_or s n 0) (omega (arith, g, k))
    ∙ sym (ap (λ (n : ℕ). (part T M t s j).at i n) (let e : ◌≡◌ {A = ℕ} z 0 = omega (arith, k) in e) ∙ part-at T M t s j i l ∙ mod-eq_of_lt (a.small (total j (λ c. M.dim (vertex t c)) + i))))

module _ (q : Gf) (Q : Quiver) (m : Module) (M : IsModule q Q m) (v k from size : ℕ) (s : List ℕ) (at : k ≡ v) (inside : v < length m.dims) (start : from ≡ total k (block_sizes m.dims m.dims)) (square : size ≡ get_or m.dims v 0)
    (elements : AreElements q s) (count : length s ≡ unknowns (rep_of q Q m) (rep_of q Q m)) where
  declared : v < Q.vertices
  declared = let c = M.counted in omega (arith, c, inside)

  begins : from ≡ total v (block_sizes m.dims m.dims)
  begins = start ∙ ap (λ (i : ℕ). total i (block_sizes m.dims m.dims)) at

  pub block_inside : from + size * size ≤ length s
  block_inside = block_room q Q m M v from size (length s) inside begins square count

  same_size : size ≡ dim_at Q m.dims v
  same_size = square ∙ sym (dim_at-is Q m.dims v declared)

  pub block_length : length (take (size * size) (drop from s)) ≡ dim_at Q m.dims v * dim_at Q m.dims v
  block_length = lent_length s from (size * size) block_inside ∙ ap (λ (z : ℕ). z * z) same_size

  pub block_of_module : standing q (dim_at Q m.dims v) (dim_at Q m.dims v) (take (size * size) (drop from s)) ≡ unflat (rep_of q Q m) (rep_of q Q m) (as_row q (unknowns (rep_of q Q m) (rep_of q Q m)) s) v
  block_of_module = subst (λ (z : ℕ). standing q (dim_at Q m.dims v) (dim_at Q m.dims v) (take (z * z) (drop from s)) ≡ unflat (rep_of q Q m) (rep_of q Q m) (as_row q (unknowns (rep_of q Q m) (rep_of q Q m)) s) v) (sym same_size)
      (block_of (rep_of q Q m) s v from elements count (begins ∙ blocks_before Q m.dims m.dims v declared) (subst (λ (z : ℕ). from + z * z ≤ length s) same_size block_inside))
