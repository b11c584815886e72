-- Where the coordinates of a vertex stand among those of all.
use Rattle.std.proofs.Common.{ℕ, ◌<◌, ◌≤◌, ◌≡◌, ◌+◌, ◌*◌, List, sym, ap, ◌∙◌, arith, subst, mul-le-mul_right}
use Rattle.std.specs.Prelude.{slice_index, length}
use Rattle.linear_algebra.specs.BlockFamilies.{total}
use Rattle.linear_algebra.proofs.BlockFamilies.{total_grows, total-same}
use Rattle.fp_linear.proofs.Meeting.{row_step}
use Rattle.representations.specs.Quiver.{Quiver}
use Rattle.module_types.specs.Readings.{dim_at}
use Rattle.module_types.specs.Shapes.{dimension}
use Rattle.module_checks.proofs.HomRank.{dim_at-is}

pub place_is : (Q : Quiver) (dims : List ℕ) (v u t : ℕ) → u ≡ v → v < Q.vertices → t ≡ total u (slice_index dims) → t ≡ total v (dim_at Q dims)
place_is Q dims v u t e h f = f ∙ ap (λ u. total u (slice_index dims)) e ∙ total-same v _ _ (λ w l. sym (dim_at-is Q dims w (omega arith)))

pub size_is : (Q : Quiver) (dims : List ℕ) (n : ℕ) → length dims ≡ Q.vertices → n ≡ dimension dims → n ≡ total Q.vertices (dim_at Q dims)
size_is Q dims n c e = e ∙ ap (λ k. total k (slice_index dims)) c ∙ total-same Q.vertices _ _ (λ w l. sym (dim_at-is Q dims w l))

pub place_inside : (Q : Quiver) (dims : List ℕ) (n v u t d : ℕ) → length dims ≡ Q.vertices → n ≡ dimension dims → u ≡ v → v < Q.vertices → t ≡ total u (slice_index dims) → d ≡ dim_at Q dims v → t + d ≤ n
place_inside Q dims n v u t d c e f h g k =
    let at : t ≡ total v (dim_at Q dims) = place_is Q dims v u t f h g in
    let all : n ≡ total Q.vertices (dim_at Q dims) = size_is Q dims n c e in
    let grows : total v (dim_at Q dims) + dim_at Q dims v ≤ total Q.vertices (dim_at Q dims) = total_grows (dim_at Q dims) Q.vertices v h in
    omega (arith, at, all, grows, k)

-- A part of a row stands inside the rows.
pub within_rows : (n m r b d : ℕ) → r < m → b + d ≤ n → r * n + b + d ≤ m * n
within_rows n m r b d l h = let s = row_step n r m l in omega (arith, s, h)

pub fewer_rows : (n m k : ℕ) → n ≤ m → k ≡ m * n → n * n ≤ k
fewer_rows n m k h e = subst (λ k. n * n ≤ k) (sym e) (mul-le-mul_right n h)
