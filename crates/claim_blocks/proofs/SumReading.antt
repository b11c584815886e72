-- Dimensions and their sums.
use Rattle.std.proofs.Common.{◌≡◌, ℕ, zero, suc, ◌+◌, ◌<◌, ◌≤◌, List, length, inl, inr, sym, ap, ◌∙◌, arith, ltb, lt-ltb}
use Rattle.std.specs.Prelude.{slice_index}
use Rattle.std.proofs.lemmas.Bool.{cases_lt, cond-true}
use Rattle.std.proofs.lemmas.List.{get_or_past}
use Rattle.linear_algebra.specs.BlockFamilies.{total}
use Rattle.linear_algebra.proofs.BlockFamilies.{total_grows}
use Rattle.representations.specs.Quiver.{Quiver}
use Rattle.module_types.specs.Readings.{dim_at, dim_past}
use Rattle.module_types.specs.Shapes.{dimension}
use Rattle.claim_blocks.specs.Sums.{IsSum}

pub dim_inside : (Q : Quiver) (dims : List ℕ) (v : ℕ) → v < Q.vertices → slice_index dims v ≡ dim_at Q dims v
unfolding dim_at
dim_inside Q dims v l = sym (cond-true (ltb v Q.vertices) (slice_index dims v) zero (lt-ltb v Q.vertices l))

pub dim_short : (Q : Quiver) (dims : List ℕ) (v : ℕ) → length dims ≤ v → zero ≡ dim_at Q dims v
dim_short Q dims v l = elim (cases_lt v Q.vertices) [
  | inl inside ↦ sym (get_or_past dims v 0 l) ∙ dim_inside Q dims v inside
  | inr past ↦ sym (dim_past Q dims v (omega (arith, past)))
]

-- a part of a sum that is already too large
pub sum_large : (most : ℕ) (f : ℕ → ℕ) (n v sum more : ℕ) → v < n → sum ≡ total v f → more ≡ f v → most < sum + more → most < total n f
sum_large most f n v sum more l e g large = let grows = total_grows f n v l in omega (arith, grows, e, g, large)

pub sum_next : (most : ℕ) (f : ℕ → ℕ) (v sum more next : ℕ) → sum ≡ total v f → more ≡ f v → IsSum most (sum + more) next → next ≡ total (v + 1) f
sum_next most f v sum more next e g is = is.same ∙ ((λ i. e i + g i) ∙ ap (λ k. total k f) (let s : suc v ≡ v + 1 = omega arith in s))

-- a dimension is at most the whole
pub dim_small : (Q : Quiver) (dims : List ℕ) (most v : ℕ) → dimension dims ≤ most → dim_at Q dims v ≤ most
dim_small Q dims most v small = elim (cases_lt v Q.vertices) [
  | inl inside ↦
      let e = dim_inside Q dims v inside in
      elim (cases_lt v (length dims)) [
        | inl there ↦ let grows = total_grows (slice_index dims) (length dims) v there in omega (arith, e, grows, small)
        | inr past ↦ let none = get_or_past dims v 0 past in omega (arith, e, none)
      ]
  | inr past ↦ let none = dim_past Q dims v (omega (arith, past)) in omega (arith, none)
]
