-- Blocks that are products, vertex by vertex, are the product of the families.
use Rattle.std.proofs.Common.{ℕ, ◌<◌, ◌≤◌, ◌≡◌, ◌+◌, ◌*◌, List, ◌++◌, get_or, take, drop, length, refl, sym, ap, ap₂, ◌∙◌, inl, inr, arith, subst, add-one, mul-le-mul_right}
use Rattle.std.proofs.lemmas.Bool.{cases_lt}
use Rattle.std.proofs.lemmas.Nat.{mul-add-lt, div-mul-add, mod-mul-add}
use Rattle.std.proofs.lemmas.List.{get_or_default}
use Rattle.linear_algebra.specs.Field.{Gf, mul}
use Rattle.linear_algebra.specs.Sums.{sum_to, sum-same}
use Rattle.linear_algebra.specs.Matrix.{Mat-eq_below, ◌·◌}
use Rattle.linear_algebra.specs.BlockFamilies.{total}
use Rattle.linear_algebra.specs.Rows.{rows_of, times, entry}
use Rattle.linear_algebra.specs.Typed.{as_row}
use Rattle.linear_algebra.proofs.BlockFamilies.{total_grows}
use Rattle.linear_algebra.proofs.Rows.{get_or-times, entry-rows_of, length-rows_of, length-times}
use Rattle.linear_algebra.proofs.Solutions.{flatten_all-same}
use Rattle.fp_linear.specs.Slices.{AreElements, IsWritten}
use Rattle.representations.specs.Quiver.{Quiver}
use Rattle.representations.specs.Rep.{Rep}
use Rattle.representations.specs.HomSpace.{unknowns, unflat}
use Rattle.representations.proofs.HomSpace.{flat_of}
use Rattle.representations.proofs.Equations.{unflat-at}
use Rattle.local_modules.specs.FamilyAlgebra.{row_composite}
use Rattle.module_types.specs.declared.Module.{Module}
use Rattle.module_types.specs.Readings.{rep_of}
use Rattle.module_types.specs.Shapes.{IsModule}
use Rattle.module_checks.specs.Commuting.{block_sizes}
use Rattle.module_checks.proofs.HomRank.{blocks_before, dim_at-is}
use Rattle.local_checks.specs.Composites.{block_entry, block_product, AreBlockProducts}
use Rattle.local_checks.proofs.Places.{lent, lent_length, part_elements, IsWritten-part, next_row}
use Rattle.local_checks.proofs.Spaces.{as_row_is}

-- One row of a block.
pub block_row : (q : Gf) (d from i n m : ℕ) (left right x block w : List ℕ) → n ≡ d → m ≡ d → ((t : ℕ) → t < d → get_or x t 0 ≡ get_or left (from + i * d + t) 0)
    → ((t : ℕ) → t < d * d → get_or block t 0 ≡ get_or right (from + t) 0) → w ≡ times q n x (rows_of m n block) → (j : ℕ) → j < d → get_or w j 0 ≡ block_product q d from left right (i * d + j)
unfolding block_entry
block_row q d from i n m left right x block w e f r s p j l =
    ap (λ (y : List ℕ). get_or y j 0) (p ∙ ap₂ (λ a b. times q a x (rows_of b a block)) e f) ∙ get_or-times q d x (rows_of d d block) j l
    ∙ ap (λ k. sum_to q k (λ t. mul q (get_or x t 0) (entry (rows_of d d block) t j))) (length-rows_of d d block)
    ∙ sum-same q d _ _ (λ t h. ap₂ (mul q) (r t h ∙ ap (λ k. get_or left k 0) (place t)) (entry-rows_of d d block t j h l ∙ s (t * d + j) (mul-add-lt t d j d h l)))
    ∙ sym (ap₂ (block_entry q d from left right) (div-mul-add i d j l) (mod-mul-add i d j l))
  where
    place : (t : ℕ) → from + i * d + t ≡ from + (i * d + t)
    place t = omega arith

-- One row of a block more is written.
pub block_step : (q : Gf) (d from i k m : ℕ) (left right old mid w : List ℕ) → i < d → k ≡ d → m ≡ d * d → AreElements q mid → AreElements q w → from + d * d ≤ length left → from + d * d ≤ length mid
    → w ≡ times q (length (take k (drop (from + i * d) mid))) (take k (drop (from + i * d) left)) (rows_of (length (take k (drop (from + i * d) left))) (length (take k (drop (from + i * d) mid))) (take m (drop from right)))
    → IsWritten old mid from (i * d) (block_product q d from left right)
    → IsWritten old (take (from + i * d) mid ++ (w ++ drop k (drop (from + i * d) mid))) from ((i + 1) * d) (block_product q d from left right) × AreElements q (take (from + i * d) mid ++ (w ++ drop k (drop (from + i * d) mid)))
block_step q d from i k m left right old mid w h e f a b lr mr p s =
    let end : i * d + d ≤ d * d = (let o : i + 1 ≤ d = omega (arith, h) in let r = mul-le-mul_right d o in omega (arith, r)) in
    let x = take k (drop (from + i * d) left) in
    let lc : length x ≡ d = lent_length left (from + i * d) k (omega (arith, end, e, lr)) ∙ e in
    let mc : length (take k (drop (from + i * d) mid)) ≡ d = lent_length mid (from + i * d) k (omega (arith, end, e, mr)) ∙ e in
    let size : length w ≡ d = ap length p ∙ length-times q (length (take k (drop (from + i * d) mid))) x (rows_of (length x) (length (take k (drop (from + i * d) mid))) (take m (drop from right))) ∙ mc in (
      IsWritten-part old mid w from (i * d) (from + i * d) k d ((i + 1) * d) (block_product q d from left right) s refl size e (omega (arith, end, mr)) (next_row i d)
          (block_row q d from i (length (take k (drop (from + i * d) mid))) (length x) left right x (take m (drop from right)) w mc lc
          (λ t l. lent left (from + i * d) k t (omega (arith, l, e))) (λ t l. lent right from m t (omega (arith, l, f))) p),
      part_elements mid w (from + i * d) k d size e (omega (arith, end, mr)) q a b,
    )

module _ {q : Gf} {Q : Quiver} (X : Rep q Q) where
  unfoldable pub places : ℕ → ℕ
  places v = total v (λ w. X.dim w * X.dim w)

  module _ (l r o : List ℕ) (la : AreElements q l) (ra : AreElements q r) (oa : AreElements q o) (lc : length l ≡ unknowns X X) (rc : length r ≡ unknowns X X) (oc : length o ≡ unknowns X X) where
    block-at : (v : ℕ) → ((e : ℕ) → e < X.dim v * X.dim v → get_or o (places v + e) 0 ≡ block_product q (X.dim v) (places v) l r e)
        → unflat X X (as_row q (unknowns X X) o) v ≡ unflat X X (as_row q (unknowns X X) l) v · unflat X X (as_row q (unknowns X X) r) v
    unfolding ◌·◌ block_entry places
    block-at v h = Mat-eq_below _ _ (λ i j m n.
        unflat-at X X (as_row q (unknowns X X) o) v i j m n ∙ as_row_is q (unknowns X X) o oa oc _
        ∙ ap (λ k. get_or o k 0) (omega arith) ∙ h (i * X.dim v + j) (mul-add-lt i (X.dim v) j (X.dim v) m n)
        ∙ ap₂ (block_entry q (X.dim v) (total v (λ w. X.dim w * X.dim w)) l r) (div-mul-add i (X.dim v) j n) (mod-mul-add i (X.dim v) j n)
        ∙ sum-same q (X.dim v) _ _ (λ k u. sym (ap₂ (mul q)
        (unflat-at X X (as_row q (unknowns X X) l) v i k m u ∙ as_row_is q (unknowns X X) l la lc _ ∙ ap (λ p. get_or l p 0) (omega arith))
        (unflat-at X X (as_row q (unknowns X X) r) v k j u n ∙ as_row_is q (unknowns X X) r ra rc _ ∙ ap (λ p. get_or r p 0) (omega arith)))))

    pub composite_of_blocks : ((v : ℕ) → v < Q.vertices → (e : ℕ) → e < X.dim v * X.dim v → get_or o (places v + e) 0 ≡ block_product q (X.dim v) (places v) l r e)
        → as_row q (unknowns X X) o ≡ row_composite X (as_row q (unknowns X X) l) (as_row q (unknowns X X) r)
    unfolding row_composite
    composite_of_blocks h = sym (flat_of X X (as_row q (unknowns X X) o)) ∙ flatten_all-same Q.vertices X.dim X.dim _ _ (λ v k. block-at v (h v k))

-- One vertex more.
pub block_products_none : (q : Gf) (dims l r o : List ℕ) → AreBlockProducts q dims 0 l r o
block_products_none q dims l r o = record { each = λ v e h k. absurd (omega arith) }

pub block_products_more : (q : Gf) (dims : List ℕ) (k from size : ℕ) (l r old new : List ℕ) → AreBlockProducts q dims k l r old → from ≡ total k (block_sizes dims dims) → size ≡ get_or dims k 0
    → IsWritten old new from (size * size) (block_product q size from l r) → AreBlockProducts q dims (k + 1) l r new
block_products_more q dims k from size l r old new b f s w = record {
  each = λ v e h u. elim (cases_lt v k) [
    | inl before ↦ let g = total_grows (block_sizes dims dims) k v before in w.before (total v (block_sizes dims dims) + e) (omega arith) ∙ b.each v e before u
    | inr past ↦
        let same : v ≡ k = omega arith in
        subst (λ v. get_or new (total v (block_sizes dims dims) + e) 0 ≡ block_product q (get_or dims v 0) (total v (block_sizes dims dims)) l r e) (sym same)
        (rw (← f, ← s) (w.within e (rw s (subst (λ v. e < get_or dims v 0 * get_or dims v 0) same u))))
  ];
}

module _ (q : Gf) (Q : Quiver) (m : Module) (M : IsModule q Q m) where
  -- The block of a vertex is inside.
  pub block_room : (v from size n : ℕ) → v < length m.dims → from ≡ total v (block_sizes m.dims m.dims) → size ≡ get_or m.dims v 0 → n ≡ unknowns (rep_of q Q m) (rep_of q Q m) → from + size * size ≤ n
  block_room v from size n h f s e =
      let u : v < Q.vertices = (let c = M.counted in omega (arith, c, h)) in
      let d = dim_at-is Q m.dims v u in
      rw (e, f, blocks_before Q m.dims m.dims v u, s, ← d) (total_grows (λ w. (rep_of q Q m).dim w * (rep_of q Q m).dim w) Q.vertices v u)

  pub composite_of_module : (k : ℕ) (l r o : List ℕ) → k ≡ length m.dims → AreElements q l → AreElements q r → AreElements q o → length l ≡ unknowns (rep_of q Q m) (rep_of q Q m)
      → length r ≡ unknowns (rep_of q Q m) (rep_of q Q m) → length o ≡ unknowns (rep_of q Q m) (rep_of q Q m) → AreBlockProducts q m.dims k l r o
      → as_row q (unknowns (rep_of q Q m) (rep_of q Q m)) o ≡ row_composite (rep_of q Q m) (as_row q (unknowns (rep_of q Q m) (rep_of q Q m)) l) (as_row q (unknowns (rep_of q Q m) (rep_of q Q m)) r)
  unfolding places
  composite_of_module k l r o e la ra oa lc rc oc p = composite_of_blocks (rep_of q Q m) l r o la ra oa lc rc oc (λ v h i u.
      let d = dim_at-is Q m.dims v h in
      let t = blocks_before Q m.dims m.dims v h in
      ap (λ z. get_or o (z + i) 0) (sym t) ∙ p.each v i (let c = M.counted in omega (arith, c, e, h)) (subst (λ z. i < z * z) d u) ∙ ap₂ (λ y z. block_product q y z l r i) (sym d) t)

pub total_more : (k : ℕ) (dims : List ℕ) → total (k + 1) (block_sizes dims dims) ≡ total k (block_sizes dims dims) + get_or dims k 0 * get_or dims k 0
total_more k dims = rw add-one refl

pub other_default : (xs : List ℕ) (i a : ℕ) → i < length xs → a ≡ get_or xs i a → a ≡ get_or xs i 0
other_default xs i a h e = e ∙ get_or_default xs i a 0 h
