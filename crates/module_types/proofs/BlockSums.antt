-- The block sum is read as the direct sum, it has the shape of a module, and it is a module where its summands are.
use Rattle.std.proofs.Common.{ℕ, zero, suc, ◌≡◌, ◌<◌, ◌≤◌, ◌+◌, List, [], ◌∷◌, ◌++◌, length, get_or, slice_index, Contains, refl, sym, ap, ap₂, ◌∙◌, subst, arith, length-append}
use Rattle.std.proofs.Math.Seq.{get_or-append_seam}
use Rattle.std.proofs.Math.ListN.{get_or-append}
use Rattle.std.proofs.lemmas.List.Elements.{Contains-get_or}
use Rattle.linear_algebra.specs.Field.{Gf}
use Rattle.linear_algebra.specs.Matrix.{join}
use Rattle.linear_algebra.specs.BlockFamilies.{total}
use Rattle.linear_algebra.proofs.Rows.{get_or-list_of}
use Rattle.linear_algebra.proofs.DirectSum.{diagonal-upper, diagonal-lower}
use Rattle.path_algebra.specs.declared.Header.{Header}
use Rattle.representations.specs.Quiver.{Quiver, BoundQuiver}
use Rattle.representations.specs.Rep.{Rep, IsMod}
use Rattle.representations.specs.Sum.{zero_rep, sum_rep, sum_family}
use Rattle.representations.proofs.Sums.{IsMod-sum, IsMod-family}
use Rattle.projectives.proofs.Places.{sum_family-dim}
use Rattle.module_types.specs.declared.Side.{Side}
use Rattle.module_types.specs.declared.Module.{Module}
use Rattle.module_types.specs.Algebras.{algebra_at}
use Rattle.module_types.specs.Readings.{dim_at, rep_of, IsModuleOver}
use Rattle.module_types.specs.Shapes.{IsModule, dimension}
use Rattle.module_types.specs.Written.{written, block_sum, block_sum_of, part_at}
use Rattle.module_types.proofs.Written.{total-same, dim_at-below, rep_of-written, written-shape}

-- the dimension of a module as a sum over the vertices of its quiver
pub dimension-read : (q : Gf) (Q : Quiver) (m : Module) → IsModule q Q m → total Q.vertices (dim_at Q m.dims) ≡ dimension m.dims
dimension-read q Q m s = total-same Q.vertices (dim_at Q m.dims) (slice_index m.dims) (dim_at-below Q m.dims) ∙ ap (λ n. total n (slice_index m.dims)) (sym s.counted)

total-sum : (k : ℕ) (f g : ℕ → ℕ) → total k (λ i. f i + g i) ≡ total k f + total k g
total-sum zero f g = refl
total-sum (suc k) f g = let e = total-sum k f g in omega (arith, e)

total-swap : (k n : ℕ) (f : ℕ → ℕ → ℕ) → total k (λ i. total n (λ j. f i j)) ≡ total n (λ j. total k (λ i. f i j))
total-swap zero n f = sym (total-none n)
  where
    total-none : (n : ℕ) → total n (λ j. zero) ≡ zero
    total-none zero = refl
    total-none (suc n) = ap (λ m. m + zero) (total-none n)
total-swap (suc k) n f = ap (λ m. m + total n (f k)) (total-swap k n f) ∙ sym (total-sum n (λ j. total k (λ i. f i j)) (f k))

pub sum_family-same : {q : Gf} {Q : Quiver} (k : ℕ) (X Y : ℕ → Rep q Q) → ((i : ℕ) → i < k → X i ≡ Y i) → sum_family k X ≡ sum_family k Y
unfolding sum_family
sum_family-same zero X Y e = refl
sum_family-same (suc k) X Y e = ap₂ (λ U V. sum_rep U V) (sum_family-same k X Y (λ i l. e i (omega arith))) (e k (omega arith))

one_more : (parts : List Module) (m : Module) → length (parts ++ m ∷ []) ≡ suc (length parts)
one_more parts m = let e = length-append parts (m ∷ []) in omega (arith, e)

module _ (q : Gf) (Q : Quiver) where
  pub rep_of-block_sum : (a b : Module) → rep_of q Q (block_sum q Q a b) ≡ sum_rep (rep_of q Q a) (rep_of q Q b)
  unfolding block_sum
  rep_of-block_sum a b = rep_of-written a.side (sum_rep (rep_of q Q a) (rep_of q Q b))

  pub block_sum-side : (a b : Module) → (block_sum q Q a b).side ≡ a.side
  unfolding block_sum
  block_sum-side a b = refl

  pub block_sum-shape : (a b : Module) → IsModule q Q a → IsModule q Q b → dimension a.dims + dimension b.dims ≤ 256 → IsModule q Q (block_sum q Q a b)
  unfolding block_sum
  block_sum-shape a b s t h = written-shape a.side (sum_rep (rep_of q Q a) (rep_of q Q b)) (
      let e = total-sum Q.vertices (dim_at Q a.dims) (dim_at Q b.dims) in
      let f = dimension-read q Q a s in
      let g = dimension-read q Q b t in
      omega (arith, e, f, g, h))

  pub block_sum-dims : (a b : Module) (v : ℕ) → v < Q.vertices → slice_index (block_sum q Q a b).dims v ≡ slice_index a.dims v + slice_index b.dims v
  unfolding block_sum
  block_sum-dims a b v l =
      get_or-list_of Q.vertices (λ v. dim_at Q a.dims v + dim_at Q b.dims v) v 0 l
      ∙ ap₂ (λ m n. m + n) (dim_at-below Q a.dims v l) (dim_at-below Q b.dims v l)

  -- the entries: in the rows of a those of a, and then zeros; in the rows of b zeros, and then those of b
  pub block_sum-upper : (a b : Module) (r i j : ℕ) → i < dim_at Q a.dims (Q.source r)
      → ((rep_of q Q (block_sum q Q a b)).mat r).at i j ≡ join (dim_at Q a.dims (Q.target r)) (((rep_of q Q a).mat r).at i) (λ t. 0) j
  block_sum-upper a b r i j l = ap (λ (X : Rep q Q). (X.mat r).at i j) (rep_of-block_sum a b) ∙ diagonal-upper ((rep_of q Q a).mat r) ((rep_of q Q b).mat r) i j l

  pub block_sum-lower : (a b : Module) (r i j : ℕ) → ((rep_of q Q (block_sum q Q a b)).mat r).at (dim_at Q a.dims (Q.source r) + i) j
      ≡ join (dim_at Q a.dims (Q.target r)) (λ t. 0) (((rep_of q Q b).mat r).at i) j
  block_sum-lower a b r i j =
      ap (λ (X : Rep q Q). (X.mat r).at (dim_at Q a.dims (Q.source r) + i) j) (rep_of-block_sum a b)
      ∙ diagonal-lower ((rep_of q Q a).mat r) ((rep_of q Q b).mat r) (dim_at Q a.dims (Q.source r) + i) j (omega arith)
      ∙ ap (λ n. join (dim_at Q a.dims (Q.target r)) (λ t. 0) (((rep_of q Q b).mat r).at n) j) (omega arith)

  pub rep_of-block_sum_of : (side : Side) (parts : List Module) → rep_of q Q (block_sum_of q Q side parts) ≡ sum_family (length parts) (part_at q Q side parts)
  unfolding block_sum_of
  rep_of-block_sum_of side parts = rep_of-written side (sum_family (length parts) (part_at q Q side parts))

  pub block_sum_of-side : (side : Side) (parts : List Module) → (block_sum_of q Q side parts).side ≡ side
  unfolding block_sum_of
  block_sum_of-side side parts = refl

  -- no parts, and one part more
  pub block_sum_of-none : (side : Side) → block_sum_of q Q side [] ≡ written side (zero_rep q Q)
  unfolding block_sum_of sum_family
  block_sum_of-none side = refl

  pub block_sum_of-push : (side : Side) (parts : List Module) (m : Module) → block_sum_of q Q side (parts ++ m ∷ []) ≡ block_sum q Q (block_sum_of q Q side parts) m
  unfolding block_sum_of block_sum sum_family
  block_sum_of-push side parts m =
      ap (λ n. written side (sum_family n (part_at q Q side (parts ++ m ∷ [])))) (one_more parts m)
      ∙ ap₂ (λ U V. written side (sum_rep U V))
      (sum_family-same (length parts) _ _ (λ i l. ap (rep_of q Q) (get_or-append parts (m ∷ []) (written side (zero_rep q Q)) i l)) ∙ sym (rep_of-written side (sum_family (length parts) (part_at q Q side parts))))
      (ap (rep_of q Q) (get_or-append_seam parts m [] (written side (zero_rep q Q))))

  pub block_sum_of-shape : (side : Side) (parts : List Module) → total (length parts) (λ i. total Q.vertices (part_at q Q side parts i).dim) ≤ 256
      → IsModule q Q (block_sum_of q Q side parts)
  unfolding block_sum_of
  block_sum_of-shape side parts h = written-shape side (sum_family (length parts) (part_at q Q side parts)) (
      let e = total-same Q.vertices _ _ (λ v l. sum_family-dim (length parts) (part_at q Q side parts) v) in
      let f = total-swap (length parts) Q.vertices (λ i v. (part_at q Q side parts i).dim v) in
      omega (arith, e, f, h))

module _ {q : Gf} (A : BoundQuiver) where
  pub block_sum-module : (a b : Module) → IsMod A (rep_of q A.quiver a) → IsMod A (rep_of q A.quiver b) → IsMod A (rep_of q A.quiver (block_sum q A.quiver a b))
  block_sum-module a b m n = subst (IsMod A) (sym (rep_of-block_sum q A.quiver a b)) (IsMod-sum A (rep_of q A.quiver a) (rep_of q A.quiver b) m n)

  pub block_sum_of-module : (side : Side) (parts : List Module) → ((i : ℕ) → i < length parts → IsMod A (part_at q A.quiver side parts i)) → IsMod A (rep_of q A.quiver (block_sum_of q A.quiver side parts))
  block_sum_of-module side parts m = subst (IsMod A) (sym (rep_of-block_sum_of q A.quiver side parts)) (IsMod-family A (length parts) (part_at q A.quiver side parts) m)

-- Over a header: the block sum of two modules of one side is a module of that side.
pub block_sum_over : (h : Header) (a b : Module) → a.side ≡ b.side → IsModuleOver h a → IsModuleOver h b → IsModuleOver h (block_sum h.field (algebra_at a.side h).quiver a b)
unfolding block_sum
block_sum_over h a b e m n =
    block_sum-module (algebra_at a.side h) a b m (subst (λ s. IsMod (algebra_at s h) (rep_of h.field (algebra_at s h).quiver b)) (sym e) n)

-- The block sum of a list whose members are modules of the given side is one of that side.
pub block_sum_of_over : (h : Header) (side : Side) (parts : List Module) → ((m : Module) → Contains parts m → (m.side ≡ side) × IsModuleOver h m)
    → IsModuleOver h (block_sum_of h.field (algebra_at side h).quiver side parts)
unfolding block_sum_of
block_sum_of_over h side parts e = block_sum_of-module (algebra_at side h) side parts (λ i l.
    let none = written side (zero_rep h.field (algebra_at side h).quiver) in
    let s = e (get_or parts i none) (Contains-get_or parts i none l) in
    subst (λ t. IsMod (algebra_at t h) (rep_of h.field (algebra_at t h).quiver (get_or parts i none))) s.0 s.1)
