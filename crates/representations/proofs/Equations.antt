-- The equations of homomorphisms, place by place, and arrow by arrow.
use Rattle.std.proofs.Common.{ℕ, ◌<◌, ◌≡◌, ◌+◌, ◌*◌, sym, ap, ap₂, ◌∙◌, arith}
use Rattle.std.proofs.lemmas.Nat.{mul-add-lt}
use Rattle.linear_algebra.specs.Field.{Gf, add, mul, neg}
use Rattle.linear_algebra.specs.FieldLaws.{mul_comm, neg_mul}
use Rattle.linear_algebra.specs.Sums.{sum_to, sum-same, neg-sum}
use Rattle.linear_algebra.specs.Matrix.{Row, zeros, ◌·◌, ◌⊞◌, ◌⊟◌, negative}
use Rattle.linear_algebra.specs.BlockFamilies.{total, column_block}
use Rattle.linear_algebra.specs.Solutions.{unflatten_all}
use Rattle.linear_algebra.proofs.LinearMaps.{unflatten-at}
use Rattle.linear_algebra.proofs.BlockFamilies.{column_block-at}
use Rattle.linear_algebra.proofs.Solutions.{flatten_all-same}
use Rattle.representations.specs.Quiver.{Quiver}
use Rattle.representations.specs.Rep.{Rep}
use Rattle.representations.specs.HomSpace.{unknowns, unflat, defect, defects, equations}
use Rattle.representations.proofs.MatrixExtras.{flatten_all-zeros}

-- Where no arrow has a defect, all equations hold.
pub no_defects_all : {q : Gf} {Q : Quiver} (X Y : Rep q Q) (x : Row q (unknowns X Y)) → ((a : ℕ) → a < Q.arrows → defect X Y x a ≡ zeros q (X.dim (Q.source a)) (Y.dim (Q.target a))) → defects X Y x ≡ zeros q 1 (equations X Y)
unfolding defects
no_defects_all {q} {Q} X Y x h =
    flatten_all-same Q.arrows (λ a. X.dim (Q.source a)) (λ a. Y.dim (Q.target a)) _ (λ a. zeros q (X.dim (Q.source a)) (Y.dim (Q.target a))) h
    ∙ flatten_all-zeros q Q.arrows (λ a. X.dim (Q.source a)) (λ a. Y.dim (Q.target a))

module _ {q : Gf} {Q : Quiver} (X Y : Rep q Q) (x : Row q (unknowns X Y)) where
  -- Matrix v of a row begins where those before it end.
  pub unflat-at : (v i j : ℕ) → i < X.dim v → j < Y.dim v → (unflat X Y x v).at i j ≡ x.at 0 (total v (λ w. X.dim w * Y.dim w) + i * Y.dim v + j)
  unfolding unflat unflatten_all
  unflat-at v i j h k =
      unflatten-at (X.dim v) (Y.dim v) (column_block Q.vertices (λ w. X.dim w * Y.dim w) v x) i j k
      ∙ column_block-at (λ w. X.dim w * Y.dim w) Q.vertices v x 0 (i * Y.dim v + j) (let l = mul-add-lt i (Y.dim v) j (X.dim v) h k in omega arith)
      ∙ ap (x.at 0) (omega arith)

  -- An entry of a defect is one linear form in the entries of the row.
  pub defect_by_places : (a i j : ℕ) → i < X.dim (Q.source a) → j < Y.dim (Q.target a) → (defect X Y x a).at i j ≡ add q
      (sum_to q (X.dim (Q.target a)) (λ k. mul q ((X.mat a).at i k) (x.at 0 (total (Q.target a) (λ w. X.dim w * Y.dim w) + j + k * Y.dim (Q.target a)))))
      (sum_to q (Y.dim (Q.source a)) (λ l. mul q (neg q ((Y.mat a).at l j)) (x.at 0 (total (Q.source a) (λ w. X.dim w * Y.dim w) + i * Y.dim (Q.source a) + l))))
  unfolding defect ◌⊟◌ ◌⊞◌ negative ◌·◌
  defect_by_places a i j h k = ap₂ (add q)
      (sum-same q (X.dim (Q.target a)) _ _ (λ t l. ap (mul q ((X.mat a).at i t)) (unflat-at (Q.target a) t j l k ∙ ap (x.at 0) (omega arith))))
      (neg-sum q (Y.dim (Q.source a)) _ ∙ sum-same q (Y.dim (Q.source a)) _ _ (λ t l.
      ap (neg q) (mul_comm q _ ((Y.mat a).at t j)) ∙ sym (neg_mul q ((Y.mat a).at t j) _) ∙ ap (mul q (neg q ((Y.mat a).at t j))) (unflat-at (Q.source a) i t h l)))
