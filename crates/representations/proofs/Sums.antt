-- Direct sums: their universal properties, the decomposition that they are, and that sums of modules are modules.
use Rattle.std.proofs.Common.{ℕ, zero, suc, ◌<◌, ◌≡◌, sym, ap, ap₂, ◌∙◌, arith}
use Rattle.linear_algebra.specs.Field.{Gf}
use Rattle.linear_algebra.specs.Matrix.{◌⊞◌, ◌⊙◌, ◌·◌}
use Rattle.linear_algebra.specs.Families.{combine}
use Rattle.linear_algebra.specs.DirectSum.{diagonal}
use Rattle.linear_algebra.proofs.Products.{products, blocks}
use Rattle.linear_algebra.proofs.Blocks.{one_blocks, no_rows}
use Rattle.linear_algebra.proofs.DirectSum.{diagonal_sum, diagonal_scale, diagonal_product, diagonal_one, diagonal_zeros}
use Rattle.representations.specs.Quiver.{Quiver, Path, trivial, then, BoundQuiver}
use Rattle.representations.specs.Rep.{Rep, along, value_of_relation, IsMod}
use Rattle.representations.specs.Hom.{Hom, Hom-eq, ◌≫◌, identity, zero_hom, ◌⊕◌}
use Rattle.representations.specs.Sum.{zero_rep, sum_rep, sum_family, into_first, into_second, onto_first, onto_second, from_sum, into_sum}
use Rattle.representations.proofs.Homs.{compose_assoc, compose_identity, identity_compose, compose_sum, sum_compose}

module _ {q : Gf} {Q : Quiver} (X Y : Rep q Q) where
  -- The parts.
  pub first_first : into_first X Y ≫ onto_first X Y ≡ identity X
  unfolding ◌≫◌ identity into_first onto_first
  first_first = Hom-eq _ _ (λ v. simp (blocks, products))

  pub second_second : into_second X Y ≫ onto_second X Y ≡ identity Y
  unfolding ◌≫◌ identity into_second onto_second
  second_second = Hom-eq _ _ (λ v. simp (blocks, products))

  pub first_second : into_first X Y ≫ onto_second X Y ≡ zero_hom X Y
  unfolding ◌≫◌ zero_hom into_first onto_second
  first_second = Hom-eq _ _ (λ v. simp (blocks, products))

  pub second_first : into_second X Y ≫ onto_first X Y ≡ zero_hom Y X
  unfolding ◌≫◌ zero_hom into_second onto_first
  second_first = Hom-eq _ _ (λ v. simp (blocks, products))

  pub whole_sum : onto_first X Y ≫ into_first X Y ⊕ onto_second X Y ≫ into_second X Y ≡ identity (sum_rep X Y)
  unfolding ◌≫◌ ◌⊕◌ identity into_first into_second onto_first onto_second
  whole_sum = Hom-eq _ _ (λ v. simp (blocks, products, one_blocks))

module _ {q : Gf} {Q : Quiver} {X Y Z : Rep q Q} where
  -- The universal properties.
  pub first_from_sum : (f : Hom X Z) (g : Hom Y Z) → into_first X Y ≫ from_sum f g ≡ f
  unfolding ◌≫◌ into_first from_sum
  first_from_sum f g = Hom-eq _ _ (λ v. simp (blocks, products))

  pub second_from_sum : (f : Hom X Z) (g : Hom Y Z) → into_second X Y ≫ from_sum f g ≡ g
  unfolding ◌≫◌ into_second from_sum
  second_from_sum f g = Hom-eq _ _ (λ v. simp (blocks, products))

  pub into_sum_first : (f : Hom Z X) (g : Hom Z Y) → into_sum f g ≫ onto_first X Y ≡ f
  unfolding ◌≫◌ onto_first into_sum
  into_sum_first f g = Hom-eq _ _ (λ v. simp (blocks, products))

  pub into_sum_second : (f : Hom Z X) (g : Hom Z Y) → into_sum f g ≫ onto_second X Y ≡ g
  unfolding ◌≫◌ onto_second into_sum
  into_sum_second f g = Hom-eq _ _ (λ v. simp (blocks, products))

  pub from_sum_by_parts : (f : Hom X Z) (g : Hom Y Z) → from_sum f g ≡ onto_first X Y ≫ f ⊕ onto_second X Y ≫ g
  unfolding ◌≫◌ ◌⊕◌ onto_first onto_second from_sum
  from_sum_by_parts f g = Hom-eq _ _ (λ v. simp (blocks, products))

  pub into_sum_by_parts : (f : Hom Z X) (g : Hom Z Y) → into_sum f g ≡ f ≫ into_first X Y ⊕ g ≫ into_second X Y
  unfolding ◌≫◌ ◌⊕◌ into_first into_second into_sum
  into_sum_by_parts f g = Hom-eq _ _ (λ v. simp (blocks, products))

-- A homomorphism out of a sum, or into one, is determined by its parts.
module _ {q : Gf} {Q : Quiver} (X Y : Rep q Q) {Z : Rep q Q} where
  pub from_sum_unique : (h : Hom (sum_rep X Y) Z) → from_sum (into_first X Y ≫ h) (into_second X Y ≫ h) ≡ h
  from_sum_unique h =
      from_sum_by_parts (into_first X Y ≫ h) (into_second X Y ≫ h)
      ∙ ap₂ (λ a b. a ⊕ b) (sym (compose_assoc (onto_first X Y) (into_first X Y) h)) (sym (compose_assoc (onto_second X Y) (into_second X Y) h))
      ∙ sym (sum_compose (onto_first X Y ≫ into_first X Y) (onto_second X Y ≫ into_second X Y) h)
      ∙ ap (λ z. z ≫ h) (whole_sum X Y) ∙ identity_compose h

  pub into_sum_unique : (h : Hom Z (sum_rep X Y)) → into_sum (h ≫ onto_first X Y) (h ≫ onto_second X Y) ≡ h
  into_sum_unique h =
      into_sum_by_parts (h ≫ onto_first X Y) (h ≫ onto_second X Y)
      ∙ ap₂ (λ a b. a ⊕ b) (compose_assoc h (onto_first X Y) (into_first X Y)) (compose_assoc h (onto_second X Y) (into_second X Y))
      ∙ sym (compose_sum h (onto_first X Y ≫ into_first X Y) (onto_second X Y ≫ into_second X Y))
      ∙ ap (λ z. h ≫ z) (whole_sum X Y) ∙ compose_identity h

-- Paths and relations act on a sum by blocks; so sums of modules are modules.
module _ {q : Gf} {Q : Quiver} (X Y : Rep q Q) where
  pub along-sum : {v w : ℕ} (p : Path Q v w) → along (sum_rep X Y) p ≡ diagonal (along X p) (along Y p)
  unfolding along
  along-sum {v} trivial = sym (diagonal_one q (X.dim v) (Y.dim v))
  along-sum (then a p) = ap (λ z. z · diagonal (X.mat a) (Y.mat a)) (along-sum p) ∙ diagonal_product (along X p) (along Y p) (X.mat a) (Y.mat a)

  pub combine-sum_rep : {v w : ℕ} (s : ℕ) (c : ℕ → ℕ) (p : ℕ → Path Q v w) → combine s c (λ i. along (sum_rep X Y) (p i)) ≡ diagonal (combine s c (λ i. along X (p i))) (combine s c (λ i. along Y (p i)))
  unfolding combine
  combine-sum_rep {v} {w} zero c p = sym (diagonal_zeros q (X.dim v) (X.dim w) (Y.dim v) (Y.dim w))
  combine-sum_rep (suc s) c p =
      ap₂ (λ a b. a ⊞ c s ⊙ b) (combine-sum_rep s c p) (along-sum (p s))
      ∙ ap (λ z. diagonal (combine s c (λ i. along X (p i))) (combine s c (λ i. along Y (p i))) ⊞ z) (diagonal_scale (c s) (along X (p s)) (along Y (p s)))
      ∙ diagonal_sum (combine s c (λ i. along X (p i))) (c s ⊙ along X (p s)) (combine s c (λ i. along Y (p i))) (c s ⊙ along Y (p s))

module _ {q : Gf} (A : BoundQuiver) where
  pub IsMod-sum : (X Y : Rep q A.quiver) → IsMod A X → IsMod A Y → IsMod A (sum_rep X Y)
  unfolding value_of_relation
  IsMod-sum X Y M N = record {
    relations = λ i h.
        combine-sum_rep X Y (A.relation i).terms (A.relation i).coefficient (A.relation i).path
        ∙ ap₂ diagonal (M.relations i h) (N.relations i h) ∙ diagonal_zeros q _ _ _ _;
    long_paths = λ p h. along-sum X Y p ∙ ap₂ diagonal (M.long_paths p h) (N.long_paths p h) ∙ diagonal_zeros q _ _ _ _;
  }

  pub IsMod-zero : IsMod A (zero_rep q A.quiver)
  IsMod-zero = record { relations = λ i h. no_rows _ _; long_paths = λ p h. no_rows _ _ }

  pub IsMod-family : (k : ℕ) (X : ℕ → Rep q A.quiver) → ((i : ℕ) → i < k → IsMod A (X i)) → IsMod A (sum_family k X)
  unfolding sum_family
  IsMod-family zero X h = IsMod-zero
  IsMod-family (suc k) X h = IsMod-sum (sum_family k X) (X k) (IsMod-family k X (λ i l. h i (omega arith))) (h k (omega arith))
