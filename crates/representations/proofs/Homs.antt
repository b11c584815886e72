-- The laws of composition, sums and multiples of homomorphisms.
use Rattle.std.proofs.Common.{ℕ, zero, suc, ◌+◌, ◌<◌, ◌≡◌, refl, sym, ap, ap₂, ◌∙◌, arith}
use Rattle.linear_algebra.specs.Field.{Gf, add, mul}
use Rattle.linear_algebra.specs.Matrix.{zeros, one, ◌⊞◌, ◌⊙◌, negative, ◌·◌}
use Rattle.linear_algebra.specs.Powers.{mat_power}
use Rattle.linear_algebra.specs.BlockFamilies.{sum_all}
use Rattle.linear_algebra.proofs.MatrixLaws.{add_comm_mat, add_assoc_mat, add_zeros, zeros_add, add_negative, scale_add, add_scale, scale_scale, one_scale, zero_scale, mul_zeros, zeros_mul, mul_one_mat, one_mul_mat, mul_add_mat, add_mul_mat, mul_scale, scale_mul, mul_negative, negative_mul, mul_assoc_mat}
use Rattle.linear_algebra.proofs.Inverses.{mat_power-add}
use Rattle.representations.specs.Quiver.{Quiver}
use Rattle.representations.specs.Rep.{Rep}
use Rattle.representations.specs.Hom.{Hom, Hom-eq, ◌≫◌, identity, zero_hom, ◌⊕◌, negative_hom, multiple, power, sum_of}

module _ {q : Gf} {Q : Quiver} where
  pub compose-at : {X Y Z : Rep q Q} (f : Hom X Y) (g : Hom Y Z) (v : ℕ) → (f ≫ g).at v ≡ f.at v · g.at v
  unfolding ◌≫◌
  compose-at f g v = refl

  pub identity-at : (X : Rep q Q) (v : ℕ) → (identity X).at v ≡ one q (X.dim v)
  unfolding identity
  identity-at X v = refl

  pub zero_hom-at : (X Y : Rep q Q) (v : ℕ) → (zero_hom X Y).at v ≡ zeros q (X.dim v) (Y.dim v)
  unfolding zero_hom
  zero_hom-at X Y v = refl

  pub sum-at : {X Y : Rep q Q} (f g : Hom X Y) (v : ℕ) → (f ⊕ g).at v ≡ f.at v ⊞ g.at v
  unfolding ◌⊕◌
  sum-at f g v = refl

  pub negative-at : {X Y : Rep q Q} (f : Hom X Y) (v : ℕ) → (negative_hom f).at v ≡ negative (f.at v)
  unfolding negative_hom
  negative-at f v = refl

  pub multiple-at : {X Y : Rep q Q} (c : ℕ) (f : Hom X Y) (v : ℕ) → (multiple c f).at v ≡ c ⊙ f.at v
  unfolding multiple
  multiple-at c f v = refl

  -- Equal homomorphisms have equal matrices.
  pub same-at : {X Y : Rep q Q} {f g : Hom X Y} → f ≡ g → (v : ℕ) → f.at v ≡ g.at v
  same-at e v = ap (λ (h : Hom _ _). h.at v) e

  -- Composition is associative, with the identities as units.
  pub compose_assoc : {W X Y Z : Rep q Q} (f : Hom W X) (g : Hom X Y) (h : Hom Y Z) → (f ≫ g) ≫ h ≡ f ≫ (g ≫ h)
  unfolding ◌≫◌
  compose_assoc f g h = Hom-eq _ _ (λ v. mul_assoc_mat (f.at v) (g.at v) (h.at v))

  pub compose_identity : {X Y : Rep q Q} (f : Hom X Y) → f ≫ identity Y ≡ f
  unfolding ◌≫◌ identity
  compose_identity f = Hom-eq _ _ (λ v. mul_one_mat (f.at v))

  pub identity_compose : {X Y : Rep q Q} (f : Hom X Y) → identity X ≫ f ≡ f
  unfolding ◌≫◌ identity
  identity_compose f = Hom-eq _ _ (λ v. one_mul_mat (f.at v))

  pub compose_zero : {X Y : Rep q Q} (f : Hom X Y) (Z : Rep q Q) → f ≫ zero_hom Y Z ≡ zero_hom X Z
  unfolding ◌≫◌ zero_hom
  compose_zero f Z = Hom-eq _ _ (λ v. mul_zeros (f.at v))

  pub zero_compose : {Y Z : Rep q Q} (X : Rep q Q) (f : Hom Y Z) → zero_hom X Y ≫ f ≡ zero_hom X Z
  unfolding ◌≫◌ zero_hom
  zero_compose X f = Hom-eq _ _ (λ v. zeros_mul (f.at v))

  -- Homomorphisms form a vector space.
  pub sum_comm : {X Y : Rep q Q} (f g : Hom X Y) → f ⊕ g ≡ g ⊕ f
  unfolding ◌⊕◌
  sum_comm f g = Hom-eq _ _ (λ v. add_comm_mat (f.at v) (g.at v))

  pub sum_assoc : {X Y : Rep q Q} (f g h : Hom X Y) → (f ⊕ g) ⊕ h ≡ f ⊕ (g ⊕ h)
  unfolding ◌⊕◌
  sum_assoc f g h = Hom-eq _ _ (λ v. add_assoc_mat (f.at v) (g.at v) (h.at v))

  pub sum_zero : {X Y : Rep q Q} (f : Hom X Y) → f ⊕ zero_hom X Y ≡ f
  unfolding ◌⊕◌ zero_hom
  sum_zero f = Hom-eq _ _ (λ v. add_zeros (f.at v))

  pub zero_sum : {X Y : Rep q Q} (f : Hom X Y) → zero_hom X Y ⊕ f ≡ f
  unfolding ◌⊕◌ zero_hom
  zero_sum f = Hom-eq _ _ (λ v. zeros_add (f.at v))

  pub sum_negative : {X Y : Rep q Q} (f : Hom X Y) → f ⊕ negative_hom f ≡ zero_hom X Y
  unfolding ◌⊕◌ negative_hom zero_hom
  sum_negative f = Hom-eq _ _ (λ v. add_negative (f.at v))

  pub negative_add_hom : {X Y : Rep q Q} (f : Hom X Y) → negative_hom f ⊕ f ≡ zero_hom X Y
  negative_add_hom f = sum_comm (negative_hom f) f ∙ sum_negative f

  pub multiple_sum : {X Y : Rep q Q} (c : ℕ) (f g : Hom X Y) → multiple c (f ⊕ g) ≡ multiple c f ⊕ multiple c g
  unfolding ◌⊕◌ multiple
  multiple_sum c f g = Hom-eq _ _ (λ v. scale_add c (f.at v) (g.at v))

  pub sum_multiple : {X Y : Rep q Q} (c d : ℕ) (f : Hom X Y) → multiple (add q c d) f ≡ multiple c f ⊕ multiple d f
  unfolding ◌⊕◌ multiple
  sum_multiple c d f = Hom-eq _ _ (λ v. add_scale c d (f.at v))

  pub multiple_multiple : {X Y : Rep q Q} (c d : ℕ) (f : Hom X Y) → multiple c (multiple d f) ≡ multiple (mul q c d) f
  unfolding multiple
  multiple_multiple c d f = Hom-eq _ _ (λ v. scale_scale c d (f.at v))

  pub one_multiple : {X Y : Rep q Q} (f : Hom X Y) → multiple 1 f ≡ f
  unfolding multiple
  one_multiple f = Hom-eq _ _ (λ v. one_scale (f.at v))

  pub zero_multiple : {X Y : Rep q Q} (f : Hom X Y) → multiple 0 f ≡ zero_hom X Y
  unfolding multiple zero_hom
  zero_multiple f = Hom-eq _ _ (λ v. zero_scale (f.at v))

  -- Composition is bilinear.
  pub compose_sum : {X Y Z : Rep q Q} (f : Hom X Y) (g h : Hom Y Z) → f ≫ (g ⊕ h) ≡ f ≫ g ⊕ f ≫ h
  unfolding ◌≫◌ ◌⊕◌
  compose_sum f g h = Hom-eq _ _ (λ v. mul_add_mat (f.at v) (g.at v) (h.at v))

  pub sum_compose : {X Y Z : Rep q Q} (f g : Hom X Y) (h : Hom Y Z) → (f ⊕ g) ≫ h ≡ f ≫ h ⊕ g ≫ h
  unfolding ◌≫◌ ◌⊕◌
  sum_compose f g h = Hom-eq _ _ (λ v. add_mul_mat (f.at v) (g.at v) (h.at v))

  pub compose_negative : {X Y Z : Rep q Q} (f : Hom X Y) (g : Hom Y Z) → f ≫ negative_hom g ≡ negative_hom (f ≫ g)
  unfolding ◌≫◌ negative_hom
  compose_negative f g = Hom-eq _ _ (λ v. mul_negative (f.at v) (g.at v))

  pub negative_compose : {X Y Z : Rep q Q} (f : Hom X Y) (g : Hom Y Z) → negative_hom f ≫ g ≡ negative_hom (f ≫ g)
  unfolding ◌≫◌ negative_hom
  negative_compose f g = Hom-eq _ _ (λ v. negative_mul (f.at v) (g.at v))

  pub compose_multiple : {X Y Z : Rep q Q} (c : ℕ) (f : Hom X Y) (g : Hom Y Z) → f ≫ multiple c g ≡ multiple c (f ≫ g)
  unfolding ◌≫◌ multiple
  compose_multiple c f g = Hom-eq _ _ (λ v. mul_scale c (f.at v) (g.at v))

  pub multiple_compose : {X Y Z : Rep q Q} (c : ℕ) (f : Hom X Y) (g : Hom Y Z) → multiple c f ≫ g ≡ multiple c (f ≫ g)
  unfolding ◌≫◌ multiple
  multiple_compose c f g = Hom-eq _ _ (λ v. scale_mul c (f.at v) (g.at v))

  -- A product of two factors that is known, at the head of a longer product.
  pub pull_hom : {W X Y Z : Rep q Q} (f : Hom W X) (g : Hom X Y) {h : Hom W Y} → f ≫ g ≡ h → (k : Hom Y Z) → f ≫ (g ≫ k) ≡ h ≫ k
  pull_hom f g e k = sym (compose_assoc f g k) ∙ ap (λ z. z ≫ k) e

  -- Sums of families.
  pub sum_of-at : {X Y : Rep q Q} (k : ℕ) (f : ℕ → Hom X Y) (v : ℕ) → (sum_of k f).at v ≡ sum_all k (λ i. (f i).at v)
  unfolding sum_of sum_all ◌⊕◌ zero_hom
  sum_of-at zero f v = refl
  sum_of-at (suc k) f v = ap (λ z. z ⊞ (f k).at v) (sum_of-at k f v)

  pub sum_of-same : {X Y : Rep q Q} (k : ℕ) (f g : ℕ → Hom X Y) → ((i : ℕ) → i < k → f i ≡ g i) → sum_of k f ≡ sum_of k g
  unfolding sum_of
  sum_of-same zero f g h = refl
  sum_of-same (suc k) f g h = ap₂ (λ x y. x ⊕ y) (sum_of-same k f g (λ i l. h i (omega arith))) (h k (omega arith))

  pub compose_sum_of : {X Y Z : Rep q Q} (k : ℕ) (f : Hom X Y) (g : ℕ → Hom Y Z) → f ≫ sum_of k g ≡ sum_of k (λ i. f ≫ g i)
  unfolding sum_of
  compose_sum_of {Z = Z} zero f g = compose_zero f Z
  compose_sum_of (suc k) f g = compose_sum f (sum_of k g) (g k) ∙ ap (λ z. z ⊕ f ≫ g k) (compose_sum_of k f g)

  pub sum_of_compose : {X Y Z : Rep q Q} (k : ℕ) (f : ℕ → Hom X Y) (g : Hom Y Z) → sum_of k f ≫ g ≡ sum_of k (λ i. f i ≫ g)
  unfolding sum_of
  sum_of_compose {X = X} zero f g = zero_compose X g
  sum_of_compose (suc k) f g = sum_compose (sum_of k f) (f k) g ∙ ap (λ z. z ⊕ f k ≫ g) (sum_of_compose k f g)

  -- Powers, at each vertex those of a matrix.
  pub power-at : {X : Rep q Q} (f : Hom X X) (k v : ℕ) → (power f k).at v ≡ mat_power (f.at v) k
  unfolding power mat_power ◌≫◌ identity
  power-at f zero v = refl
  power-at f (suc k) v = ap (λ z. f.at v · z) (power-at f k v)

  pub power-zero : {X : Rep q Q} (f : Hom X X) → power f 0 ≡ identity X
  unfolding power
  power-zero f = refl

  pub power-suc : {X : Rep q Q} (f : Hom X X) (k : ℕ) → power f (suc k) ≡ f ≫ power f k
  unfolding power
  power-suc f k = refl

  pub power-add : {X : Rep q Q} (f : Hom X X) (j k : ℕ) → power f (j + k) ≡ power f j ≫ power f k
  power-add f j k = Hom-eq _ _ (λ v.
      power-at f (j + k) v ∙ mat_power-add (f.at v) j k ∙ sym (ap₂ (λ a b. a · b) (power-at f j v) (power-at f k v)) ∙ sym (compose-at (power f j) (power f k) v))
