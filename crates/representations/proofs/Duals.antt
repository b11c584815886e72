-- The duality: an involution that turns maps round, goes with paths and relations, and takes modules to modules over the opposite algebra.
use Rattle.std.proofs.Common.{ℕ, zero, suc, ◌≡◌, refl, sym, ap, ap₂, ◌∙◌, arith}
use Rattle.linear_algebra.specs.Field.{Gf}
use Rattle.linear_algebra.specs.Matrix.{◌⊞◌, ◌⊙◌, ◌·◌, transpose}
use Rattle.linear_algebra.specs.Families.{combine}
use Rattle.linear_algebra.proofs.MatrixLaws.{transpose_transpose, transpose_mul, transpose_one, transpose_zeros, transpose_sum, transpose_scale}
use Rattle.representations.specs.Quiver.{Quiver, Path, trivial, then, path_length, path_join, path_after, arrow_path, opposite, reverse, BoundQuiver, opposite_algebra}
use Rattle.representations.specs.Rep.{Rep, along, value_of_relation, IsMod}
use Rattle.representations.specs.Hom.{Hom, Hom-eq, ◌≫◌, identity, zero_hom, ◌⊕◌, multiple}
use Rattle.representations.specs.Dual.{dual, dual_hom}
use Rattle.representations.proofs.Paths.{along_after}
use Rattle.representations.proofs.Radical.{path_length-join}

-- Reversing paths.
pub path_length-reverse : {Q : Quiver} {v w : ℕ} (p : Path Q v w) → path_length (reverse p) ≡ path_length p
path_length-reverse trivial = refl
path_length-reverse {Q} (then a p) = let t = path_length-join {Q = opposite Q} (arrow_path {Q = opposite Q} a) (reverse p) in let u = path_length-reverse p in omega arith

join_trivial : {Q : Quiver} {v w : ℕ} (p : Path Q v w) → path_join trivial p ≡ p
join_trivial trivial = refl
join_trivial (then a p) = ap (λ z. then a z) (join_trivial p)

reverse-after : {Q : Quiver} (a : ℕ) {w : ℕ} (p : Path Q (Q.target a) w) → reverse (path_after a p) ≡ then a (reverse p)
reverse-after a trivial = refl
reverse-after {Q} a (then b p) = ap (λ z. path_after {Q = opposite Q} b z) (reverse-after a p)

pub reverse_reverse : {Q : Quiver} {v w : ℕ} (p : Path Q v w) → reverse (reverse p) ≡ p
reverse_reverse trivial = refl
reverse_reverse {Q} (then a p) = reverse-after {Q = opposite Q} a (reverse p) ∙ ap (λ z. then a z) (reverse_reverse p)

pub opposite_opposite : (Q : Quiver) → opposite (opposite Q) ≡ Q
opposite_opposite Q = refl

pub opposite_opposite_algebra : (A : BoundQuiver) → opposite_algebra (opposite_algebra A) ≡ A
opposite_opposite_algebra A = λ k. record {
  quiver = A.quiver;
  relations = A.relations;
  relation = λ i. record {
    from = (A.relation i).from;
    to = (A.relation i).to;
    terms = (A.relation i).terms;
    coefficient = (A.relation i).coefficient;
    path = λ j. reverse_reverse ((A.relation i).path j) k;
  };
  bound = A.bound;
}

module _ {q : Gf} {Q : Quiver} where
  -- The dual of the dual is the representation itself, on homomorphisms too.
  pub dual_dual : (X : Rep q Q) → dual (dual X) ≡ X
  dual_dual X = λ k. record { dim = X.dim; mat = λ a. transpose_transpose (X.mat a) k; past = X.past }

  pub dual_dual-at : {X Y : Rep q Q} (f : Hom X Y) (v : ℕ) → (dual_hom (dual_hom f)).at v ≡ f.at v
  unfolding dual_hom
  dual_dual-at f v = transpose_transpose (f.at v)

  pub dual-at : {X Y : Rep q Q} (f : Hom X Y) (v : ℕ) → (dual_hom f).at v ≡ transpose (f.at v)
  unfolding dual_hom
  dual-at f v = refl

  -- Maps are turned round.
  pub dual_compose : {X Y Z : Rep q Q} (f : Hom X Y) (g : Hom Y Z) → dual_hom (f ≫ g) ≡ dual_hom g ≫ dual_hom f
  unfolding dual_hom ◌≫◌
  dual_compose f g = Hom-eq _ _ (λ v. transpose_mul (f.at v) (g.at v))

  pub dual_identity : (X : Rep q Q) → dual_hom (identity X) ≡ identity (dual X)
  unfolding dual_hom identity
  dual_identity X = Hom-eq _ _ (λ v. transpose_one q (X.dim v))

  pub dual_zero : (X Y : Rep q Q) → dual_hom (zero_hom X Y) ≡ zero_hom (dual Y) (dual X)
  unfolding dual_hom zero_hom
  dual_zero X Y = Hom-eq _ _ (λ v. transpose_zeros q (X.dim v) (Y.dim v))

  pub dual_sum : {X Y : Rep q Q} (f g : Hom X Y) → dual_hom (f ⊕ g) ≡ dual_hom f ⊕ dual_hom g
  unfolding dual_hom ◌⊕◌
  dual_sum f g = Hom-eq _ _ (λ v. transpose_sum (f.at v) (g.at v))

  pub dual_multiple : {X Y : Rep q Q} (c : ℕ) (f : Hom X Y) → dual_hom (multiple c f) ≡ multiple c (dual_hom f)
  unfolding dual_hom multiple
  dual_multiple c f = Hom-eq _ _ (λ v. transpose_scale c (f.at v))

  -- The matrix of a path in the dual is the transposed one of the reversed path.
  pub along-reverse : (X : Rep q Q) {v w : ℕ} (p : Path Q v w) → along (dual X) (reverse p) ≡ transpose (along X p)
  unfolding along
  along-reverse X {v} trivial = sym (transpose_one q (X.dim v))
  along-reverse X (then a p) = along_after (dual X) a (reverse p) ∙ ap (λ z. transpose (X.mat a) · z) (along-reverse X p) ∙ sym (transpose_mul (along X p) (X.mat a))

  pub combine-reverse : (X : Rep q Q) {v w : ℕ} (s : ℕ) (c : ℕ → ℕ) (p : ℕ → Path Q v w) → combine s c (λ i. along (dual X) (reverse (p i))) ≡ transpose (combine s c (λ i. along X (p i)))
  unfolding combine
  combine-reverse X {v} {w} zero c p = sym (transpose_zeros q (X.dim v) (X.dim w))
  combine-reverse X (suc s) c p =
      ap₂ (λ a b. a ⊞ c s ⊙ b) (combine-reverse X s c p) (along-reverse X (p s))
      ∙ ap (λ z. transpose (combine s c (λ i. along X (p i))) ⊞ z) (sym (transpose_scale (c s) (along X (p s))))
      ∙ sym (transpose_sum (combine s c (λ i. along X (p i))) (c s ⊙ along X (p s)))

-- The dual of a module is a module over the opposite algebra.
pub IsMod-dual : {q : Gf} (A : BoundQuiver) (X : Rep q A.quiver) → IsMod A X → IsMod (opposite_algebra A) (dual X)
unfolding value_of_relation
IsMod-dual {q} A X M = record {
  relations = λ i h.
      combine-reverse X (A.relation i).terms (A.relation i).coefficient (A.relation i).path ∙ ap transpose (M.relations i h)
      ∙ transpose_zeros q (X.dim (A.relation i).from) (X.dim (A.relation i).to);
  long_paths = λ {v} {w} p h.
      ap (along (dual X)) (sym (reverse_reverse p)) ∙ along-reverse X (reverse p)
      ∙ ap transpose (M.long_paths (reverse p) (path_length-reverse p ∙ h)) ∙ transpose_zeros q (X.dim w) (X.dim v);
}
