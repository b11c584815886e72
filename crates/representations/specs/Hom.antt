-- Homomorphisms of representations. (Assem, Simson, Skowroński, volume 1, chapter III, 1.)
use Rattle.std.specs.Prelude.{ℕ, zero, suc, ◌≡◌}
use Rattle.std.proofs.Common.{sym, ap, ap₂, ◌∙◌}
use mathlib.Core.HLevel.{is_prop→PathP}
use native.Mathlib.Bridge.{le_prop}
use native.Mathlib.Nat.{ℕ_set}
use Rattle.linear_algebra.specs.Field.{Gf}
use Rattle.linear_algebra.specs.Matrix.{Mat, zeros, one, ◌⊞◌, ◌⊙◌, negative, ◌·◌}
use Rattle.linear_algebra.proofs.MatrixLaws.{mul_zeros, zeros_mul, mul_one_mat, one_mul_mat, mul_add_mat, add_mul_mat, mul_scale, scale_mul, mul_negative, negative_mul}
use Rattle.linear_algebra.proofs.Products.{products, pull}
use Rattle.representations.specs.Quiver.{Quiver}
use Rattle.representations.specs.Rep.{Rep}

infixl 70 ◌≫◌
infixl 65 ◌⊕◌
-- A homomorphism: a matrix at each vertex, so that for each arrow it is the same to go along the arrow and then over, or over and then along.
pub record Hom {q : Gf} {Q : Quiver} (X Y : Rep q Q) : Type 0 where
  pub at : (v : ℕ) → Mat q (X.dim v) (Y.dim v)
  pub square : (a : ℕ) → X.mat a · at (Q.target a) ≡ at (Q.source a) · Y.mat a

pub Mat-set : (q : Gf) (m n : ℕ) → IsSet (Mat q m n)
Mat-set q m n = hlevel (le_prop, ℕ_set)

-- Homomorphisms with the same matrices are equal.
pub Hom-eq : {q : Gf} {Q : Quiver} {X Y : Rep q Q} (f g : Hom X Y) → ((v : ℕ) → f.at v ≡ g.at v) → f ≡ g
Hom-eq {q} {Q} {X} {Y} f g h = λ k. record {
  at = λ v. h v k;
  square = λ a. is_prop→PathP (λ k. X.mat a · h (Q.target a) k ≡ h (Q.source a) k · Y.mat a) (λ k. hlevel (Mat-set)) (f.square a) (g.square a) k;
}

-- First f, then g.
unfoldable pub ◌≫◌ : {q : Gf} {Q : Quiver} {X Y Z : Rep q Q} → Hom X Y → Hom Y Z → Hom X Z
◌≫◌ {q} {Q} {X} {Y} {Z} f g = record {
  at = λ v. f.at v · g.at v;
  square = λ a. simp (products, pull (X.mat a) (f.at (Q.target a)) (f.square a), g.square a);
}

unfoldable pub identity : {q : Gf} {Q : Quiver} (X : Rep q Q) → Hom X X
identity {q} X = record {
  at = λ v. one q (X.dim v);
  square = λ a. mul_one_mat (X.mat a) ∙ sym (one_mul_mat (X.mat a));
}

-- The zero homomorphism, sums, negatives, and multiples by a scalar.
unfoldable pub zero_hom : {q : Gf} {Q : Quiver} (X Y : Rep q Q) → Hom X Y
zero_hom {q} X Y = record {
  at = λ v. zeros q (X.dim v) (Y.dim v);
  square = λ a. mul_zeros (X.mat a) ∙ sym (zeros_mul (Y.mat a));
}

unfoldable pub ◌⊕◌ : {q : Gf} {Q : Quiver} {X Y : Rep q Q} → Hom X Y → Hom X Y → Hom X Y
◌⊕◌ {q} {Q} {X} {Y} f g = record {
  at = λ v. f.at v ⊞ g.at v;
  square = λ a. mul_add_mat (X.mat a) (f.at (Q.target a)) (g.at (Q.target a)) ∙ ap₂ (λ x y. x ⊞ y) (f.square a) (g.square a) ∙ sym (add_mul_mat (f.at (Q.source a)) (g.at (Q.source a)) (Y.mat a));
}

unfoldable pub negative_hom : {q : Gf} {Q : Quiver} {X Y : Rep q Q} → Hom X Y → Hom X Y
negative_hom {q} {Q} {X} {Y} f = record {
  at = λ v. negative (f.at v);
  square = λ a. mul_negative (X.mat a) (f.at (Q.target a)) ∙ ap negative (f.square a) ∙ sym (negative_mul (f.at (Q.source a)) (Y.mat a));
}

unfoldable pub multiple : {q : Gf} {Q : Quiver} {X Y : Rep q Q} → ℕ → Hom X Y → Hom X Y
multiple {q} {Q} {X} {Y} c f = record {
  at = λ v. c ⊙ f.at v;
  square = λ a. mul_scale c (X.mat a) (f.at (Q.target a)) ∙ ap (λ x. c ⊙ x) (f.square a) ∙ sym (scale_mul c (f.at (Q.source a)) (Y.mat a));
}

-- f times itself, k times.
unfoldable pub power : {q : Gf} {Q : Quiver} {X : Rep q Q} → Hom X X → ℕ → Hom X X
power {X = X} f zero = identity X
power f (suc k) = f ≫ power f k

-- f 0 + f 1 + .. + f (k − 1)
unfoldable pub sum_of : {q : Gf} {Q : Quiver} {X Y : Rep q Q} → ℕ → (ℕ → Hom X Y) → Hom X Y
sum_of {X = X} {Y = Y} zero f = zero_hom X Y
sum_of (suc k) f = sum_of k f ⊕ f k
