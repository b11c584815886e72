-- Turning homomorphisms into a dual round: it is its own inverse, linear, and goes with composition.
use Rattle.std.proofs.Common.{ℕ, zero, suc, ◌≡◌, refl, sym, ap, ◌∙◌}
use Rattle.linear_algebra.specs.Field.{Gf}
use Rattle.linear_algebra.specs.Matrix.{Mat, transpose}
use Rattle.linear_algebra.proofs.MatrixLaws.{transpose_transpose, transpose_sum, transpose_scale, transpose_zeros}
use Rattle.linear_algebra.proofs.DirectSum.{transpose_diagonal}
use Rattle.representations.specs.Quiver.{Quiver, opposite}
use Rattle.representations.specs.Rep.{Rep}
use Rattle.representations.specs.Hom.{Hom, Hom-eq, ◌⊕◌, multiple}
use Rattle.representations.specs.Sum.{sum_rep, sum_family}
use Rattle.representations.proofs.RepEqual.{Rep-eq}
use Rattle.representations.specs.Dual.{dual, dual_hom}
use Rattle.projectives.specs.Injective.{turn, undual}

module _ {q : Gf} {Q : Quiver} (X : Rep q Q) (Z : Rep q (opposite Q)) where
  pub turn-at : (g : Hom Z (dual X)) (v : ℕ) → (turn {X = X} g).at v ≡ transpose (g.at v)
  unfolding turn
  turn-at g v = refl

  pub turn_turn : (g : Hom Z (dual X)) → turn (turn {X = X} g) ≡ g
  unfolding turn
  turn_turn g = Hom-eq _ _ (λ v. transpose_transpose (g.at v))

  pub turn-sum : (f g : Hom Z (dual X)) → turn (f ⊕ g) ≡ turn f ⊕ turn g
  unfolding turn ◌⊕◌
  turn-sum f g = Hom-eq _ _ (λ v. transpose_sum (f.at v) (g.at v))

  pub turn-multiple : (c : ℕ) (g : Hom Z (dual X)) → turn (multiple c g) ≡ multiple c (turn g)
  unfolding turn multiple
  turn-multiple c g = Hom-eq _ _ (λ v. transpose_scale c (g.at v))

-- The dual, and back.
module _ {q : Gf} {Q : Quiver} (X Y : Rep q Q) where
  pub undual-at : (g : Hom (dual Y) (dual X)) (v : ℕ) → (undual g).at v ≡ transpose (g.at v)
  unfolding undual
  undual-at g v = refl

  pub dual-undual : (g : Hom (dual Y) (dual X)) → dual_hom (undual g) ≡ g
  unfolding undual dual_hom
  dual-undual g = Hom-eq _ _ (λ v. transpose_transpose (g.at v))

  pub undual-dual : (f : Hom X Y) → undual (dual_hom f) ≡ f
  unfolding undual dual_hom
  undual-dual f = Hom-eq _ _ (λ v. transpose_transpose (f.at v))

  pub dual_injective : (f g : Hom X Y) → dual_hom f ≡ dual_hom g → f ≡ g
  dual_injective f g e = sym (undual-dual f) ∙ ap (λ (z : Hom (dual Y) (dual X)). undual z) e ∙ undual-dual g

-- The dual of a sum is the sum of the duals.
pub dual_sum_rep : {q : Gf} {Q : Quiver} (X Y : Rep q Q) → dual (sum_rep X Y) ≡ sum_rep (dual X) (dual Y)
dual_sum_rep X Y = Rep-eq _ _ (λ v. refl) (λ a i j. ap (λ (z : Mat _ _ _). z.at i j) (transpose_diagonal (X.mat a) (Y.mat a)))

pub dual_sum_family : {q : Gf} {Q : Quiver} (k : ℕ) (X : ℕ → Rep q Q) → dual (sum_family k X) ≡ sum_family k (λ j. dual (X j))
unfolding sum_family
dual_sum_family {q} zero X = Rep-eq _ _ (λ v. refl) (λ a i j. ap (λ (z : Mat _ _ _). z.at i j) (transpose_zeros q zero zero))
dual_sum_family (suc k) X = dual_sum_rep (sum_family k X) (X k) ∙ ap (λ z. sum_rep z (dual (X k))) (dual_sum_family k X)
