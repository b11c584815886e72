-- Matrices of paths: homomorphisms go with them.
use Rattle.std.proofs.Common.{ℕ, ◌<◌, ◌≡◌, refl, sym, ap, ◌∙◌, subst}
use Rattle.linear_algebra.specs.Field.{Gf}
use Rattle.linear_algebra.specs.Matrix.{Mat, zeros, one, ◌·◌}
use Rattle.linear_algebra.proofs.MatrixLaws.{mul_zeros, zeros_mul, mul_one_mat, one_mul_mat, mul_assoc_mat}
use Rattle.linear_algebra.proofs.Products.{products, pull}
use Rattle.linear_algebra.proofs.Families.{mul_combine, combine_mul}
use Rattle.linear_algebra.proofs.LinearMaps.{combine-same_members}
use Rattle.linear_algebra.proofs.Solving.{injective_right_inverse, right_inverse_injective, surjective_left_inverse, left_inverse_cancels}
use Rattle.representations.specs.Module.{IsMono, IsEpi}
use Rattle.representations.specs.Quiver.{Quiver, Path, trivial, then, path_join, path_after, arrow_path, Relation, BoundQuiver, with_relations}
use Rattle.representations.specs.Rep.{Rep, along, value_of_relation, IsMod}
use Rattle.representations.specs.Hom.{Hom}

module _ {q : Gf} {Q : Quiver} (X : Rep q Q) where
  pub along-trivial : (v : ℕ) → (let p : Path Q v v = trivial in along X p) ≡ one q (X.dim v)
  unfolding along
  along-trivial v = refl

  pub along-then : {v : ℕ} (a : ℕ) (p : Path Q v (Q.source a)) → along X (then a p) ≡ along X p · X.mat a
  unfolding along
  along-then a p = refl

  pub along_arrow : (a : ℕ) → along X (arrow_path {Q = Q} a) ≡ X.mat a
  unfolding along
  along_arrow a = one_mul_mat (X.mat a)

  pub along_join : {u v w : ℕ} (p : Path Q u v) (r : Path Q v w) → along X (path_join p r) ≡ along X p · along X r
  unfolding along
  along_join p trivial = sym (mul_one_mat (along X p))
  along_join p (then a r) = ap (λ z. z · X.mat a) (along_join p r) ∙ mul_assoc_mat (along X p) (along X r) (X.mat a)

  pub along_after : {w : ℕ} (a : ℕ) (p : Path Q (Q.target a) w) → along X (path_after a p) ≡ X.mat a · along X p
  along_after a p = along_join (arrow_path {Q = Q} a) p ∙ ap (λ z. z · along X p) (along_arrow a)

-- Homomorphisms go with paths, and with relations.
module _ {q : Gf} {Q : Quiver} {X Y : Rep q Q} (f : Hom X Y) where
  pub along-hom : {v w : ℕ} (p : Path Q v w) → along X p · f.at w ≡ f.at v · along Y p
  unfolding along
  along-hom {v} trivial = one_mul_mat (f.at v) ∙ sym (mul_one_mat (f.at v))
  along-hom (then a p) = simp (products, f.square a, pull (along X p) (f.at (Q.source a)) (along-hom p))

  pub relation-hom : (r : Relation Q) → value_of_relation X r · f.at r.to ≡ f.at r.from · value_of_relation Y r
  unfolding value_of_relation
  relation-hom r =
      combine_mul r.terms r.coefficient (λ i. along X (r.path i)) (f.at r.to)
      ∙ combine-same_members r.terms r.coefficient _ _ (λ i h. along-hom (r.path i))
      ∙ sym (mul_combine r.terms r.coefficient (f.at r.from) (λ i. along Y (r.path i)))

-- What has an injection into a module is a module, and so is what a module has a surjection to.
module _ {q : Gf} (A : BoundQuiver) {X Y : Rep q A.quiver} (f : Hom X Y) where
  pub IsMod-mono : IsMono f → IsMod A Y → IsMod A X
  IsMod-mono mono M = record {
    relations = λ i h. cancel (A.relation i).from (A.relation i).to (value_of_relation X (A.relation i))
        (relation-hom f (A.relation i) ∙ ap (λ z. f.at (A.relation i).from · z) (M.relations i h) ∙ mul_zeros (f.at (A.relation i).from));
    long_paths = λ {v} {w} p h. cancel v w (along X p) (along-hom f p ∙ ap (λ z. f.at v · z) (M.long_paths p h) ∙ mul_zeros (f.at v));
  }
    where
      cancel : (v w : ℕ) (x : Mat q (X.dim v) (X.dim w)) → x · f.at w ≡ zeros q (X.dim v) (Y.dim w) → x ≡ zeros q (X.dim v) (X.dim w)
      cancel v w x e = right_inverse_injective (f.at w) (injective_right_inverse (f.at w) (mono w)) x e

  pub IsMod-epi : IsEpi f → IsMod A X → IsMod A Y
  IsMod-epi epi M = record {
    relations = λ i h. cancel (A.relation i).from (A.relation i).to (value_of_relation Y (A.relation i))
        (sym (relation-hom f (A.relation i)) ∙ ap (λ z. z · f.at (A.relation i).to) (M.relations i h) ∙ zeros_mul (f.at (A.relation i).to));
    long_paths = λ {v} {w} p h. cancel v w (along Y p) (sym (along-hom f p) ∙ ap (λ z. z · f.at w) (M.long_paths p h) ∙ zeros_mul (f.at w));
  }
    where
      cancel : (v w : ℕ) (y : Mat q (Y.dim v) (Y.dim w)) → f.at v · y ≡ zeros q (X.dim v) (Y.dim w) → y ≡ zeros q (Y.dim v) (Y.dim w)
      cancel v w y e = left_inverse_cancels (f.at v) (surjective_left_inverse (f.at v) (epi v)) y (zeros q (Y.dim v) (Y.dim w)) (e ∙ sym (mul_zeros (f.at v)))

-- Modules over an algebra are modules over each one with the same relations below the count.
pub IsMod-written : {q : Gf} (A : BoundQuiver) (r : ℕ → Relation A.quiver) → ((i : ℕ) → i < A.relations → A.relation i ≡ r i) → (X : Rep q A.quiver) → IsMod A X → IsMod (with_relations A r) X
IsMod-written {q} A r same X M = record {
  relations = λ i h. subst (λ r. value_of_relation X r ≡ zeros q (X.dim r.from) (X.dim r.to)) (same i h) (M.relations i h);
  long_paths = M.long_paths;
}
