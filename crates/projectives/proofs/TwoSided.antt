-- The two sides: the place of the trivial word is the same after two exchanges, and so is the generator.
use Rattle.std.proofs.Common.{ℕ, ◌≡◌, sym, ap, ◌∙◌, subst}
use Rattle.std.proofs.Math.Path.{subst_refl, path_j}
use Rattle.linear_algebra.specs.Field.{Gf}
use Rattle.linear_algebra.specs.Matrix.{◌·◌}
use Rattle.linear_algebra.specs.Parts.{unit}
use Rattle.representations.specs.Quiver.{BoundQuiver, opposite_algebra, with_relations}
use Rattle.representations.specs.Rep.{Rep, IsMod}
use Rattle.representations.specs.Dual.{dual}
use Rattle.representations.proofs.Duals.{IsMod-dual}
use Rattle.projectives.specs.Words.{Words, IsWordBasis, projective}
use Rattle.projectives.specs.Projective.{generator}
use Rattle.projectives.specs.Families.{family_in, generator_of}
use Rattle.projectives.specs.TwoSided.{TwoSided, other, swap, with_paths, relations_back, paths_back, basis_back}

place-relations : {q : Gf} (A : BoundQuiver) (W : Words q A.quiver) (B : IsWordBasis A W) → (subst (λ r. IsWordBasis (with_relations A r) W) (relations_back A) B).place ≡ B.place
place-relations A W B =
    path_j (λ r e. (subst (λ r. IsWordBasis (with_relations A r) W) e B).place ≡ B.place)
    (ap (λ (b : IsWordBasis A W). b.place) (subst_refl (λ r. IsWordBasis (with_relations A r) W) B)) (relations_back A)

place-paths : {q : Gf} (A : BoundQuiver) (W : Words q A.quiver) (B : IsWordBasis A W) → (subst (λ p. IsWordBasis A (with_paths W p)) (paths_back W) B).place ≡ B.place
place-paths A W B =
    path_j (λ p e. (subst (λ p. IsWordBasis A (with_paths W p)) e B).place ≡ B.place)
    (ap (λ (b : IsWordBasis A W). b.place) (subst_refl (λ p. IsWordBasis A (with_paths W p)) B)) (paths_back W)

place-back : {q : Gf} (A : BoundQuiver) (W : Words q A.quiver) (B : IsWordBasis A W) → (basis_back A W B).place ≡ B.place
unfolding basis_back
place-back A W B = place-paths (opposite_algebra (opposite_algebra A)) W (subst (λ r. IsWordBasis (with_relations A r) W) (relations_back A) B) ∙ place-relations A W B

module _ {q : Gf} {A : BoundQuiver} (T : TwoSided q A) where
  pub generator-back : (v : ℕ) → generator (opposite_algebra (opposite_algebra A)) (other (swap T)) (swap T).opposite_basis v ≡ generator A T.words T.basis v
  generator-back v = ap (λ (p : ℕ → ℕ). unit q (T.words.count v v) (p v)) (place-back A T.words T.basis)

  pub generator_of-back : (k : ℕ) (v : ℕ → ℕ) (j : ℕ) → generator_of (opposite_algebra (opposite_algebra A)) (other (swap T)) (swap T).opposite_basis k v j ≡ generator_of A T.words T.basis k v j
  generator_of-back k v j = ap (λ z. z · (family_in k (λ j. projective T.words (v j)) j).at (v j)) (generator-back (v j))

-- What is a module over the opposite of the opposite algebra is one over the algebra.
pub IsMod-back : {q : Gf} (A : BoundQuiver) (X : Rep q A.quiver) → IsMod (opposite_algebra (opposite_algebra A)) X → IsMod A X
IsMod-back A X M = subst (λ r. IsMod (with_relations A r) X) (sym (relations_back A)) M

pub IsMod-dual_back : {q : Gf} (A : BoundQuiver) (X : Rep q (opposite_algebra A).quiver) → IsMod (opposite_algebra A) X → IsMod A (dual X)
IsMod-dual_back A X M = IsMod-back A (dual X) (IsMod-dual (opposite_algebra A) X M)
