-- All families of square matrices at the vertices of a representation, as one algebra, in the coordinates in which homomorphisms stand as rows.
-- (Assem, Simson, Skowroński, volume 1, chapter I, 1.)
use Rattle.std.specs.Prelude.{ℕ, ◌≡◌}
use Rattle.std.proofs.Common.{refl, sym, ap, ap₂, ◌∙◌}
use Rattle.linear_algebra.specs.Field.{Gf}
use Rattle.linear_algebra.specs.Matrix.{Mat, Row, one, ◌⊞◌, ◌⊙◌, ◌·◌}
use Rattle.linear_algebra.specs.Solutions.{flatten_all}
use Rattle.linear_algebra.proofs.Solutions.{flatten_all-same}
use Rattle.representations.specs.Quiver.{Quiver}
use Rattle.representations.specs.Rep.{Rep}
use Rattle.representations.specs.Hom.{Hom, Hom-eq, identity, multiple, ◌⊕◌, ◌≫◌}
use Rattle.representations.specs.HomSpace.{unknowns}
use Rattle.representations.proofs.HomSpace.{unflat, unflat_of, flat_of, unflat-sum, unflat-scale}
use Rattle.representations.proofs.Homs.{sum-at, multiple-at, compose-at, identity-at, same-at}
use Rattle.local_modules.specs.Algebra.{Algebra}
use Rattle.local_modules.specs.MatrixAlgebra.{MatrixAlgebra, algebra_of, at_vertices, family_endomorphism}

-- The products vertex by vertex, first x, then y; and the identities.
unfoldable pub row_composite : {q : Gf} {Q : Quiver} (X : Rep q Q) → Row q (unknowns X X) → Row q (unknowns X X) → Row q (unknowns X X)
row_composite {Q = Q} X x y = flatten_all Q.vertices X.dim X.dim (λ v. unflat X X x v · unflat X X y v)

unfoldable pub row_identity : {q : Gf} {Q : Quiver} (X : Rep q Q) → Row q (unknowns X X)
row_identity {q} {Q} X = flatten_all Q.vertices X.dim X.dim (λ v. one q (X.dim v))

pub family-at : {q : Gf} {Q : Quiver} (X : Rep q Q) (f : (v : ℕ) → Mat q (X.dim v) (X.dim v)) (v : ℕ) → (family_endomorphism X f).at v ≡ f v
unfolding family_endomorphism
family-at X f v = refl

module _ {q : Gf} {Q : Quiver} (X : Rep q Q) where
  -- the family that a row stands for
  unfoldable pub member : Row q (unknowns X X) → Hom (at_vertices X) (at_vertices X)
  member c = family_endomorphism X (unflat X X c)

  pub member-at : (c : Row q (unknowns X X)) (v : ℕ) → (member c).at v ≡ unflat X X c v
  unfolding member
  member-at c v = family-at X (unflat X X c) v

  pub member_sum : (c d : Row q (unknowns X X)) (v : ℕ) → (member (c ⊞ d)).at v ≡ (member c ⊕ member d).at v
  member_sum c d v = member-at (c ⊞ d) v ∙ unflat-sum X X c d v ∙ sym (sum-at (member c) (member d) v ∙ ap₂ (λ a b. a ⊞ b) (member-at c v) (member-at d v))

  pub member_multiple : (n : ℕ) (c : Row q (unknowns X X)) (v : ℕ) → (member (n ⊙ c)).at v ≡ (multiple n (member c)).at v
  member_multiple n c v = member-at (n ⊙ c) v ∙ unflat-scale X X n c v ∙ sym (multiple-at n (member c) v ∙ ap (λ a. n ⊙ a) (member-at c v))

  pub member_once : (c d : Row q (unknowns X X)) → member c ≡ member d → c ≡ d
  member_once c d e =
      sym (flat_of X X c) ∙ flatten_all-same Q.vertices X.dim X.dim _ _ (λ v l. sym (member-at c v) ∙ same-at e v ∙ member-at d v) ∙ flat_of X X d

  pub member_composite : (c d : Row q (unknowns X X)) (v : ℕ) → (member (row_composite X c d)).at v ≡ (member c ≫ member d).at v
  unfolding row_composite
  member_composite c d v =
      member-at (row_composite X c d) v ∙ unflat_of X X (λ v. unflat X X c v · unflat X X d v) v
      ∙ sym (compose-at (member c) (member d) v ∙ ap₂ (λ a b. a · b) (member-at c v) (member-at d v))

  pub member_identity : (v : ℕ) → (member (row_identity X)).at v ≡ (identity (at_vertices X)).at v
  unfolding row_identity
  member_identity v = member-at (row_identity X) v ∙ unflat_of X X (λ v. one q (X.dim v)) v ∙ sym (identity-at (at_vertices X) v)

  abbrev pub families : MatrixAlgebra (at_vertices X)
  families = record {
    size = unknowns X X;
    element = member;
    element_sum = λ c d. Hom-eq _ _ (member_sum c d);
    element_multiple = λ n c. Hom-eq _ _ (member_multiple n c);
    once = member_once;
    one = row_identity X;
    one_is = Hom-eq _ _ member_identity;
    composite = row_composite X;
    composite_is = λ c d. Hom-eq _ _ (member_composite c d);
  }

  abbrev pub family_algebra : Algebra q
  family_algebra = algebra_of families
