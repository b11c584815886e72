-- Matrix algebras: spaces of endomorphisms of a representation that contain the identity and are closed under composition. Over a quiver without
-- arrows an endomorphism is any family of square matrices, one at each vertex.
-- (Assem, Simson, Skowroński, volume 1, chapter I, 1 and 4.)
use Rattle.std.specs.Prelude.{ℕ, ◌≡◌, ◌<◌}
use Rattle.std.proofs.Common.{sym, ap, ap₂, ◌∙◌, arith}
use Rattle.linear_algebra.specs.Field.{Gf}
use Rattle.linear_algebra.specs.Matrix.{Mat, Row, zeros, ◌⊞◌, ◌⊙◌}
use Rattle.linear_algebra.proofs.Blocks.{no_rows_zeros}
use Rattle.representations.specs.Quiver.{Quiver}
use Rattle.representations.specs.Rep.{Rep}
use Rattle.representations.specs.Hom.{Hom, ◌≫◌, identity, ◌⊕◌, multiple, sum_of}
use Rattle.representations.specs.HomSpace.{HomBasis}
use Rattle.representations.proofs.Homs.{compose_assoc, compose_identity, identity_compose, sum_compose, compose_sum, multiple_compose, compose_multiple}
use Rattle.representations.proofs.HomSpace.{coordinates, hom-coordinates, coordinates-hom, hom_sum, hom_scale}
use Rattle.local_modules.specs.Algebra.{Algebra}

-- A matrix algebra by a basis: `element` takes the coordinates of a member to it.
pub record MatrixAlgebra {q : Gf} {Q : Quiver} (X : Rep q Q) : Type 0 where
  pub size : ℕ
  pub element : Row q size → Hom X X
  pub element_sum : (c d : Row q size) → element (c ⊞ d) ≡ element c ⊕ element d
  pub element_multiple : (n : ℕ) (c : Row q size) → element (n ⊙ c) ≡ multiple n (element c)
  pub once : (c d : Row q size) → element c ≡ element d → c ≡ d
  pub one : Row q size
  pub one_is : element one ≡ identity X
  pub composite : Row q size → Row q size → Row q size
  pub composite_is : (c d : Row q size) → element (composite c d) ≡ element c ≫ element d

-- f is the combination of h 0, .., h (m − 1) with these coefficients.
pub record IsCombinationOf {q : Gf} {Q : Quiver} {X : Rep q Q} (m : ℕ) (h : ℕ → Hom X X) (f : Hom X X) : Type 0 where
  pub coefficients : ℕ → ℕ
  pub is : sum_of m (λ i. multiple (coefficients i) (h i)) ≡ f

-- The span of h 0, .., h (m − 1) contains the identity and is closed under composition.
pub record IsClosedSpan {q : Gf} {Q : Quiver} {X : Rep q Q} (m : ℕ) (h : ℕ → Hom X X) : Type 0 where
  pub has_one : IsCombinationOf m h (identity X)
  pub has_composites : (i j : ℕ) → i < m → j < m → IsCombinationOf m h (h i ≫ h j)

-- Such an algebra in coordinates; the product is first x, then y.
module _ {q : Gf} {Q : Quiver} {X : Rep q Q} (M : MatrixAlgebra X) where
  pub sum_composite : (x y z : Row q M.size) → M.composite (x ⊞ y) z ≡ M.composite x z ⊞ M.composite y z
  sum_composite x y z = M.once _ _
      (M.composite_is (x ⊞ y) z ∙ ap (λ f. f ≫ M.element z) (M.element_sum x y) ∙ sum_compose (M.element x) (M.element y) (M.element z)
      ∙ sym (M.element_sum (M.composite x z) (M.composite y z) ∙ ap₂ (λ f g. f ⊕ g) (M.composite_is x z) (M.composite_is y z)))

  pub composite_sum : (x y z : Row q M.size) → M.composite x (y ⊞ z) ≡ M.composite x y ⊞ M.composite x z
  composite_sum x y z = M.once _ _
      (M.composite_is x (y ⊞ z) ∙ ap (λ f. M.element x ≫ f) (M.element_sum y z) ∙ compose_sum (M.element x) (M.element y) (M.element z)
      ∙ sym (M.element_sum (M.composite x y) (M.composite x z) ∙ ap₂ (λ f g. f ⊕ g) (M.composite_is x y) (M.composite_is x z)))

  pub multiple_composite : (c : ℕ) (x y : Row q M.size) → M.composite (c ⊙ x) y ≡ c ⊙ M.composite x y
  multiple_composite c x y = M.once _ _
      (M.composite_is (c ⊙ x) y ∙ ap (λ f. f ≫ M.element y) (M.element_multiple c x) ∙ multiple_compose c (M.element x) (M.element y)
      ∙ sym (M.element_multiple c (M.composite x y) ∙ ap (multiple c) (M.composite_is x y)))

  pub composite_multiple : (c : ℕ) (x y : Row q M.size) → M.composite x (c ⊙ y) ≡ c ⊙ M.composite x y
  composite_multiple c x y = M.once _ _
      (M.composite_is x (c ⊙ y) ∙ ap (λ f. M.element x ≫ f) (M.element_multiple c y) ∙ compose_multiple c (M.element x) (M.element y)
      ∙ sym (M.element_multiple c (M.composite x y) ∙ ap (multiple c) (M.composite_is x y)))

  pub composite_associates : (x y z : Row q M.size) → M.composite (M.composite x y) z ≡ M.composite x (M.composite y z)
  composite_associates x y z = M.once _ _
      (M.composite_is (M.composite x y) z ∙ ap (λ f. f ≫ M.element z) (M.composite_is x y) ∙ compose_assoc (M.element x) (M.element y) (M.element z)
      ∙ sym (M.composite_is x (M.composite y z) ∙ ap (λ f. M.element x ≫ f) (M.composite_is y z)))

  pub one_composite : (x : Row q M.size) → M.composite M.one x ≡ x
  one_composite x = M.once _ _ (M.composite_is M.one x ∙ ap (λ f. f ≫ M.element x) M.one_is ∙ identity_compose (M.element x))

  pub composite_one : (x : Row q M.size) → M.composite x M.one ≡ x
  composite_one x = M.once _ _ (M.composite_is x M.one ∙ ap (λ f. M.element x ≫ f) M.one_is ∙ compose_identity (M.element x))

  abbrev pub algebra_of : Algebra q
  algebra_of = record {
    size = M.size;
    product = M.composite;
    unit = M.one;
    sum_product = sum_composite;
    product_sum = composite_sum;
    multiple_product = multiple_composite;
    product_multiple = composite_multiple;
    associates = composite_associates;
    unit_product = one_composite;
    product_unit = composite_one;
  }

-- All endomorphisms.
module _ {q : Gf} {Q : Quiver} {X : Rep q Q} (B : HomBasis X X) where
  pub coordinates_once : (c d : Row q B.size) → B.hom c ≡ B.hom d → c ≡ d
  coordinates_once c d e = sym (coordinates-hom B c) ∙ ap (coordinates B) e ∙ coordinates-hom B d

  abbrev pub endomorphisms : MatrixAlgebra X
  endomorphisms = record {
    size = B.size;
    element = B.hom;
    element_sum = hom_sum B;
    element_multiple = hom_scale B;
    once = coordinates_once;
    one = coordinates B (identity X);
    one_is = hom-coordinates B (identity X);
    composite = λ c d. coordinates B (B.hom c ≫ B.hom d);
    composite_is = λ c d. hom-coordinates B (B.hom c ≫ B.hom d);
  }

-- The endomorphism algebra.
abbrev pub endomorphism_algebra : {q : Gf} {Q : Quiver} {X : Rep q Q} → HomBasis X X → Algebra q
endomorphism_algebra B = algebra_of (endomorphisms B)

-- The quiver without its arrows, a representation at the vertices alone, and a family of square matrices as an endomorphism of it.
abbrev pub vertices_only : Quiver → Quiver
vertices_only Q = record {
  vertices = Q.vertices;
  arrows = 0;
  source = λ a. Q.vertices;
  target = λ a. Q.vertices;
  source_past = λ a h. omega arith;
  target_past = λ a h. omega arith;
}

abbrev pub at_vertices : {q : Gf} {Q : Quiver} → Rep q Q → Rep q (vertices_only Q)
at_vertices {q} {Q} X = record { dim = X.dim; mat = λ a. zeros q (X.dim Q.vertices) (X.dim Q.vertices); past = X.past }

unfoldable pub family_endomorphism : {q : Gf} {Q : Quiver} (X : Rep q Q) → ((v : ℕ) → Mat q (X.dim v) (X.dim v)) → Hom (at_vertices X) (at_vertices X)
family_endomorphism {q} {Q} X f = record {
  at = f;
  square = λ a. no_rows_zeros (X.past Q.vertices (omega arith)) _ ∙ sym (no_rows_zeros (X.past Q.vertices (omega arith)) _);
}
