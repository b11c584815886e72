-- The endomorphisms of a module among all families of matrices: by the rows of a basis of them, their algebra is embedded.
use Rattle.std.proofs.Common.{sym, ap, ap₂, ◌∙◌, ◌≡◌}
use Rattle.linear_algebra.specs.Field.{Gf}
use Rattle.linear_algebra.specs.Matrix.{◌·◌}
use Rattle.linear_algebra.proofs.Solutions.{flatten_all-same}
use Rattle.representations.specs.Quiver.{Quiver}
use Rattle.representations.specs.Rep.{Rep}
use Rattle.representations.specs.Hom.{Hom, ◌≫◌, identity}
use Rattle.representations.specs.HomSpace.{flat, HomBasis}
use Rattle.representations.proofs.Homs.{compose-at, identity-at}
use Rattle.representations.proofs.HomSpace.{unflat-flat, coordinates, hom-coordinates}
use Rattle.local_modules.specs.MatrixAlgebra.{endomorphism_algebra}
use Rattle.local_modules.specs.Subalgebra.{IsEmbedding}
use Rattle.local_modules.specs.FamilyAlgebra.{family_algebra, row_composite, row_identity}

module _ {q : Gf} {Q : Quiver} (X : Rep q Q) where
  pub flat_composite : (f g : Hom X X) → flat (f ≫ g) ≡ row_composite X (flat f) (flat g)
  unfolding row_composite flat
  flat_composite f g = flatten_all-same Q.vertices X.dim X.dim _ _ (λ v l. compose-at f g v ∙ sym (ap₂ (λ a b. a · b) (unflat-flat X X f v) (unflat-flat X X g v)))

  pub flat_identity : flat (identity X) ≡ row_identity X
  unfolding row_identity flat
  flat_identity = flatten_all-same Q.vertices X.dim X.dim _ _ (λ v l. identity-at X v)

module _ {q : Gf} {Q : Quiver} {X : Rep q Q} (B : HomBasis X X) where
  pub coordinates_flat : (f : Hom X X) → coordinates B f · B.basis ≡ flat f
  coordinates_flat f = sym (B.hom_flat (coordinates B f)) ∙ ap flat (hom-coordinates B f)

  pub endomorphisms_embedded : IsEmbedding (endomorphism_algebra B) (family_algebra X) B.basis
  endomorphisms_embedded = record {
    product = λ x y. coordinates_flat (B.hom x ≫ B.hom y) ∙ flat_composite X (B.hom x) (B.hom y) ∙ ap₂ (row_composite X) (B.hom_flat x) (B.hom_flat y);
    unit = coordinates_flat (identity X) ∙ flat_identity X;
    once = B.once;
  }
