-- The standard duality: the dual of a representation is one of the opposite quiver. (Assem, Simson, Skowroński, volume 1, chapter I, 2.9, and III, 1.)
use Rattle.std.proofs.Common.{sym, ap, ◌∙◌}
use Rattle.linear_algebra.specs.Field.{Gf}
use Rattle.linear_algebra.specs.Matrix.{transpose}
use Rattle.linear_algebra.proofs.MatrixLaws.{transpose_mul}
use Rattle.representations.specs.Quiver.{Quiver, opposite}
use Rattle.representations.specs.Rep.{Rep}
use Rattle.representations.specs.Hom.{Hom}

-- The dual: the same dimensions, and transposed matrices.
abbrev pub dual : {q : Gf} {Q : Quiver} → Rep q Q → Rep q (opposite Q)
dual X = record { dim = X.dim; mat = λ a. transpose (X.mat a); past = X.past }

-- The dual of a homomorphism goes the other way.
unfoldable pub dual_hom : {q : Gf} {Q : Quiver} {X Y : Rep q Q} → Hom X Y → Hom (dual Y) (dual X)
dual_hom {q} {Q} {X} {Y} f = record {
  at = λ v. transpose (f.at v);
  square = λ a. sym (transpose_mul (f.at (Q.source a)) (Y.mat a)) ∙ ap transpose (sym (f.square a)) ∙ transpose_mul (X.mat a) (f.at (Q.target a));
}
