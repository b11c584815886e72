-- Injective modules: the duals of the projective modules of the other side. (Assem, Simson, Skowroński, volume 1, chapter I, 5, and III, 2.)
use Rattle.std.specs.Prelude.{ℕ}
use Rattle.std.proofs.Common.{sym, ap, ◌∙◌}
use Rattle.linear_algebra.specs.Field.{Gf}
use Rattle.linear_algebra.specs.Matrix.{transpose, ◌·◌}
use Rattle.linear_algebra.proofs.MatrixLaws.{transpose_mul, transpose_transpose}
use Rattle.representations.specs.Quiver.{Quiver, opposite, BoundQuiver}
use Rattle.representations.specs.Rep.{Rep}
use Rattle.representations.specs.Hom.{Hom}
use Rattle.representations.specs.Dual.{dual}
use Rattle.projectives.specs.Words.{projective}
use Rattle.projectives.specs.Families.{projectives}
use Rattle.projectives.specs.TwoSided.{TwoSided, other}

-- The injective module at v: its rows at w have an entry for each word from w to v.
abbrev pub injective : {q : Gf} {A : BoundQuiver} → TwoSided q A → ℕ → Rep q A.quiver
injective T v = dual (projective (other T) v)

-- The sum of the injective modules at the vertices v 0, .., v (k − 1), by which the Nakayama functor answers to the sum of the projective modules there.
abbrev pub injectives : {q : Gf} {A : BoundQuiver} → TwoSided q A → (k : ℕ) → (ℕ → ℕ) → Rep q A.quiver
injectives T k v = dual (projectives (other T) k v)

-- A homomorphism into a dual, turned round: Hom (Z, D X) = Hom (X, D Z), by transposed matrices.
unfoldable pub turn : {q : Gf} {Q : Quiver} {X : Rep q Q} {Z : Rep q (opposite Q)} → Hom Z (dual X) → Hom X (dual Z)
turn {q} {Q} {X} {Z} g = record {
  at = λ v. transpose (g.at v);
  square = λ a.
      ap (λ z. z · transpose (g.at (Q.target a))) (sym (transpose_transpose (X.mat a))) ∙ sym (transpose_mul (g.at (Q.target a)) (transpose (X.mat a)))
      ∙ ap transpose (sym (g.square a)) ∙ transpose_mul (Z.mat a) (g.at (Q.source a));
}

-- The homomorphism whose dual is g.
unfoldable pub undual : {q : Gf} {Q : Quiver} {X Y : Rep q Q} → Hom (dual Y) (dual X) → Hom X Y
undual {q} {Q} {X} {Y} g = record {
  at = λ v. transpose (g.at v);
  square = λ a.
      ap (λ z. z · transpose (g.at (Q.target a))) (sym (transpose_transpose (X.mat a))) ∙ sym (transpose_mul (g.at (Q.target a)) (transpose (X.mat a)))
      ∙ ap transpose (sym (g.square a)) ∙ transpose_mul (transpose (Y.mat a)) (g.at (Q.source a)) ∙ ap (λ z. transpose (g.at (Q.source a)) · z) (transpose_transpose (Y.mat a));
}
