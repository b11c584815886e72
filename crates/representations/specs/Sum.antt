-- Direct sums of representations. (Assem, Simson, Skowroński, volume 1, chapter III, 1.)
use Rattle.std.specs.Prelude.{ℕ, zero, suc, ◌+◌, ◌≤◌, ◌≡◌}
use Rattle.std.proofs.Common.{sym, arith, refl}
use Rattle.linear_algebra.specs.Field.{Gf}
use Rattle.linear_algebra.specs.Matrix.{zeros, one, stack, beside}
use Rattle.linear_algebra.specs.DirectSum.{diagonal}
use Rattle.linear_algebra.proofs.DirectSum.{first_diagonal, second_diagonal, diagonal_first, diagonal_second}
use Rattle.linear_algebra.proofs.Products.{products, blocks}
use Rattle.representations.specs.Quiver.{Quiver}
use Rattle.representations.specs.Rep.{Rep}
use Rattle.representations.specs.Hom.{Hom}

-- The zero representation, and the direct sum of two: the rows of X before those of Y.
abbrev pub zero_rep : (q : Gf) (Q : Quiver) → Rep q Q
zero_rep q Q = record { dim = λ v. zero; mat = λ a. zeros q zero zero; past = λ v h. refl }

pub sum_past : {q : Gf} {Q : Quiver} (X Y : Rep q Q) (v : ℕ) → Q.vertices ≤ v → X.dim v + Y.dim v ≡ zero
sum_past X Y v h = let x = X.past v h in let y = Y.past v h in omega arith

abbrev pub sum_rep : {q : Gf} {Q : Quiver} → Rep q Q → Rep q Q → Rep q Q
sum_rep X Y = record {
  dim = λ v. X.dim v + Y.dim v;
  mat = λ a. diagonal (X.mat a) (Y.mat a);
  past = sum_past X Y;
}

-- the injections and the projections of the two parts
module _ {q : Gf} {Q : Quiver} (X Y : Rep q Q) where
  unfoldable pub into_first : Hom X (sum_rep X Y)
  into_first = record { at = λ v. beside (one q (X.dim v)) (zeros q (X.dim v) (Y.dim v)); square = λ a. sym (first_diagonal (X.mat a) (Y.mat a)) }

  unfoldable pub into_second : Hom Y (sum_rep X Y)
  into_second = record { at = λ v. beside (zeros q (Y.dim v) (X.dim v)) (one q (Y.dim v)); square = λ a. sym (second_diagonal (X.mat a) (Y.mat a)) }

  unfoldable pub onto_first : Hom (sum_rep X Y) X
  onto_first = record { at = λ v. stack (one q (X.dim v)) (zeros q (Y.dim v) (X.dim v)); square = λ a. diagonal_first (X.mat a) (Y.mat a) }

  unfoldable pub onto_second : Hom (sum_rep X Y) Y
  onto_second = record { at = λ v. stack (zeros q (X.dim v) (Y.dim v)) (one q (Y.dim v)); square = λ a. diagonal_second (X.mat a) (Y.mat a) }

-- The homomorphism out of a sum that is f on the first part and g on the second; the one into a sum whose parts are f and g.
unfoldable pub from_sum : {q : Gf} {Q : Quiver} {X Y Z : Rep q Q} → Hom X Z → Hom Y Z → Hom (sum_rep X Y) Z
unfolding diagonal
from_sum f g = record { at = λ v. stack (f.at v) (g.at v); square = λ a. simp (blocks, products, f.square a, g.square a) }

unfoldable pub into_sum : {q : Gf} {Q : Quiver} {X Y Z : Rep q Q} → Hom Z X → Hom Z Y → Hom Z (sum_rep X Y)
unfolding diagonal
into_sum f g = record { at = λ v. beside (f.at v) (g.at v); square = λ a. simp (blocks, products, f.square a, g.square a) }

-- The direct sum of X 0, X 1, .., X (k − 1), in this order.
unfoldable pub sum_family : {q : Gf} {Q : Quiver} → ℕ → (ℕ → Rep q Q) → Rep q Q
sum_family {q} {Q} zero X = zero_rep q Q
sum_family (suc k) X = sum_rep (sum_family k X) (X k)
