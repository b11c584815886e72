-- Representations are equal as soon as their dimensions and the entries of their matrices are; so sums associate, and zero is neutral.
use Rattle.std.proofs.Common.{ℕ, zero, ◌≤◌, ◌≡◌, arith}
use mathlib.Core.HLevel.{is_prop→PathP}
use native.Mathlib.Nat.{ℕ_set}
use Rattle.linear_algebra.specs.Field.{Gf}
use Rattle.linear_algebra.proofs.DirectSum.{diagonal_assoc-at}
use Rattle.linear_algebra.proofs.MatrixPaths.{Mat-path}
use Rattle.representations.specs.Quiver.{Quiver}
use Rattle.representations.specs.Rep.{Rep}
use Rattle.representations.specs.Sum.{sum_rep}

pub Rep-eq : {q : Gf} {Q : Quiver} (X Y : Rep q Q) (e : (v : ℕ) → X.dim v ≡ Y.dim v) → ((a i j : ℕ) → (X.mat a).at i j ≡ (Y.mat a).at i j) → X ≡ Y
Rep-eq {q} {Q} X Y e h = λ k. record {
  dim = λ v. e v k;
  mat = λ a. Mat-path (λ k. e (Q.source a) k) (λ k. e (Q.target a) k) (X.mat a) (Y.mat a) (h a) k;
  past = is_prop→PathP (λ k. (v : ℕ) → Q.vertices ≤ v → e v k ≡ zero) (λ k. hlevel (ℕ_set)) X.past Y.past k;
}

pub sum_rep_assoc : {q : Gf} {Q : Quiver} (X Y Z : Rep q Q) → sum_rep (sum_rep X Y) Z ≡ sum_rep X (sum_rep Y Z)
sum_rep_assoc X Y Z = Rep-eq _ _ (λ v. omega arith) (λ a i j. diagonal_assoc-at (X.mat a) (Y.mat a) (Z.mat a) i j)
