-- Submodules and quotients. (Assem, Simson, Skowroński, volume 1, chapter III, 1, and chapter I, 1.)
use Rattle.std.specs.Prelude.{ℕ, zero, ◌≤◌, ◌≡◌}
use Rattle.std.proofs.Common.{sym, arith}
use Rattle.linear_algebra.specs.Field.{Gf}
use Rattle.linear_algebra.specs.Matrix.{Mat, Row, zeros, ◌·◌}
use Rattle.linear_algebra.specs.Rank.{IsInSpan, HasRightInverse, HasLeftInverse}
use Rattle.linear_algebra.proofs.Steinitz.{steinitz}
use Rattle.linear_algebra.proofs.Exactness.{through_surjection}
use Rattle.representations.specs.Quiver.{Quiver}
use Rattle.representations.specs.Rep.{Rep}
use Rattle.representations.specs.Hom.{Hom}

-- A submodule: at each vertex a subspace, by a basis of its rows, so that each arrow takes the one at its source into the one at its target.
pub record Submodule {q : Gf} {Q : Quiver} (X : Rep q Q) : Type 0 where
  pub size : ℕ → ℕ
  pub basis : (v : ℕ) → Mat q (size v) (X.dim v)
  pub independent : (v : ℕ) → HasRightInverse (basis v)
  pub stable : (a : ℕ) → IsInSpan (basis (Q.target a)) (basis (Q.source a) · X.mat a)

-- A quotient: at each vertex a surjection, so that each arrow takes the rows that vanish at its source to such at its target.
pub record Quotient {q : Gf} {Q : Quiver} (X : Rep q Q) : Type 0 where
  pub size : ℕ → ℕ
  pub onto : (v : ℕ) → Mat q (X.dim v) (size v)
  pub surjective : (v : ℕ) → HasLeftInverse (onto v)
  pub stable : (a : ℕ) (x : Row q (X.dim (Q.source a))) → x · onto (Q.source a) ≡ zeros q 1 (size (Q.source a)) → x · (X.mat a · onto (Q.target a)) ≡ zeros q 1 (size (Q.target a))

-- a submodule as a representation, with its inclusion
pub sub_past : {q : Gf} {Q : Quiver} {X : Rep q Q} (U : Submodule X) (v : ℕ) → Q.vertices ≤ v → U.size v ≡ zero
sub_past {X = X} U v h = let none = X.past v h in let fewer = steinitz (U.basis v) (U.independent v).inverse (U.independent v).is in omega arith

abbrev pub sub_rep : {q : Gf} {Q : Quiver} {X : Rep q Q} → Submodule X → Rep q Q
sub_rep U = record { dim = U.size; mat = λ a. (U.stable a).by; past = sub_past U }

abbrev pub inclusion : {q : Gf} {Q : Quiver} {X : Rep q Q} (U : Submodule X) → Hom (sub_rep U) X
inclusion U = record { at = U.basis; square = λ a. (U.stable a).is }

-- a quotient as a representation, with its projection
pub quotient_past : {q : Gf} {Q : Quiver} {X : Rep q Q} (U : Quotient X) (v : ℕ) → Q.vertices ≤ v → U.size v ≡ zero
quotient_past {X = X} U v h = let none = X.past v h in let fewer = steinitz (U.surjective v).inverse (U.onto v) (U.surjective v).is in omega arith

abbrev pub quotient_rep : {q : Gf} {Q : Quiver} {X : Rep q Q} → Quotient X → Rep q Q
quotient_rep {q} {Q} {X} U = record {
  dim = U.size;
  mat = λ a. (U.surjective (Q.source a)).inverse · (X.mat a · U.onto (Q.target a));
  past = quotient_past U;
}

abbrev pub projection : {q : Gf} {Q : Quiver} {X : Rep q Q} (U : Quotient X) → Hom X (quotient_rep U)
projection {q} {Q} {X} U = record {
  at = U.onto;
  square = λ a. sym (through_surjection (U.onto (Q.source a)) (U.surjective (Q.source a)).inverse (U.surjective (Q.source a)).is (X.mat a · U.onto (Q.target a)) (U.stable a));
}
