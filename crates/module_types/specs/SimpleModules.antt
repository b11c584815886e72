-- The simple module at a vertex: dimension 1 there, none elsewhere, and zero matrices. (Assem, Simson, Skowroński, volume 1, chapter III, 2.)
use Rattle.std.specs.Prelude.{ℕ, zero, ◌≤◌, ◌≡◌, cond}
use Rattle.std.proofs.Common.{ltb, le-ltb}
use Rattle.std.proofs.lemmas.Bool.{cond-false}
use Rattle.linear_algebra.specs.Field.{Gf}
use Rattle.linear_algebra.specs.Matrix.{zeros, delta}
use Rattle.representations.specs.Quiver.{Quiver}
use Rattle.representations.specs.Rep.{Rep}

unfoldable pub dim_of_simple : Quiver → ℕ → ℕ → ℕ
dim_of_simple Q v w = cond (ltb w Q.vertices) (delta v w) zero

pub dim_of_simple-past : (Q : Quiver) (v w : ℕ) → Q.vertices ≤ w → dim_of_simple Q v w ≡ zero
unfolding dim_of_simple
dim_of_simple-past Q v w h = cond-false (ltb w Q.vertices) (delta v w) zero (le-ltb w Q.vertices h)

abbrev pub simple : (q : Gf) (Q : Quiver) → ℕ → Rep q Q
simple q Q v = record {
  dim = dim_of_simple Q v;
  mat = λ a. zeros q (dim_of_simple Q v (Q.source a)) (dim_of_simple Q v (Q.target a));
  past = dim_of_simple-past Q v;
}
