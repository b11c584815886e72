-- The generator of the projective module at a vertex, and matrices by their rows. (Assem, Simson, Skowroński, volume 1, chapter III, 2.)
use Rattle.std.specs.Prelude.{ℕ, zero, ◌<◌, ◌≡◌, cond, ltb, refl}
use Rattle.std.proofs.Common.{le-ltb}
use Rattle.std.proofs.lemmas.Bool.{cond-false, cond_both}
use Rattle.linear_algebra.specs.Field.{Gf, order}
use Rattle.linear_algebra.specs.FieldLaws.{order-pos}
use Rattle.linear_algebra.specs.Matrix.{Mat, Row}
use Rattle.linear_algebra.specs.Parts.{unit}
use Rattle.representations.specs.Quiver.{BoundQuiver}
use Rattle.projectives.specs.Words.{Words, IsWordBasis}

-- The matrix of the rows r 0, r 1, .., r (m − 1).
unfoldable pub of_rows : {q : Gf} {n : ℕ} (m : ℕ) → (ℕ → Row q n) → Mat q m n
of_rows {q} {n} m r = record {
  at = λ i j. cond (ltb i m) ((r i).at 0 j) zero;
  fits = record {
    small = λ i j. cond_both (ltb i m) ((r i).at 0 j) zero (λ x. x < order q) (λ e. (r i).fits.small 0 j) (λ e. order-pos q);
    below = λ i j h. cond-false (ltb i m) ((r i).at 0 j) zero (le-ltb i m h);
    right = λ i j h. cond_both (ltb i m) ((r i).at 0 j) zero (λ x. x ≡ zero) (λ e. (r i).fits.right 0 j h) (λ e. refl);
  };
}

-- The generator: the trivial path at v.
abbrev pub generator : {q : Gf} (A : BoundQuiver) (W : Words q A.quiver) → IsWordBasis A W → (v : ℕ) → Row q (W.count v v)
generator {q} A W B v = unit q (W.count v v) (B.place v)
