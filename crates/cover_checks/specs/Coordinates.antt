-- Subspaces at the vertices by bases in reduced row form, in the coordinates of these bases, whether arrows lead out of them or not.
-- (Assem, Simson, Skowroński, volume 1, chapter III, 1.)
use Rattle.std.specs.Prelude.{ℕ, zero, ◌≤◌, ◌≡◌}
use Rattle.std.proofs.Common.{arith, ◌∙◌}
use Rattle.linear_algebra.specs.Field.{Gf}
use Rattle.linear_algebra.specs.Matrix.{Mat, one, delta-same, delta-other, ◌·◌}
use Rattle.linear_algebra.specs.MatrixLaws.{one-at}
use Rattle.linear_algebra.specs.RowForm.{IsRowReduced, selector}
use Rattle.linear_algebra.proofs.RowForm.{mul_selector}
use Rattle.linear_algebra.proofs.Steinitz.{steinitz}
use Rattle.representations.specs.Quiver.{Quiver}
use Rattle.representations.specs.Rep.{Rep}

-- the unit matrix
pub one_is_reduced : (q : Gf) (n : ℕ) → IsRowReduced (one q n) (λ i. i)
one_is_reduced q n = record {
  inside = λ i l. l;
  one = λ i l. one-at q n i i l ∙ delta-same i;
  before = λ i j l b. one-at q n i j l ∙ delta-other i j (λ e. omega arith);
  further = λ i k l b. l;
  cleared = λ i k l b d. one-at q n k i b ∙ delta-other k i d;
}

module _ {q : Gf} {Q : Quiver} (Y : Rep q Q) (size : ℕ → ℕ) (basis : (w : ℕ) → Mat q (size w) (Y.dim w)) (pivot : ℕ → ℕ → ℕ) (reduced : (w : ℕ) → IsRowReduced (basis w) (pivot w)) where
  -- the coordinates of rows: their entries at the pivots
  abbrev pub coordinates : (w : ℕ) {k : ℕ} → Mat q k (Y.dim w) → Mat q k (size w)
  coordinates w y = y · selector q (Y.dim w) (size w) (pivot w)

  pub size_past : (w : ℕ) → Q.vertices ≤ w → size w ≡ zero
  size_past w h = let none = Y.past w h in let fewer = steinitz (basis w) (selector q (Y.dim w) (size w) (pivot w)) (mul_selector (basis w) (pivot w) (reduced w)) in omega arith

  -- each arrow by the coordinates of what it makes of the basis
  abbrev pub coordinate_rep : Rep q Q
  coordinate_rep = record { dim = size; mat = λ a. coordinates (Q.target a) (basis (Q.source a) · Y.mat a); past = size_past }
