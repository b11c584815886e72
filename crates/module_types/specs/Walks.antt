-- Rows along arrows, one arrow after another. (Assem, Simson, Skowroński, volume 1, chapter III, 1.)
use Rattle.std.specs.Prelude.{ℕ, List, [], ◌∷◌}
use Rattle.linear_algebra.specs.Field.{Gf, mul}
use Rattle.linear_algebra.specs.Sums.{sum_to}
use Rattle.representations.specs.Quiver.{Quiver}
use Rattle.representations.specs.Rep.{Rep}

module _ {q : Gf} {Q : Quiver} (X : Rep q Q) where
  -- the entries of a row times the matrix of an arrow
  unfoldable pub step : ℕ → (ℕ → ℕ) → ℕ → ℕ
  step a f j = sum_to q (X.dim (Q.source a)) (λ t. mul q (f t) ((X.mat a).at t j))

  -- along arrows from the first to the last, and from the last to the first
  abbrev pub walk : (ℕ → ℕ) → List ℕ → ℕ → ℕ
  walk f [] = f
  walk f (a ∷ arrows) = walk (step a f) arrows

  abbrev pub walk_back : (ℕ → ℕ) → List ℕ → ℕ → ℕ
  walk_back f [] = f
  walk_back f (a ∷ arrows) = step a (walk_back f arrows)
