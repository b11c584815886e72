-- Images of rows in lent memory under square blocks.
use Rattle.std.specs.Prelude.{ℕ, ◌<◌, ◌≤◌, ◌+◌, ◌*◌, List, drop}
use Rattle.linear_algebra.specs.Field.{Gf}
use Rattle.linear_algebra.specs.Matrix.{Mat}
use Rattle.linear_algebra.specs.Parts.{row}
use Rattle.linear_algebra.specs.Rank.{IsInSpan, HasRightInverse}
use Rattle.representations.specs.Quiver.{Quiver}
use Rattle.representations.specs.Rep.{Rep}
use Rattle.local_modules.specs.ImageChain.{ProductsVanish}
use Rattle.local_modules.specs.MatrixAlgebra.{MatrixAlgebra}
use Rattle.local_checks.specs.Standing.{standing}

-- the square blocks that begin at one place of rows of a width
abbrev pub blocks_at : (q : Gf) (d width from : ℕ) → List ℕ → ℕ → Mat q d d
blocks_at q d width from s j = standing q d d (drop (j * width + from) s)

-- The rows of c are independent, and their span is the sum of those of a and b.
pub record IsSumOfSpans {q : Gf} {k l m n : ℕ} (a : Mat q k n) (b : Mat q l n) (c : Mat q m n) : Type 0 where
  pub independent : HasRightInverse c
  pub has_first : IsInSpan c a
  pub has_second : IsInSpan c b
  pub least : {t : ℕ} (f : Mat q t n) → IsInSpan f a → IsInSpan f b → IsInSpan f c

-- No number of members of the family has only products that are zero.
abbrev pub NeverVanish : {q : Gf} {d : ℕ} (k : ℕ) (g : ℕ → Mat q d d) → Type 0
NeverVanish k g = (t : ℕ) → ProductsVanish k g t → ⊥

abbrev pub NoneBefore : {q : Gf} {d : ℕ} (k : ℕ) (g : ℕ → Mat q d d) → ℕ → Type 0
NoneBefore k g i = (s : ℕ) → s < i → ProductsVanish k g s → ⊥

-- At the first n vertices all products of so many members of the ideal are zero, as from `most` on, and of fewer they are not at some.
pub record VanishUpTo {q : Gf} {Q : Quiver} {X : Rep q Q} (M : MatrixAlgebra X) {k : ℕ} (I : Mat q k M.size) (n most : ℕ) : Type 0 where
  pub zero : (v s : ℕ) → v < n → most ≤ s → ProductsVanish k (λ j. (M.element (row j I)).at v) s
  pub least : (t : ℕ) → ((v : ℕ) → v < n → ProductsVanish k (λ j. (M.element (row j I)).at v) t) → most ≤ t
