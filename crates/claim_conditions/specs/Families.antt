-- Families of matrices, one at each vertex, from one representation to another: whether they need be a homomorphism or not.
use Rattle.std.specs.Prelude.{ℕ, ◌≡◌, ◌+◌, List}
use Rattle.linear_algebra.specs.Field.{Gf}
use Rattle.linear_algebra.specs.Matrix.{Mat, zeros, one, ◌·◌}
use Rattle.linear_algebra.specs.RowForm.{IsRowReduced, IsCoReduced}
use Rattle.linear_algebra.specs.Ranks.{rank}
use Rattle.fp_linear.specs.Matrix.{PlainMatrix}
use Rattle.representations.specs.Quiver.{Quiver}
use Rattle.representations.specs.Rep.{Rep}
use Rattle.representations.specs.Hom.{Hom}
use Rattle.module_types.specs.Readings.{family_of}

abbrev pub Family : {q : Gf} {Q : Quiver} → Rep q Q → Rep q Q → Type 0
Family {q} X Y = (w : ℕ) → Mat q (X.dim w) (Y.dim w)

-- in reduced row form at each vertex
abbrev pub AreReduced : {q : Gf} {Q : Quiver} (X Y : Rep q Q) → Family X Y → Type 0
AreReduced X Y f = (w : ℕ) → (pivot : ℕ → ℕ) × IsRowReduced (f w) pivot

-- co-reduced at each vertex: row `place i` is the unit row i, and below it column i is zero
abbrev pub AreCoReduced : {q : Gf} {Q : Quiver} (X Y : Rep q Q) → Family X Y → Type 0
AreCoReduced X Y f = (w : ℕ) → (place : ℕ → ℕ) × IsCoReduced (f w) place

-- first f, then g: zero
abbrev pub ComposeToZero : {q : Gf} {Q : Quiver} (X Y Z : Rep q Q) → Family X Y → Family Y Z → Type 0
ComposeToZero {q} X Y Z f g = (w : ℕ) → f w · g w ≡ zeros q (X.dim w) (Z.dim w)

-- first f, then g: the identities
abbrev pub ComposeToOne : {q : Gf} {Q : Quiver} (X Y : Rep q Q) → Family X Y → Family Y X → Type 0
ComposeToOne {q} X Y f g = (w : ℕ) → f w · g w ≡ one q (X.dim w)

-- The dimensions of N are those of the kernel of f : X → Y; those of its cokernel.
abbrev pub HasKernelSize : {q : Gf} {Q : Quiver} (N X Y : Rep q Q) → Family X Y → Type 0
HasKernelSize N X Y f = (w : ℕ) → N.dim w + rank (f w) ≡ X.dim w

abbrev pub HasCokernelSize : {q : Gf} {Q : Quiver} (X Y N : Rep q Q) → Family X Y → Type 0
HasCokernelSize X Y N f = (w : ℕ) → rank (f w) + N.dim w ≡ Y.dim w

-- The homomorphism has the printed matrices.
abbrev pub HasMatrices : {q : Gf} {Q : Quiver} {X Y : Rep q Q} → Hom X Y → List PlainMatrix → Type 0
HasMatrices {X = X} {Y = Y} f matrices = (w : ℕ) → f.at w ≡ family_of X Y matrices w
