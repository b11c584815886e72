-- The cover of a submodule by its canonical generators. (Assem, Simson, Skowroński, volume 1, chapter I, 5.)
use Rattle.std.specs.Prelude.{ℕ, zero, ◌<◌, ◌≡◌, List, length, get_or}
use Rattle.linear_algebra.specs.Field.{Gf}
use Rattle.linear_algebra.specs.Parts.{row}
use Rattle.representations.specs.Quiver.{Quiver, BoundQuiver}
use Rattle.representations.specs.Rep.{Rep}
use Rattle.representations.specs.Hom.{Hom}
use Rattle.representations.specs.Submodule.{Submodule, sub_rep}
use Rattle.projectives.specs.Words.{Words, IsWordBasis}
use Rattle.projectives.specs.Families.{projectives}
use Rattle.projectives.specs.HomRows.{value}
use Rattle.projectives.specs.Canonical.{canonical_vertices, canonical_columns}

-- The sum of the projective modules at the vertices of a list.
abbrev pub vertex_in : List ℕ → ℕ → ℕ
vertex_in vs j = get_or vs j zero

abbrev pub projectives_at : {q : Gf} {Q : Quiver} → Words q Q → List ℕ → Rep q Q
projectives_at W vs = projectives W (length vs) (vertex_in vs)

-- f takes the generators to the canonical generators of the submodule U: in coordinates of X, to the rows of its basis at the columns where the
-- reduced row form of the radical of U has no pivot.
pub record IsCanonicalCover {q : Gf} (A : BoundQuiver) (W : Words q A.quiver) (B : IsWordBasis A W) {X : Rep q A.quiver} (U : Submodule X) (vs : List ℕ) (f : Hom (projectives_at W vs) X) : Type 0 where
  pub vertices : vs ≡ canonical_vertices (sub_rep U)
  pub generators : (j : ℕ) → j < length vs → value A W B (length vs) (vertex_in vs) f j ≡ row (get_or (canonical_columns (sub_rep U)) j zero) (U.basis (vertex_in vs j))
