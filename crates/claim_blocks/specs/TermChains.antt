-- Terms one behind the other, each of which goes to the one before.
-- (Assem, Simson, Skowroński, volume 1, chapter I, 5, and III, 2.)
use Rattle.std.specs.Prelude.{ℕ, ⊤, ◌<◌, ◌≤◌, ◌^◌, List, [], ◌∷◌, length}
use Rattle.linear_algebra.specs.BlockFamilies.{total}
use Rattle.linear_algebra.specs.Field.{Gf}
use Rattle.quiver_paths.specs.declared.Path.{Path}
use Rattle.representations.specs.Quiver.{Quiver}
use Rattle.module_types.specs.declared.Side.{Side}
use Rattle.module_types.specs.declared.TermRows.{TermRows}
use Rattle.module_types.specs.Shapes.{IsTerm}
use Rattle.report_types.specs.Limits.{term_limit}
use Rattle.report_types.specs.WordDimensions.{projective_dim}

module _ (q : Gf) (Q : Quiver) (words : List Path) (side : Side) where
  -- a term that goes to what has these dimensions
  pub record IsNextTerm (dim : ℕ → ℕ) (t : TermRows) : Type 0 where
    pub few : length t.vertices < 2 ^ 32
    pub term : IsTerm q Q dim t
    pub small : total Q.vertices (projective_dim words side t.vertices) ≤ term_limit

  -- terms of which the first goes to what has these dimensions, and what the next one goes to
  abbrev pub AreNextTerms : (dim : ℕ → ℕ) → List TermRows → Type 0
  AreNextTerms dim [] = ⊤
  AreNextTerms dim (t ∷ rest) = IsNextTerm dim t × AreNextTerms (projective_dim words side t.vertices) rest

  abbrev pub last_dim : (dim : ℕ → ℕ) → List TermRows → ℕ → ℕ
  last_dim dim [] = dim
  last_dim dim (t ∷ rest) = last_dim (projective_dim words side t.vertices) rest
