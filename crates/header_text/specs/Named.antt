-- Quivers whose vertices and arrows can be told by their names, and their paths and coefficients.
use Rattle.std.specs.Prelude.{ℕ, ◌≡◌, ◌≢◌, ◌<◌, ◌≤◌, ◌++◌, List, [], length, All, AllPairs}
use Rattle.quiver_paths.specs.declared.Arrow.{Arrow}
use Rattle.quiver_paths.specs.declared.Name.{Name}
use Rattle.quiver_paths.specs.declared.Path.{Path}
use Rattle.quiver_paths.specs.declared.Quiver.{Quiver}
use Rattle.quiver_paths.specs.Quiver.{HasEnds, vertex_count, arrow_count}
use Rattle.quiver_paths.specs.Path.{IsPath}
use Rattle.quiver_paths.specs.Name.{IsName}
use Rattle.path_algebra.specs.declared.Term.{Term}
use Rattle.path_algebra.specs.declared.Header.{Header}
use Rattle.path_algebra.specs.Allowed.{IsArrowName, IsTerm, IsParallel}
use Rattle.text_lines.specs.Parts.{Lacks}
use Rattle.header_text.specs.Spelling.{coefficient_text}

-- at most 32 vertices and 128 arrows between them, and no name twice
pub record IsNamed (Q : Quiver) : Type 0 where
  pub vertices_limit : vertex_count Q ≤ 32
  pub arrows_limit : arrow_count Q ≤ 128
  pub ends : HasEnds Q
  pub vertex_names : All IsName Q.vertices
  pub arrow_names : All (λ (a : Arrow). IsArrowName a.name) Q.arrows
  pub vertices_differ : AllPairs (λ (a b : Name). a ≢ b) Q.vertices
  pub arrows_differ : AllPairs (λ (a b : Arrow). a.name ≢ b.name) Q.arrows

-- places of arrows, at least one
pub record IsArrows (Q : Quiver) (arrows : List ℕ) : Type 0 where
  pub some : arrows ≢ []
  pub places : All (λ a. a < arrow_count Q) arrows

-- a path that is not trivial
pub record IsLongPath (Q : Quiver) (p : Path) : Type 0 where
  pub path : IsPath Q p
  pub some : p.arrows ≢ []

-- a token is a coefficient from 1 to q − 1 and then the rest
pub record IsCoefficientThen (q : ℕ) (token : List ℕ) (c : ℕ) (rest : List ℕ) : Type 0 where
  pub nonzero : 0 < c
  pub small : c < q
  pub spelled : token ≡ coefficient_text c ++ rest
  pub plain : c ≡ 1 → Lacks 42 rest

-- terms of relations, at least one
pub record AreTerms (h : Header) (terms : List Term) : Type 0 where
  pub some : terms ≢ []
  pub all : All (IsTerm h) terms

-- what makes terms a relation: at most 64, parallel and all different
pub record AreRelated (terms : List Term) : Type 0 where
  pub few : length terms ≤ 64
  pub parallel : AllPairs (λ (a : Term) (b : Term). IsParallel a.path b.path) terms
  pub different : AllPairs (λ (a : Term) (b : Term). a.path ≢ b.path) terms
