-- What a header has to be: the rules that a script's header obeys.
use Rattle.std.specs.Prelude.{ℕ, ◌≡◌, ◌≢◌, ◌<◌, ◌≤◌, ◌&&◌, ◌||◌, Bool, List, length, All, AllPairs, IsTrue, nat_le, slice_index}
use Rattle.linear_algebra.specs.Field.{order}
use Rattle.quiver_paths.specs.declared.Path.{Path}
use Rattle.quiver_paths.specs.declared.Arrow.{Arrow}
use Rattle.quiver_paths.specs.declared.Name.{Name}
use Rattle.quiver_paths.specs.Path.{IsPath, path_length}
use Rattle.quiver_paths.specs.Quiver.{IsQuiver}
use Rattle.quiver_paths.specs.Name.{IsName}
use Rattle.path_algebra.specs.declared.Term.{Term}
use Rattle.path_algebra.specs.declared.Relation.{Relation}
use Rattle.path_algebra.specs.declared.Header.{Header}

-- a term of a relation: a coefficient from 1 to q − 1 and a path of length 2 to 64
pub record IsTerm (h : Header) (term : Term) : Type 0 where
  pub nonzero : 0 < term.coef
  pub small : term.coef < order h.field
  pub path : IsPath h.quiver term.path
  pub not_short : 2 ≤ path_length term.path
  pub not_long : path_length term.path ≤ 64

-- the paths start and end at the same vertices
pub record IsParallel (p r : Path) : Type 0 where
  pub starts : p.start ≡ r.start
  pub ends : p.end ≡ r.end

-- 1 to 64 terms, whose paths are parallel and all different
pub record IsRelation (h : Header) (r : Relation) : Type 0 where
  pub some : 0 < length r.terms
  pub few : length r.terms ≤ 64
  pub terms : All (IsTerm h) r.terms
  pub parallel : AllPairs (λ (a : Term) (b : Term). IsParallel a.path b.path) r.terms
  pub different : AllPairs (λ (a : Term) (b : Term). a.path ≢ b.path) r.terms

-- a letter
abbrev pub is_letter : ℕ → Bool
is_letter b = (nat_le 97 b && nat_le b 122) || (nat_le 65 b && nat_le b 90)

-- the name of an arrow begins with a letter
pub record IsArrowName (text : List ℕ) : Type 0 where
  pub name : IsName text
  pub letter : IsTrue (is_letter (slice_index text 0))

-- The header of a script: a quiver whose vertices have different names, and so have its arrows; a bound from 2 to 32; at most 256 relations.
pub record IsAllowed (h : Header) : Type 0 where
  pub quiver : IsQuiver h.quiver
  pub vertex_names : All IsName h.quiver.vertices
  pub arrow_names : All (λ (a : Arrow). IsArrowName a.name) h.quiver.arrows
  pub vertices_differ : AllPairs (λ (a b : Name). a ≢ b) h.quiver.vertices
  pub arrows_differ : AllPairs (λ (a b : Arrow). a.name ≢ b.name) h.quiver.arrows
  pub bound_from : 2 ≤ h.bound
  pub bound_to : h.bound ≤ 32
  pub few_relations : length h.relations ≤ 256
  pub relations : All (IsRelation h) h.relations
