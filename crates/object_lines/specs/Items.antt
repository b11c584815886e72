-- What the lines of modules, maps, matrices, rows and terms say, and when a line may say it.
use Rattle.std.specs.Prelude.{ℕ, ◌≡◌, ◌<◌, ◌≤◌, ◌^◌, List, length, All}
use Rattle.quiver_paths.specs.Quiver.{vertex_count}
use Rattle.path_algebra.specs.declared.Header.{Header}
use Rattle.path_algebra.specs.Derivations.{IsNumber}
use Rattle.module_types.specs.Shapes.{dimension, most_dimension}
use Rattle.object_lines.specs.Spelling.{module_line}
use Rattle.object_lines.specs.Reading.{IsAtMost, IsVertex}
use Rattle.object_lines.specs.declared.objects.ModuleHead.{ModuleHead}

-- so many numbers, each at most as large
pub record AreNumbers (most count : ℕ) (numbers : List ℕ) : Type 0 where
  pub counted : length numbers ≡ count
  pub small : All (IsAtMost most) numbers

-- the side and the dimensions of a module over the quiver, of at most the largest dimension
pub record FitsModule (h : Header) (m : ModuleHead) : Type 0 where
  pub counted : length m.dims ≡ vertex_count h.quiver
  pub small : dimension m.dims ≤ most_dimension

abbrev pub head_line : ℕ → ModuleHead → List (List ℕ)
head_line k m = module_line k m.side m.dims

-- the numbers of two modules, of so many
pub record FitsMap (modules source target : ℕ) : Type 0 where
  pub from : IsNumber modules source
  pub to : IsNumber modules target

-- the vertices of generators, of which some may be the same
pub record FitsTerm (h : Header) (vertices : List ℕ) : Type 0 where
  pub few : length vertices < 2 ^ 64
  pub places : All (IsVertex h.quiver) vertices
