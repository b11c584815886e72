-- The header of one loop without relations, paths of three loops being zero, and its words.
use Rattle.std.specs.Prelude.{List, [], ◌∷◌}
use Rattle.linear_algebra.specs.Field.{Gf}
use Rattle.quiver_paths.specs.declared.Path.{Path}
use Rattle.path_algebra.specs.declared.Header.{Header}

abbrev pub one_loop : Gf → Header
one_loop f = record {
  field = f;
  quiver = record { vertices = (118 ∷ []) ∷ []; arrows = (record { name = 120 ∷ []; from = 0; to = 0 }) ∷ [] };
  bound = 3;
  relations = [];
}

abbrev pub loops : List Path
loops = (record { start = 0; end = 0; arrows = [] }) ∷ (record { start = 0; end = 0; arrows = 0 ∷ [] }) ∷ (record { start = 0; end = 0; arrows = 0 ∷ 0 ∷ [] }) ∷ []
