-- Quivers: the ends of the arrows, read from the list.
use Rattle.std.proofs.Common.{ℕ, ◌≡◌, ◌<◌, ◌≤◌, List, length, get_or, [], sym, subst}
use Rattle.std.specs.Prelude.{All}
use Rattle.std.proofs.lemmas.List.{get_or-map}
use Rattle.quiver_paths.specs.declared.Arrow.{Arrow}
use Rattle.quiver_paths.specs.declared.Quiver.{Quiver}
use Rattle.quiver_paths.specs.Quiver.{vertex_count, arrow_count, source, target, HasEnds, IsQuiver}

pub source_is : (Q : Quiver) (a : ℕ) (d : Arrow) → a < arrow_count Q → source Q a ≡ (get_or Q.arrows a d).from
unfolding source
source_is Q a d h = get_or-map (λ (x : Arrow). x.from) Q.arrows a d (vertex_count Q) h

pub target_is : (Q : Quiver) (a : ℕ) (d : Arrow) → a < arrow_count Q → target Q a ≡ (get_or Q.arrows a d).to
unfolding target
target_is Q a d h = get_or-map (λ (x : Arrow). x.to) Q.arrows a d (vertex_count Q) h

-- the ends of an arrow of the list
pub from_below : (Q : Quiver) (a : ℕ) (d : Arrow) → HasEnds Q → a < arrow_count Q → (get_or Q.arrows a d).from < vertex_count Q
from_below Q a d e h = subst (λ (k : ℕ). k < vertex_count Q) (source_is Q a d h) (e.sources a h)

pub to_below : (Q : Quiver) (a : ℕ) (d : Arrow) → HasEnds Q → a < arrow_count Q → (get_or Q.arrows a d).to < vertex_count Q
to_below Q a d e h = subst (λ (k : ℕ). k < vertex_count Q) (target_is Q a d h) (e.targets a h)

abbrev no_arrow : Arrow
no_arrow = record { name = []; from = 0; to = 0 }

-- the ends are among the vertices where those of each arrow in the list are
pub HasEnds-from_all : (Q : Quiver) → All (λ (x : Arrow). (x.from < vertex_count Q) × (x.to < vertex_count Q)) Q.arrows → HasEnds Q
HasEnds-from_all Q h =
    record {
      sources = λ a l. subst (λ (k : ℕ). k < vertex_count Q) (sym (source_is Q a no_arrow l)) (h a no_arrow l).0;
      targets = λ a l. subst (λ (k : ℕ). k < vertex_count Q) (sym (target_is Q a no_arrow l)) (h a no_arrow l).1;
    }

pub all_from_HasEnds : (Q : Quiver) → HasEnds Q → All (λ (x : Arrow). (x.from < vertex_count Q) × (x.to < vertex_count Q)) Q.arrows
all_from_HasEnds Q e = λ a d l. (from_below Q a d e l, to_below Q a d e l)

-- the ends of an arrow are below n
abbrev pub EndsBelow : ℕ → Arrow → Type 0
EndsBelow n x = (x.from < n) × (x.to < n)

pub IsQuiver-from_lists : (vertices : List (List ℕ)) (arrows : List Arrow) → 0 < length vertices → length vertices ≤ 32 → length arrows ≤ 128 → All (EndsBelow (length vertices)) arrows → IsQuiver record { vertices = vertices; arrows = arrows }
IsQuiver-from_lists vertices arrows some few short ends =
    record {
      has_vertex = some;
      vertices_limit = few;
      arrows_limit = short;
      ends = HasEnds-from_all record { vertices = vertices; arrows = arrows } ends;
    }
