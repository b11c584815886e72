-- The names of vertices and arrows by place.
use Rattle.std.proofs.Common.{◌≡◌, ◌≢◌, ℕ, ◌<◌, ◌≤◌, List, [], ◌∷◌, map, length, get_or, refl, ap}
use Rattle.std.proofs.lemmas.List.{get_or-map, get_or_default, get_or_past, length-map}
use Rattle.quiver_paths.specs.declared.Name.{Name}
use Rattle.quiver_paths.specs.declared.Arrow.{Arrow}
use Rattle.quiver_paths.specs.declared.Path.{Path}
use Rattle.quiver_paths.specs.declared.Quiver.{Quiver}
use Rattle.header_text.specs.Spelling.{vertex_name, arrow_name, arrows_text, path_text, path_text_from}

pub vertex_name-within : (Q : Quiver) (v : ℕ) (d : Name) → v < length Q.vertices → vertex_name Q v ≡ get_or Q.vertices v d
unfolding vertex_name
vertex_name-within Q v d h = get_or_default Q.vertices v [] d h

pub vertex_name-past : (Q : Quiver) (v : ℕ) → length Q.vertices ≤ v → vertex_name Q v ≡ []
unfolding vertex_name
vertex_name-past Q v h = get_or_past Q.vertices v [] h

pub arrow_name-within : (Q : Quiver) (a : ℕ) (d : Arrow) → a < length Q.arrows → arrow_name Q a ≡ (get_or Q.arrows a d).name
unfolding arrow_name
arrow_name-within Q a d h = get_or-map (λ (x : Arrow). x.name) Q.arrows a d [] h

pub arrow_name-past : (Q : Quiver) (a : ℕ) → length Q.arrows ≤ a → arrow_name Q a ≡ []
unfolding arrow_name
arrow_name-past Q a h = get_or_past (map (λ (x : Arrow). x.name) Q.arrows) a [] (rw length-map h)

pub path_text-trivial : (Q : Quiver) (p : Path) → p.arrows ≡ [] → path_text Q p ≡ 64 ∷ vertex_name Q p.start
unfolding path_text_from
path_text-trivial Q p h = ap (path_text_from Q p.start) h

from_arrows : (Q : Quiver) (v : ℕ) (xs : List ℕ) → xs ≢ [] → path_text_from Q v xs ≡ arrows_text Q xs
unfolding path_text_from
from_arrows Q v [] h = absurd (h refl)
from_arrows Q v (x ∷ xs) h = refl

pub path_text-arrows : (Q : Quiver) (p : Path) → p.arrows ≢ [] → path_text Q p ≡ arrows_text Q p.arrows
path_text-arrows Q p h = from_arrows Q p.start p.arrows h
