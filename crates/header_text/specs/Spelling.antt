-- How a header is spelled: the tokens of each of its lines. A vertex and an arrow are spelled by their names. A place past
-- the last of them has the empty name, so each header has a spelling.
use Rattle.std.specs.Prelude.{ℕ, List, [], ◌∷◌, ◌++◌, map, codes, decimal, slice_index_or, ◌==◌, if◌then◌else◌}
use Rattle.std.specs.List.{concat}
use Rattle.linear_algebra.specs.Field.{Gf, order}
use Rattle.quiver_paths.specs.declared.Arrow.{Arrow}
use Rattle.quiver_paths.specs.declared.Quiver.{Quiver}
use Rattle.quiver_paths.specs.declared.Path.{Path}
use Rattle.path_algebra.specs.declared.Term.{Term}
use Rattle.path_algebra.specs.declared.Relation.{Relation}
use Rattle.path_algebra.specs.declared.Header.{Header}
use Rattle.text_lines.specs.Parts.{joined}
use Rattle.text_lines.specs.Strict.{strict_line}

unfoldable pub vertex_name : Quiver → ℕ → List ℕ
vertex_name Q v = slice_index_or Q.vertices v []

unfoldable pub arrow_name : Quiver → ℕ → List ℕ
arrow_name Q a = slice_index_or (map (λ (x : Arrow). x.name) Q.arrows) a []

-- the names of arrows, joined by `.`
abbrev pub arrows_text : Quiver → List ℕ → List ℕ
arrows_text Q arrows = joined 46 (map (arrow_name Q) arrows)

-- a path: `@` and a vertex for the trivial path there, else its arrows joined by `.`
unfoldable pub path_text_from : Quiver → ℕ → List ℕ → List ℕ
path_text_from Q v [] = 64 ∷ vertex_name Q v
path_text_from Q v (a ∷ arrows) = arrows_text Q (a ∷ arrows)

abbrev pub path_text : Quiver → Path → List ℕ
path_text Q p = path_text_from Q p.start p.arrows

-- a coefficient C as `C*`, and 1 as nothing
abbrev pub coefficient_text : ℕ → List ℕ
coefficient_text c = if c == 1 then [] else decimal c ++ 42 ∷ []

-- a term: its coefficient and its path
abbrev pub term_text : Quiver → Term → List ℕ
term_text Q t = coefficient_text t.coef ++ path_text Q t.path

-- each of these tokens behind a `+`
abbrev pub plus_each : List (List ℕ) → List (List ℕ)
plus_each [] = []
plus_each (t ∷ ts) = (43 ∷ []) ∷ t ∷ plus_each ts

-- these tokens with a `+` between each two
abbrev pub plus_between : List (List ℕ) → List (List ℕ)
plus_between [] = []
plus_between (t ∷ ts) = t ∷ plus_each ts

-- the tokens behind the first one of each line
abbrev pub field_arguments : Gf → List (List ℕ)
field_arguments f = decimal (order f) ∷ []

abbrev pub vertex_arguments : List ℕ → List (List ℕ)
vertex_arguments name = name ∷ []

abbrev pub arrow_arguments : Quiver → Arrow → List (List ℕ)
arrow_arguments Q a = a.name ∷ vertex_name Q a.from ∷ vertex_name Q a.to ∷ []

abbrev pub bound_arguments : ℕ → List (List ℕ)
bound_arguments t = decimal t ∷ []

abbrev pub terms_arguments : Quiver → List Term → List (List ℕ)
terms_arguments Q terms = plus_between (map (term_text Q) terms)

-- the tokens of each line
abbrev pub field_line : Gf → List (List ℕ)
field_line f = codes "field" ∷ field_arguments f

abbrev pub vertex_line : List ℕ → List (List ℕ)
vertex_line name = codes "vertex" ∷ vertex_arguments name

abbrev pub arrow_line : Quiver → Arrow → List (List ℕ)
arrow_line Q a = codes "arrow" ∷ arrow_arguments Q a

abbrev pub bound_line : ℕ → List (List ℕ)
bound_line t = codes "bound" ∷ bound_arguments t

abbrev pub relation_line : Quiver → Relation → List (List ℕ)
relation_line Q r = codes "relation" ∷ terms_arguments Q r.terms

-- the lines of a header, in their order
abbrev pub header_lines : Header → List (List (List ℕ))
header_lines h = field_line h.field ∷ (map vertex_line h.quiver.vertices ++ (map (arrow_line h.quiver) h.quiver.arrows
    ++ (bound_line h.bound ∷ map (relation_line h.quiver) h.relations)))

-- the text of these lines, each with its line feed
abbrev pub text_of : List (List (List ℕ)) → List ℕ
text_of lines = concat (map strict_line lines)

-- the header as bytes
abbrev pub header_text : Header → List ℕ
header_text h = text_of (header_lines h)
