-- The relations of a header without their terms of the bound's length or more.
use Rattle.std.specs.Prelude.{ℕ, Bool, nat_lt, List, [], ◌∷◌, map}
use Rattle.std.specs.List.{filter}
use Rattle.quiver_paths.specs.Path.{path_length}
use Rattle.path_algebra.specs.declared.Term.{Term}
use Rattle.path_algebra.specs.declared.Relation.{Relation}
use Rattle.path_algebra.specs.declared.Header.{Header}

-- the term is shorter than the bound; such terms
abbrev pub is_short : ℕ → Term → Bool
is_short bound t = nat_lt (path_length t.path) bound

abbrev pub short_terms : ℕ → List Term → List Term
short_terms bound terms = filter (is_short bound) terms

-- the relation of its short terms; the relation itself where it has none
abbrev pub relation_or : Relation → List Term → Relation
relation_or rel [] = rel
relation_or rel (t ∷ terms) = record { terms = t ∷ terms }

abbrev pub kept_relation : ℕ → Relation → Relation
kept_relation bound rel = relation_or rel (short_terms bound rel.terms)

-- the header with these relations
abbrev pub short_header : Header → Header
short_header h = record { field = h.field; quiver = h.quiver; bound = h.bound; relations = map (kept_relation h.bound) h.relations }
