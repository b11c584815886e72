-- Small settings, on which the tables are computed: over the field of two elements, and the quiver of one arrow a from vertex 1 to vertex 2, with bound 2;
-- or that of one loop.
use Rattle.std.specs.Prelude.{ℕ, zero, suc, List, [], ◌∷◌, ◌++◌}
use Rattle.linear_algebra.specs.Field.{f2}
use Rattle.fp_linear.specs.Matrix.{PlainMatrix, plain, zero_rows}
use Rattle.quiver_paths.specs.declared.Path.{Path}
use Rattle.quiver_paths.specs.declared.Quiver.{Quiver}
use Rattle.quiver_paths.specs.declared.names.Reference.{Reference}
use Rattle.quiver_paths.specs.declared.names.Suffix.TheVariants as suffix
use Rattle.path_algebra.specs.declared.Header.{Header}
use Rattle.path_algebra.specs.declared.Relation.{Relation}
use Rattle.module_types.specs.declared.Side.{Side}
use Rattle.module_types.specs.declared.Side.TheVariants.{Right, Left}
use Rattle.module_types.specs.declared.Module.{Module}
use Rattle.module_types.specs.declared.Map.{Map}
use Rattle.module_types.specs.declared.TermRows.{TermRows}
use Rattle.module_types.specs.Algebras.{algebra_at}
use Rattle.module_types.specs.Written.{block_sum_of}
use Rattle.claim_conditions.specs.declared.Residue.TheVariants.{Frobenius}
use Rattle.script_types.specs.declared.AtLine.{AtLine}
use Rattle.script_types.specs.declared.StatementKind.{StatementKind}
use Rattle.report_types.specs.declared.claims.Claim.{Claim}
use Rattle.report_types.specs.declared.claims.Claim.TheVariants as claim
use Rattle.report_types.specs.declared.claims.PartClaim.{PartClaim}
use Rattle.report_types.specs.declared.claims.Record.{Record}
use Rattle.report_types.specs.Numbers.{maps_of, numbered, no_map}
use Rattle.script_answers.specs.declared.bound.Bound.TheVariants.{Whole, Arrow}
use Rattle.script_answers.specs.Names.{Names, map_named}
use Rattle.script_answers.specs.Settings.{Setting, number}
use Rattle.script_answers.specs.Statements.{binds}

-- ---- names

-- the names of the vertices and of the arrow; one that is none of them
abbrev pub vertex_one : List ℕ
vertex_one = 49 ∷ []

abbrev pub vertex_two : List ℕ
vertex_two = 50 ∷ []

abbrev pub vertex_three : List ℕ
vertex_three = 51 ∷ []

abbrev pub arrow_a : List ℕ
arrow_a = 97 ∷ []

-- the name of a loop
abbrev pub arrow_x : List ℕ
arrow_x = 120 ∷ []

-- the names A and B of modules, F of a map, and names that are new: X, N and E
abbrev pub name_A : List ℕ
name_A = 65 ∷ []

abbrev pub name_B : List ℕ
name_B = 66 ∷ []

abbrev pub name_F : List ℕ
name_F = 70 ∷ []

abbrev pub name_X : List ℕ
name_X = 88 ∷ []

abbrev pub name_N : List ℕ
name_N = 78 ∷ []

abbrev pub name_E : List ℕ
name_E = 69 ∷ []

-- references: a name alone, with .map, with .inv, and with a number
abbrev pub to : List ℕ → Reference
to name = record { name = name; suffix = suffix.Whole }

abbrev pub to_map : List ℕ → Reference
to_map name = record { name = name; suffix = suffix.Map }

abbrev pub to_inverse : List ℕ → Reference
to_inverse name = record { name = name; suffix = suffix.Inv }

abbrev pub to_part : List ℕ → ℕ → Reference
to_part name k = record { name = name; suffix = suffix.Part k }

-- ---- settings

abbrev pub small_header : Header
small_header = record {
  field = f2;
  quiver = record { vertices = vertex_one ∷ (vertex_two ∷ []); arrows = record { name = arrow_a; from = 0; to = 1 } ∷ [] };
  bound = 2;
  relations = [];
}

-- the path along the arrow; the words of the algebra; so many copies of the path in their place
abbrev pub path_a : Path
path_a = record { start = 0; end = 1; arrows = 0 ∷ [] }

abbrev pub small_words : List Path
small_words = record { start = 0; end = 0; arrows = [] } ∷ (record { start = 1; end = 1; arrows = [] } ∷ (path_a ∷ []))

abbrev pub copies : ℕ → List Path
copies zero = []
copies (suc n) = path_a ∷ copies n

-- a module of a side that has a dimension at vertex 1 alone; one that has dimension 1 at both vertices, and this entry at the arrow
abbrev pub at_one : Side → ℕ → Module
at_one Right m = record { side = Right; dims = m ∷ (0 ∷ []); matrices = plain f2 m 0 (zero_rows m 0) ∷ [] }
at_one Left m = record { side = Left; dims = m ∷ (0 ∷ []); matrices = plain f2 0 m [] ∷ [] }

abbrev pub along_arrow : ℕ → Module
along_arrow x = record { side = Right; dims = 1 ∷ (1 ∷ []); matrices = plain f2 1 1 ((x ∷ []) ∷ []) ∷ [] }

-- a line at a name, with one entry; one without a matrix
abbrev pub line_at : List ℕ → ℕ → AtLine
line_at name x = record { name = name; rows = (x ∷ []) ∷ [] }

abbrev pub bare_line_at : List ℕ → AtLine
bare_line_at name = record { name = name; rows = [] }

-- a map from a module to a module, named by their numbers
abbrev pub goes : ℕ → ℕ → Map
goes source target = record { source = source; target = target; matrices = [] }

-- the modules 1 and 2 are named A and B, and map 1, which goes from A to B, is named F; four claims were printed
abbrev pub with_words : List Path → Module → Module → Setting
with_words words a b = record {
  header = small_header;
  words = words;
  names = (name_A, Whole 1) ∷ ((name_B, Whole 2) ∷ ((name_F, Arrow 1) ∷ []));
  modules = a ∷ (b ∷ []);
  maps = goes 1 2 ∷ [];
  claims = 4;
}

abbrev pub two_modules : Module → Module → Setting
two_modules a b = with_words small_words a b

-- A and B are simple
abbrev pub two_simple : Setting
two_simple = two_modules (at_one Right 1) (at_one Right 1)

-- the names bound behind a statement with its records, and all maps that are then printed
abbrev pub names_behind : Setting → StatementKind → List Record → Names
names_behind at kind records = at.names ++ binds at kind records

abbrev pub map_behind : Setting → StatementKind → List Record → Reference → Map
map_behind at kind records r = numbered no_map (at.maps ++ maps_of records) (number (map_named (names_behind at kind records) r))

-- One vertex, and one loop x at it, with this bound and these relations; nothing is named.
abbrev pub loop_quiver : Quiver
loop_quiver = record { vertices = vertex_one ∷ []; arrows = record { name = arrow_x; from = 0; to = 0 } ∷ [] }

abbrev pub loop_header : ℕ → List Relation → Header
loop_header bound relations = record { field = f2; quiver = loop_quiver; bound = bound; relations = relations }

abbrev pub with_loop : ℕ → List Relation → Setting
with_loop bound relations = record { header = loop_header bound relations; words = []; names = []; modules = []; maps = []; claims = 1 }

-- the path x.x; the relations that x.x and that x.x.x is zero
abbrev pub path_xx : Path
path_xx = record { start = 0; end = 0; arrows = 0 ∷ 0 ∷ [] }

abbrev pub relation_xx : Relation
relation_xx = record { terms = record { coef = 1; path = path_xx } ∷ [] }

abbrev pub relation_xxx : Relation
relation_xxx = record { terms = record { coef = 1; path = record { start = 0; end = 0; arrows = 0 ∷ 0 ∷ 0 ∷ [] } } ∷ [] }

-- a term whose generators stand at these vertices
abbrev pub term_of : List ℕ → TermRows
term_of vertices = record { vertices = vertices; images = [] }

-- ---- records

abbrev pub no_rows : PlainMatrix
no_rows = plain f2 0 0 []

-- a record that prints nothing; that prints modules; that prints a module and a map
abbrev pub claims_only : Claim → Record
claims_only c = record { line = 9; modules = []; maps = []; claim = c }

abbrev pub with_module : Module → Claim → Record
with_module m c = record { line = 9; modules = m ∷ []; maps = []; claim = c }

abbrev pub with_map : Map → Claim → Record
with_map f c = record { line = 9; modules = at_one Right 0 ∷ []; maps = f ∷ []; claim = c }

abbrev pub local_by : ℕ → ℕ → Claim
local_by a hom = claim.Local a hom no_rows 1 Frobenius

-- the last record of a decomposition of module 1 into these parts, which are simple: the sum has number n, and these are its maps
abbrev pub sums_to : ℕ → Map → Map → List Module → List PartClaim → Record
sums_to n to back printed parts = record {
  line = 9;
  modules = block_sum_of f2 (algebra_at Right small_header).quiver Right printed ∷ [];
  maps = to ∷ (back ∷ []);
  claim = claim.Decomposition 1 n 2 3 parts;
}

-- of A, whose dimension is 2, into two simple parts, with these two maps; of A, which is zero, into none
abbrev pub two_parts : Map → Map → List Record
two_parts to back =
    with_module (at_one Right 1) (claim.Hom 3 3 no_rows) ∷ (claims_only (local_by 3 5) ∷ (with_module (at_one Right 1) (claim.Hom 4 4 no_rows)
    ∷ (claims_only (local_by 4 7) ∷ (sums_to 5 to back (at_one Right 1 ∷ (at_one Right 1 ∷ []))
    (record { «module» = 3; local = 6 } ∷ (record { «module» = 4; local = 8 } ∷ [])) ∷ []))))

abbrev pub no_parts : List Record
no_parts = sums_to 3 (goes 3 1) (goes 1 3) [] [] ∷ []

-- an almost split sequence that ends in module 1
abbrev pub sequence_records : List Record
sequence_records =
    claims_only (claim.Hom 1 1 no_rows) ∷ (claims_only (local_by 1 5) ∷ (claims_only (claim.Resolution 1 1 [])
    ∷ (record {
      line = 9;
      modules = at_one Right 1 ∷ (at_one Right 2 ∷ []);
      maps = goes 3 4 ∷ (goes 4 1 ∷ []);
      claim = claim.AlmostSplit 3 4 1 2 3 7 6 [] [] [];
    } ∷ [])))
