-- What has been read of a script, which lines may follow it, and what is read with them.
use Rattle.std.specs.Prelude.{ℕ, ◌≡◌, ◌≢◌, ◌<◌, ◌≤◌, Bool, true, false, IsTrue, IsSome, List, [], ◌∷◌, ◌++◌, length, All, slice_index, position, unwrap_or, if◌then◌else◌}
use Rattle.std.specs.declared.option.Option.{Option}
use Rattle.linear_algebra.specs.Field.{Gf}
use Rattle.quiver_paths.specs.declared.naming.Name.{Name}
use Rattle.quiver_paths.specs.declared.Arrow.{Arrow}
use Rattle.quiver_paths.specs.Quiver.{vertex_count, arrow_count}
use Rattle.path_algebra.specs.declared.Relation.{Relation}
use Rattle.path_algebra.specs.Allowed.{IsRelation, is_letter}
use Rattle.script_types.specs.declared.AtLine.{AtLine}
use Rattle.script_types.specs.declared.Statement.{Statement}
use Rattle.script_types.specs.declared.StatementKind.{StatementKind}
use Rattle.script_types.specs.declared.StatementKind.TheVariants.{Rep, Map}
use Rattle.script_lang.specs.declared.line.Line.{Line}
use Rattle.script_lang.specs.declared.line.Line.TheVariants as line
use Rattle.script_lang.specs.declared.part.Place.{Place}
use Rattle.script_lang.specs.declared.part.Place.TheVariants.{Start, Vertices, Arrows, Relations, Body, Block}
use Rattle.script_lang.specs.declared.part.Part.{Part}
use Rattle.script_lang.specs.Tokens.{is_word}

-- what holds of each part: at most 32 vertices and 128 arrows
pub record IsSmall (p : Part) : Type 0 where
  pub vertices : vertex_count p.header.quiver ≤ 32
  pub arrows : arrow_count p.header.quiver ≤ 128

-- ---- field

abbrev pub FitsField : Part → Type 0
FitsField p = p.place ≡ Start

abbrev pub with_field : Part → Gf → Part
with_field p f = record p { place = Vertices; header = record p.header { field = f } }

-- ---- vertex

pub record FitsVertex (p : Part) (name : List ℕ) : Type 0 where
  pub place : p.place ≡ Vertices
  pub room : vertex_count p.header.quiver < 32
  pub new : All (λ (n : Name). n ≢ name) p.header.quiver.vertices

abbrev pub with_vertices : Part → List Name → Part
with_vertices p names = record p { header = record p.header { quiver = record p.header.quiver { vertices = names } } }

abbrev pub with_vertex : Part → List ℕ → Part
with_vertex p name = with_vertices p (p.header.quiver.vertices ++ name ∷ [])

-- ---- arrow

-- arrows and the bound may follow
abbrev pub awaits_arrows : Place → Bool
awaits_arrows Vertices = true
awaits_arrows Arrows = true
awaits_arrows other = false

-- the place of the vertex with this name
abbrev pub vertex_place : List Name → List ℕ → Option ℕ
vertex_place names name = position (λ (n : Name). is_word n name) names

pub record FitsArrow (p : Part) (name from to : List ℕ) : Type 0 where
  pub place : IsTrue (awaits_arrows p.place)
  pub room : arrow_count p.header.quiver < 128
  pub new : All (λ (a : Arrow). a.name ≢ name) p.header.quiver.arrows
  pub starts : IsSome (vertex_place p.header.quiver.vertices from)
  pub ends : IsSome (vertex_place p.header.quiver.vertices to)

abbrev pub place_or_first : Option ℕ → ℕ
place_or_first r = unwrap_or r 0

abbrev pub with_arrows : Part → List Arrow → Part
with_arrows p arrows = record p { place = Arrows; header = record p.header { quiver = record p.header.quiver { arrows = arrows } } }

abbrev pub with_arrow : Part → List ℕ → List ℕ → List ℕ → Part
with_arrow p name from to =
    let v = place_or_first (vertex_place p.header.quiver.vertices from) in
    let w = place_or_first (vertex_place p.header.quiver.vertices to) in
    let a : Arrow = record { name = name; from = v; to = w } in
    with_arrows p (p.header.quiver.arrows ++ a ∷ [])

-- ---- bound

pub record FitsBound (p : Part) (t : ℕ) : Type 0 where
  pub place : IsTrue (awaits_arrows p.place)
  pub has_vertex : 0 < vertex_count p.header.quiver
  pub from : 2 ≤ t
  pub to : t ≤ 32

abbrev pub with_bound : Part → ℕ → Part
with_bound p t = record p { place = Relations; header = record p.header { bound = t }; bound_line = p.lines }

-- ---- relation

pub record FitsRelation (p : Part) (r : Relation) : Type 0 where
  pub place : p.place ≡ Relations
  pub room : length p.header.relations < 256
  pub relation_is : IsRelation p.header r

abbrev pub with_relation : Part → Relation → Part
with_relation p r = record p { header = record p.header { relations = p.header.relations ++ r ∷ [] } }

-- ---- basis

abbrev pub FitsBasis : Part → Type 0
FitsBasis p = p.place ≡ Relations

abbrev pub with_basis : Part → Part
with_basis p = record p { place = Body; basis_line = p.lines }

-- ---- statements

abbrev pub FitsStatement : Part → Type 0
FitsStatement p = p.place ≡ Body

-- lines `at` follow, up to a line `end`
abbrev pub opens : StatementKind → Bool
opens (Rep name dims lines) = true
opens (Map name a b lines) = true
opens other = false

abbrev pub with_statement : Part → StatementKind → Part
with_statement p k =
    let s : Statement = record { line = p.lines; kind = k } in
    if opens k then record p { place = Block s } else record p { statements = p.statements ++ s ∷ [] }

-- the line `at` may stand in the statement: in a `rep` it names an arrow, in a `map` a vertex
abbrev pub kind_takes : StatementKind → AtLine → Bool
kind_takes (Rep name dims lines) l = is_letter (slice_index l.name 0)
kind_takes (Map name a b lines) l = true
kind_takes other l = false

abbrev pub takes_at : Place → AtLine → Bool
takes_at (Block s) l = kind_takes s.kind l
takes_at other l = false

abbrev pub FitsAt : Part → AtLine → Type 0
FitsAt p l = IsTrue (takes_at p.place l)

abbrev pub kind_with : StatementKind → AtLine → StatementKind
kind_with (Rep name dims lines) l = Rep name dims (lines ++ l ∷ [])
kind_with (Map name a b lines) l = Map name a b (lines ++ l ∷ [])
kind_with other l = other

abbrev pub place_with : Place → AtLine → Place
place_with (Block s) l = Block (record { line = s.line; kind = kind_with s.kind l })
place_with other l = other

abbrev pub with_at : Part → AtLine → Part
with_at p l = record p { place = place_with p.place l }

abbrev pub is_block : Place → Bool
is_block (Block s) = true
is_block other = false

abbrev pub FitsEnd : Part → Type 0
FitsEnd p = IsTrue (is_block p.place)

-- the statement that ends here
abbrev pub closed : Place → List Statement
closed (Block s) = s ∷ []
closed other = []

abbrev pub with_end : Part → Part
with_end p = record p { place = Body; statements = p.statements ++ closed p.place }

-- ---- all lines

-- the line may follow
abbrev pub MayFollow : Part → Line → Type 0
MayFollow p (line.Field f) = FitsField p
MayFollow p (line.Vertex n) = FitsVertex p n
MayFollow p (line.Arrow n v w) = FitsArrow p n v w
MayFollow p (line.Bound t) = FitsBound p t
MayFollow p (line.Relation r) = FitsRelation p r
MayFollow p line.Basis = FitsBasis p
MayFollow p (line.Statement k) = FitsStatement p
MayFollow p (line.At l) = FitsAt p l
MayFollow p line.End = FitsEnd p

-- what has been read with it
abbrev pub after : Part → Line → Part
after p (line.Field f) = with_field p f
after p (line.Vertex n) = with_vertex p n
after p (line.Arrow n v w) = with_arrow p n v w
after p (line.Bound t) = with_bound p t
after p (line.Relation r) = with_relation p r
after p line.Basis = with_basis p
after p (line.Statement k) = with_statement p k
after p (line.At l) = with_at p l
after p line.End = with_end p
