-- What a reader of headers has read so far, and which lines may follow it.
use Rattle.std.specs.Prelude.{ℕ, ◌≡◌, ◌≢◌, ◌<◌, ◌≤◌, Bool, true, false, List, [], ◌∷◌, ◌++◌, length, All, map, ◌==◌, if◌then◌else◌}
use Rattle.linear_algebra.specs.Field.{f2}
use Rattle.quiver_paths.specs.declared.Arrow.{Arrow}
use Rattle.quiver_paths.specs.declared.Name.{Name}
use Rattle.quiver_paths.specs.declared.Quiver.{Quiver}
use Rattle.quiver_paths.specs.Quiver.{vertex_count}
use Rattle.quiver_paths.specs.Name.{IsName}
use Rattle.path_algebra.specs.declared.Relation.{Relation}
use Rattle.path_algebra.specs.declared.Header.{Header}
use Rattle.path_algebra.specs.Allowed.{IsRelation, IsArrowName}
use Rattle.text_lines.specs.Forms.{StepByForm}
use Rattle.text_lines.specs.Strict.{strict_tokens}
use Rattle.header_text.specs.declared.forms.Form.{Form}
use Rattle.header_text.specs.declared.forms.Form.TheVariants.{Field, Vertex, Arrow as ArrowForm, Bound, Relation as RelationForm}
use Rattle.header_text.specs.Named.{IsNamed}
use Rattle.header_text.specs.Spelling.{field_line, vertex_line, arrow_line, bound_line, relation_line}

-- A front of a header: whether its field was read, and what was read. Before the field is read it is any field; before the
-- bound is read it is 0.
pub record Part : Type 0 where
  pub is_begun : Bool
  pub header : Header

-- lines of vertices and arrows may follow
pub record IsOpen (p : Part) : Type 0 where
  pub begun : p.is_begun ≡ true
  pub unbound : p.header.bound ≡ 0

pub record FitsVertex (p : Part) (name : List ℕ) : Type 0 where
  pub opened : IsOpen p
  pub no_arrow : p.header.quiver.arrows ≡ []
  pub room : length p.header.quiver.vertices < 32
  pub named : IsName name
  pub new : All (λ (n : Name). n ≢ name) p.header.quiver.vertices

-- its name is an arrow's and its ends are among the vertices
pub record IsArrowOf (Q : Quiver) (a : Arrow) : Type 0 where
  pub named : IsArrowName a.name
  pub from : a.from < vertex_count Q
  pub to : a.to < vertex_count Q

-- two places of vertices
pub record AreVertices (Q : Quiver) (from to : ℕ) : Type 0 where
  pub first : from < vertex_count Q
  pub second : to < vertex_count Q

pub record FitsArrow (p : Part) (a : Arrow) : Type 0 where
  pub opened : IsOpen p
  pub room : length p.header.quiver.arrows < 128
  pub arrow_is : IsArrowOf p.header.quiver a
  pub new : All (λ (b : Arrow). b.name ≢ a.name) p.header.quiver.arrows

pub record FitsBound (p : Part) (t : ℕ) : Type 0 where
  pub opened : IsOpen p
  pub has_vertex : 0 < vertex_count p.header.quiver
  pub from : 2 ≤ t
  pub to : t ≤ 32

pub record FitsRelation (p : Part) (r : Relation) : Type 0 where
  pub bounded : 0 < p.header.bound
  pub room : length p.header.relations < 256
  pub relation_is : IsRelation p.header r

-- the line fits behind what was read
abbrev pub Fits : Part → Form → Type 0
Fits p (Field f) = p.is_begun ≡ false
Fits p (Vertex name) = FitsVertex p name
Fits p (ArrowForm a) = FitsArrow p a
Fits p (Bound t) = FitsBound p t
Fits p (RelationForm r) = FitsRelation p r

-- its tokens
abbrev pub tokens_of : Part → Form → List (List ℕ)
tokens_of p (Field f) = field_line f
tokens_of p (Vertex name) = vertex_line name
tokens_of p (ArrowForm a) = arrow_line p.header.quiver a
tokens_of p (Bound t) = bound_line t
tokens_of p (RelationForm r) = relation_line p.header.quiver r

abbrev pub with_vertices : Part → List Name → Part
with_vertices p names = record p { header = record p.header { quiver = record p.header.quiver { vertices = names } } }

abbrev pub with_arrows : Part → List Arrow → Part
with_arrows p arrows = record p { header = record p.header { quiver = record p.header.quiver { arrows = arrows } } }

-- what has been read with it
abbrev pub after : Part → Form → Part
after p (Field f) = record { is_begun = true; header = record p.header { field = f } }
after p (Vertex name) = with_vertices p (p.header.quiver.vertices ++ name ∷ [])
after p (ArrowForm a) = with_arrows p (p.header.quiver.arrows ++ a ∷ [])
after p (Bound t) = record p { header = record p.header { bound = t } }
after p (RelationForm r) = record p { header = record p.header { relations = p.header.relations ++ r ∷ [] } }

-- a header may end here: its bound was read
abbrev pub MayEnd : Part → Type 0
MayEnd p = 0 < p.header.bound

-- nothing was read
pub record IsStart (p : Part) : Type 0 where
  pub unbegun : p.is_begun ≡ false
  pub no_vertex : p.header.quiver.vertices ≡ []
  pub no_arrow : p.header.quiver.arrows ≡ []
  pub unbound : p.header.bound ≡ 0
  pub no_relation : p.header.relations ≡ []

-- before the first line, with the field that stands there until one is read
abbrev pub start : Part
start = record { is_begun = false; header = record { field = f2; quiver = record { vertices = []; arrows = [] }; bound = 0; relations = [] } }

-- what holds of each front of a header
pub record IsFront (p : Part) : Type 0 where
  pub unbegun : p.is_begun ≡ false → (p.header.quiver.vertices ≡ []) × (p.header.quiver.arrows ≡ []) × (p.header.bound ≡ 0)
  pub named : IsNamed p.header.quiver
  pub unbound : p.header.bound ≡ 0 → p.header.relations ≡ []
  pub bounded : 0 < p.header.bound → (0 < vertex_count p.header.quiver) × (2 ≤ p.header.bound)
  pub bound_limit : p.header.bound ≤ 32
  pub few_relations : length p.header.relations ≤ 256
  pub relations : All (IsRelation p.header) p.header.relations

-- the line may follow a front of a header
abbrev pub MayFollow : Part → Form → Type 0
MayFollow p x = IsFront p × Fits p x

-- a line of a form that may follow leads from a part to a part
abbrev pub FormStep : Part → List ℕ → Part → Type 0
FormStep = StepByForm strict_tokens MayFollow tokens_of after

-- A line leads from a part to the one part to which its form leads. (No line has two forms, so it always is the one.)
pub record Step (p : Part) (line : List ℕ) (next : Part) : Type 0 where
  pub step : FormStep p line next
  pub only : (other : Part) → FormStep p line other → other ≡ next

-- the lines of what was read
abbrev pub part_lines : Part → List (List (List ℕ))
part_lines p = (if p.is_begun then field_line p.header.field ∷ [] else [])
    ++ (map vertex_line p.header.quiver.vertices
    ++ (map (arrow_line p.header.quiver) p.header.quiver.arrows
    ++ ((if p.header.bound == 0 then [] else bound_line p.header.bound ∷ [])
    ++ map (relation_line p.header.quiver) p.header.relations)))
