-- The lines of a script by their tokens.
use Rattle.std.specs.Prelude.{ℕ, ◌-◌, ◌==◌, List, [], ◌∷◌, codes, if◌then◌else◌, Some, None}
use Rattle.std.specs.declared.option.Option.{Option}
use Rattle.linear_algebra.specs.Field.{order}
use Rattle.fp_linear.specs.Sizes.{field_of as field_of_size}
use Rattle.path_algebra.specs.declared.Header.{Header}
use Rattle.path_algebra.specs.declared.Relation.{Relation}
use Rattle.script_types.specs.declared.StatementKind.{StatementKind}
use Rattle.script_lang.specs.declared.line.Line.{Line}
use Rattle.script_lang.specs.declared.line.Line.TheVariants as line
use Rattle.script_lang.specs.Tokens.{is_word, vertex_in, name_in, number_to}
use Rattle.script_lang.specs.Arguments.{one_of, three_of, matrix_in}
use Rattle.script_lang.specs.Statements.{plain_in, rep_in}
use Rattle.script_lang.specs.Relations.{relation_in}

-- the field of q elements, if the table has one
abbrev pub field_of : Option ℕ → Option Line
field_of None = None
field_of (Some q) = if order (field_of_size q) == q then Some (line.Field (field_of_size q)) else None

abbrev pub field_from : Option (List ℕ) → Option Line
field_from None = None
field_from (Some q) = field_of (number_to 27 q)

abbrev pub vertex_of : Option (List ℕ) → Option Line
vertex_of None = None
vertex_of (Some n) = Some (line.Vertex n)

abbrev pub vertex_from : Option (List ℕ) → Option Line
vertex_from None = None
vertex_from (Some n) = vertex_of (vertex_in n)

abbrev pub arrow_of : Option (List ℕ) → Option (List ℕ) → Option (List ℕ) → Option Line
arrow_of None from to = None
arrow_of (Some n) None to = None
arrow_of (Some n) (Some v) None = None
arrow_of (Some n) (Some v) (Some w) = Some (line.Arrow n v w)

abbrev pub arrow_from : Option (List ℕ × List ℕ × List ℕ) → Option Line
arrow_from None = None
arrow_from (Some ts) = arrow_of (name_in ts.0) (vertex_in ts.1) (vertex_in ts.2)

abbrev pub bound_of : Option ℕ → Option Line
bound_of None = None
bound_of (Some t) = Some (line.Bound t)

abbrev pub bound_from : Option (List ℕ) → Option Line
bound_from None = None
bound_from (Some t) = bound_of (number_to 32 t)

-- a line of one token
abbrev pub nothing_in : Line → List (List ℕ) → Option Line
nothing_in l [] = Some l
nothing_in l (t ∷ ts) = None

abbrev pub statement_line : Option StatementKind → Option Line
statement_line None = None
statement_line (Some k) = Some (line.Statement k)

abbrev pub short_in : List ℕ → List (List ℕ) → Option Line
short_in word args =
    if is_word word (codes "field") then field_from (one_of args)
    else if is_word word (codes "vertex") then vertex_from (one_of args)
    else if is_word word (codes "arrow") then arrow_from (three_of args)
    else if is_word word (codes "bound") then bound_from (one_of args)
    else if is_word word (codes "basis") then nothing_in line.Basis args
    else if is_word word (codes "end") then nothing_in line.End args
    else statement_line (plain_in word args)

abbrev pub at_line : Option (List ℕ) → Option (List (List ℕ)) → Option Line
at_line None rows = None
at_line (Some n) None = None
at_line (Some n) (Some rows) = Some (line.At (record { name = n; rows = rows }))

-- `NAME MATRIX`, its entries below q
abbrev pub at_in : ℕ → List (List ℕ) → Option Line
at_in q [] = None
at_in q (t ∷ ts) = at_line (vertex_in t) (matrix_in (q - 1) ts)

abbrev pub relation_line : Option Relation → Option Line
relation_line None = None
relation_line (Some r) = Some (line.Relation r)

-- the line of this first token and these arguments, under the header so far
abbrev pub line_in : Header → List ℕ → List (List ℕ) → Option Line
line_in h word args =
    if is_word word (codes "rep") then statement_line (rep_in args)
    else if is_word word (codes "at") then at_in (order h.field) args
    else if is_word word (codes "relation") then relation_line (relation_in h args)
    else short_in word args
