-- What a line says is in its ranges.
use Rattle.std.proofs.Common.{ℕ, ◌≤◌, ◌-◌, List, [], ◌∷◌, Some, None, codes, All, arith}
use Rattle.std.specs.Prelude.{IfSome, ⊤}
use Rattle.std.specs.declared.option.Option.{Option}
use Rattle.std.proofs.lemmas.List.Elements.{All-nil}
use Rattle.linear_algebra.specs.Field.{Gf, order}
use Rattle.fp_linear.specs.Sizes.{field_of as field_of_size}
use Rattle.quiver_paths.specs.Name.{IsName}
use Rattle.quiver_paths.specs.declared.names.Reference.{Reference}
use Rattle.path_algebra.specs.Allowed.{IsArrowName}
use Rattle.path_algebra.specs.declared.Header.{Header}
use Rattle.path_algebra.specs.declared.Relation.{Relation}
use Rattle.script_types.specs.declared.AtLine.{AtLine}
use Rattle.script_types.specs.declared.Standard.{Standard}
use Rattle.script_types.specs.declared.StatementKind.{StatementKind}
use Rattle.script_lang.specs.declared.line.Line.{Line}
use Rattle.script_lang.specs.declared.line.Line.TheVariants as line
use Rattle.script_lang.specs.Tokens.{is_word, vertex_in, name_in, number_to, reference_in}
use Rattle.script_lang.specs.Arguments.{one_of, two_of, three_of, four_of, numbers_in, matrix_in}
use Rattle.script_lang.specs.Statements.{NameReference, name_reference, unary_of, unary_in, unary_from, standard_in, std_kind, std_of, sum_kind, sum_of, map_kind, map_of, hom_kind, hom_of, resolve_kind, resolve_of, ext_kind, ext_of, decompose_kind, decompose_of, ars_kind, ars_of, plain_in, rep_kind, rep_in}
use Rattle.script_lang.specs.Lines.{field_of, field_from, vertex_of, vertex_from, arrow_of, arrow_from, bound_of, bound_from, nothing_in, statement_line, short_in, at_line, at_in, relation_line, line_in}
use Rattle.script_lang.specs.Relations.{relation_in}
use Rattle.script_types.specs.Ranges.{IsReference, IsRow, IsAtLine, IsNewFrom, IsStatement}
use Rattle.script_lang.proofs.StatementSizes.{IsLong, rep_long, plain_long}
use Rattle.script_lang.proofs.TokenRanges.{either_way, vertex_named, name_named, number_small, reference_fits, numbers_small, matrix_fits}

-- what is said of a line before it is known whether it may follow, a statement being one of S
abbrev pub IsLine : (StatementKind → Type 0) → Gf → Line → Type 0
IsLine S f (line.Vertex n) = IsName n
IsLine S f (line.Arrow n v w) = IsArrowName n
IsLine S f (line.Statement k) = S k
IsLine S f (line.At l) = IsAtLine f l
IsLine S f other = ⊤

-- ---- statements

unary_pair : (n : Option (List ℕ)) (a : Option Reference) → IfSome n IsArrowName → IfSome a IsReference → IfSome (name_reference n a) (λ x. IsNewFrom x.0 x.1)
unary_pair None a p q = tt
unary_pair (Some n) None p q = tt
unary_pair (Some n) (Some a) p q = record { name_is = p; reference_is = q }

unary_reads : (ts : Option (List ℕ × List ℕ)) → IfSome (unary_of ts) (λ x. IsNewFrom x.0 x.1)
unary_reads None = tt
unary_reads (Some ts) = unary_pair (name_in ts.0) (reference_in ts.1) (name_named ts.0) (reference_fits ts.1)

unary_fits : (f : Gf) (word : List ℕ) (r : Option NameReference) → IfSome r (λ x. IsNewFrom x.0 x.1) → IfSome (unary_from word r) (IsStatement f)
unary_fits f word None new = tt
unary_fits f word (Some x) new =
    either_way (is_word word (codes "kernel")) (IsStatement f) _ _ (λ _. new) (λ _.
    either_way (is_word word (codes "cokernel")) (IsStatement f) _ _ (λ _. new) (λ _.
    either_way (is_word word (codes "radical")) (IsStatement f) _ _ (λ _. new) (λ _.
    either_way (is_word word (codes "dual")) (IsStatement f) _ _ (λ _. new) (λ _.
    either_way (is_word word (codes "transpose")) (IsStatement f) _ _ (λ _. new) (λ _.
    either_way (is_word word (codes "tau")) (IsStatement f) _ _ (λ _. new) (λ _.
    either_way (is_word word (codes "taui")) (IsStatement f) _ _ (λ _. new) (λ _. tt)))))))

std_kind_fits : (f : Gf) (n : Option (List ℕ)) (w : Option Standard) (v : Option (List ℕ)) → IfSome n IsArrowName → IfSome v IsName → IfSome (std_kind n w v) (IsStatement f)
std_kind_fits f None w v a b = tt
std_kind_fits f (Some n) None v a b = tt
std_kind_fits f (Some n) (Some w) None a b = tt
std_kind_fits f (Some n) (Some w) (Some v) a b = (a, b)

std_fits : (f : Gf) (ts : Option (List ℕ × List ℕ × List ℕ)) → IfSome (std_of ts) (IsStatement f)
std_fits f None = tt
std_fits f (Some ts) = std_kind_fits f (name_in ts.0) (standard_in ts.1) (vertex_in ts.2) (name_named ts.0) (vertex_named ts.2)

sum_kind_fits : (f : Gf) (n : Option (List ℕ)) (a b : Option Reference) → IfSome n IsArrowName → IfSome a IsReference → IfSome b IsReference → IfSome (sum_kind n a b) (IsStatement f)
sum_kind_fits f None a b p q r = tt
sum_kind_fits f (Some n) None b p q r = tt
sum_kind_fits f (Some n) (Some a) None p q r = tt
sum_kind_fits f (Some n) (Some a) (Some b) p q r = (record { name_is = p; reference_is = q }, r)

sum_fits : (f : Gf) (ts : Option (List ℕ × List ℕ × List ℕ)) → IfSome (sum_of ts) (IsStatement f)
sum_fits f None = tt
sum_fits f (Some ts) = sum_kind_fits f (name_in ts.0) (reference_in ts.1) (reference_in ts.2) (name_named ts.0) (reference_fits ts.1) (reference_fits ts.2)

map_kind_fits : (f : Gf) (n : Option (List ℕ)) (a b : Option Reference) → IfSome n IsArrowName → IfSome a IsReference → IfSome b IsReference → IfSome (map_kind n a b) (IsStatement f)
map_kind_fits f None a b p q r = tt
map_kind_fits f (Some n) None b p q r = tt
map_kind_fits f (Some n) (Some a) None p q r = tt
map_kind_fits f (Some n) (Some a) (Some b) p q r = (record { name_is = p; reference_is = q }, r, All-nil (IsAtLine f))

map_fits : (f : Gf) (ts : Option (List ℕ × List ℕ × List ℕ)) → IfSome (map_of ts) (IsStatement f)
map_fits f None = tt
map_fits f (Some ts) = map_kind_fits f (name_in ts.0) (reference_in ts.1) (reference_in ts.2) (name_named ts.0) (reference_fits ts.1) (reference_fits ts.2)

hom_kind_fits : (f : Gf) (a b : Option Reference) → IfSome a IsReference → IfSome b IsReference → IfSome (hom_kind a b) (IsStatement f)
hom_kind_fits f None b p q = tt
hom_kind_fits f (Some a) None p q = tt
hom_kind_fits f (Some a) (Some b) p q = (p, q)

hom_fits : (f : Gf) (ts : Option (List ℕ × List ℕ)) → IfSome (hom_of ts) (IsStatement f)
hom_fits f None = tt
hom_fits f (Some ts) = hom_kind_fits f (reference_in ts.0) (reference_in ts.1) (reference_fits ts.0) (reference_fits ts.1)

resolve_kind_fits : (f : Gf) (a : Option Reference) (n : Option ℕ) → IfSome a IsReference → IfSome n (λ k. k ≤ 16) → IfSome (resolve_kind a n) (IsStatement f)
resolve_kind_fits f None n p q = tt
resolve_kind_fits f (Some a) None p q = tt
resolve_kind_fits f (Some a) (Some n) p q = (p, q)

resolve_fits : (f : Gf) (ts : Option (List ℕ × List ℕ)) → IfSome (resolve_of ts) (IsStatement f)
resolve_fits f None = tt
resolve_fits f (Some ts) = resolve_kind_fits f (reference_in ts.0) (number_to 16 ts.1) (reference_fits ts.0) (number_small 16 ts.1)

ext_kind_fits : (f : Gf) (n : Option ℕ) (a b : Option Reference) → IfSome n (λ k. k ≤ 15) → IfSome a IsReference → IfSome b IsReference → IfSome (ext_kind n a b) (IsStatement f)
ext_kind_fits f None a b p q r = tt
ext_kind_fits f (Some n) None b p q r = tt
ext_kind_fits f (Some n) (Some a) None p q r = tt
ext_kind_fits f (Some n) (Some a) (Some b) p q r = (p, q, r)

ext_fits : (f : Gf) (ts : Option (List ℕ × List ℕ × List ℕ)) → IfSome (ext_of ts) (IsStatement f)
ext_fits f None = tt
ext_fits f (Some ts) = ext_kind_fits f (number_to 15 ts.0) (reference_in ts.1) (reference_in ts.2) (number_small 15 ts.0) (reference_fits ts.1) (reference_fits ts.2)

decompose_kind_fits : (f : Gf) (a : Option Reference) (n : Option (List ℕ)) → IfSome a IsReference → IfSome n IsArrowName → IfSome (decompose_kind a n) (IsStatement f)
decompose_kind_fits f None n p q = tt
decompose_kind_fits f (Some a) None p q = tt
decompose_kind_fits f (Some a) (Some n) p q = record { name_is = q; reference_is = p }

decompose_fits : (f : Gf) (ts : Option (List ℕ × List ℕ × List ℕ)) → IfSome (decompose_of ts) (IsStatement f)
decompose_fits f None = tt
decompose_fits f (Some ts) = either_way (is_word ts.1 (codes "as")) (IsStatement f) _ None
    (λ _. decompose_kind_fits f (reference_in ts.0) (name_in ts.2) (reference_fits ts.0) (name_named ts.2)) (λ _. tt)

ars_kind_fits : (f : Gf) (a : Option Reference) (n e : Option (List ℕ)) → IfSome a IsReference → IfSome n IsArrowName → IfSome e IsArrowName → IfSome (ars_kind a n e) (IsStatement f)
ars_kind_fits f None n e p q r = tt
ars_kind_fits f (Some a) None e p q r = tt
ars_kind_fits f (Some a) (Some n) None p q r = tt
ars_kind_fits f (Some a) (Some n) (Some e) p q r = (record { name_is = q; reference_is = p }, r)

ars_fits : (f : Gf) (ts : Option (List ℕ × List ℕ × List ℕ × List ℕ)) → IfSome (ars_of ts) (IsStatement f)
ars_fits f None = tt
ars_fits f (Some ts) = either_way (is_word ts.1 (codes "as")) (IsStatement f) _ None
    (λ _. ars_kind_fits f (reference_in ts.0) (name_in ts.2) (name_in ts.3) (reference_fits ts.0) (name_named ts.2) (name_named ts.3)) (λ _. tt)

plain_fits : (f : Gf) (word : List ℕ) (args : List (List ℕ)) → IfSome (plain_in word args) (IsStatement f)
plain_fits f word args =
    either_way (is_word word (codes "std")) (IsStatement f) _ _ (λ _. std_fits f (three_of args)) (λ _.
    either_way (is_word word (codes "sum")) (IsStatement f) _ _ (λ _. sum_fits f (three_of args)) (λ _.
    either_way (is_word word (codes "map")) (IsStatement f) _ _ (λ _. map_fits f (three_of args)) (λ _.
    either_way (is_word word (codes "hom")) (IsStatement f) _ _ (λ _. hom_fits f (two_of args)) (λ _.
    either_way (is_word word (codes "resolve")) (IsStatement f) _ _ (λ _. resolve_fits f (two_of args)) (λ _.
    either_way (is_word word (codes "ext")) (IsStatement f) _ _ (λ _. ext_fits f (three_of args)) (λ _.
    either_way (is_word word (codes "decompose")) (IsStatement f) _ _ (λ _. decompose_fits f (three_of args)) (λ _.
    either_way (is_word word (codes "ars")) (IsStatement f) _ _ (λ _. ars_fits f (four_of args)) (λ _.
    unary_fits f word (unary_in args) (unary_reads (two_of args))))))))))

rep_kind_fits : (f : Gf) (n dims : Option (List ℕ)) → IfSome n IsArrowName → IfSome dims (All (λ d. d ≤ 65535)) → IfSome (rep_kind n dims) (IsStatement f)
rep_kind_fits f None dims p q = tt
rep_kind_fits f (Some n) None p q = tt
rep_kind_fits f (Some n) (Some []) p q = tt
rep_kind_fits f (Some n) (Some (d ∷ dims)) p q = record { name_is = p; some = omega arith; dims_are = q; lines_are = All-nil (IsAtLine f); at_arrows = All-nil (λ (l : AtLine). IsArrowName l.name) }

rep_fits : (f : Gf) (args : List (List ℕ)) → IfSome (rep_in args) (IsStatement f)
rep_fits f [] = tt
rep_fits f (t ∷ ts) = rep_kind_fits f (name_in t) (numbers_in 65535 ts) (name_named t) (numbers_small 65535 ts)

-- ---- lines

statement_fits : (S : StatementKind → Type 0) (f : Gf) (r : Option StatementKind) → IfSome r S → IfSome (statement_line r) (IsLine S f)
statement_fits S f None p = tt
statement_fits S f (Some k) p = p

at_line_fits : (S : StatementKind → Type 0) (f : Gf) (n : Option (List ℕ)) (rows : Option (List (List ℕ))) → IfSome n IsName → IfSome rows (All (IsRow f)) → IfSome (at_line n rows) (IsLine S f)
at_line_fits S f None rows p q = tt
at_line_fits S f (Some n) None p q = tt
at_line_fits S f (Some n) (Some rows) p q = record { name = p; rows = q }

at_fits : (S : StatementKind → Type 0) (f : Gf) (args : List (List ℕ)) → IfSome (at_in (order f) args) (IsLine S f)
at_fits S f [] = tt
at_fits S f (t ∷ ts) = at_line_fits S f (vertex_in t) (matrix_in (order f - 1) ts) (vertex_named t) (matrix_fits f ts)

relation_fits : (S : StatementKind → Type 0) (f : Gf) (r : Option Relation) → IfSome (relation_line r) (IsLine S f)
relation_fits S f None = tt
relation_fits S f (Some r) = tt

field_of_fits : (S : StatementKind → Type 0) (f : Gf) (q : Option ℕ) → IfSome (field_of q) (IsLine S f)
field_of_fits S f None = tt
field_of_fits S f (Some q) = either_way _ (IsLine S f) (Some (line.Field (field_of_size q))) None (λ _. tt) (λ _. tt)

field_fits : (S : StatementKind → Type 0) (f : Gf) (q : Option (List ℕ)) → IfSome (field_from q) (IsLine S f)
field_fits S f None = tt
field_fits S f (Some q) = field_of_fits S f (number_to 27 q)

vertex_of_fits : (S : StatementKind → Type 0) (f : Gf) (n : Option (List ℕ)) → IfSome n IsName → IfSome (vertex_of n) (IsLine S f)
vertex_of_fits S f None p = tt
vertex_of_fits S f (Some n) p = p

vertex_fits : (S : StatementKind → Type 0) (f : Gf) (n : Option (List ℕ)) → IfSome (vertex_from n) (IsLine S f)
vertex_fits S f None = tt
vertex_fits S f (Some n) = vertex_of_fits S f (vertex_in n) (vertex_named n)

arrow_of_fits : (S : StatementKind → Type 0) (f : Gf) (n v w : Option (List ℕ)) → IfSome n IsArrowName → IfSome (arrow_of n v w) (IsLine S f)
arrow_of_fits S f None v w p = tt
arrow_of_fits S f (Some n) None w p = tt
arrow_of_fits S f (Some n) (Some v) None p = tt
arrow_of_fits S f (Some n) (Some v) (Some w) p = p

arrow_fits : (S : StatementKind → Type 0) (f : Gf) (ts : Option (List ℕ × List ℕ × List ℕ)) → IfSome (arrow_from ts) (IsLine S f)
arrow_fits S f None = tt
arrow_fits S f (Some ts) = arrow_of_fits S f (name_in ts.0) (vertex_in ts.1) (vertex_in ts.2) (name_named ts.0)

bound_of_fits : (S : StatementKind → Type 0) (f : Gf) (t : Option ℕ) → IfSome (bound_of t) (IsLine S f)
bound_of_fits S f None = tt
bound_of_fits S f (Some t) = tt

bound_fits : (S : StatementKind → Type 0) (f : Gf) (t : Option (List ℕ)) → IfSome (bound_from t) (IsLine S f)
bound_fits S f None = tt
bound_fits S f (Some t) = bound_of_fits S f (number_to 32 t)

nothing_fits : (S : StatementKind → Type 0) (f : Gf) (l : Line) (args : List (List ℕ)) → IsLine S f l → IfSome (nothing_in l args) (IsLine S f)
nothing_fits S f l [] p = p
nothing_fits S f l (t ∷ ts) p = tt

short_fits : (S : StatementKind → Type 0) (f : Gf) (word : List ℕ) (args : List (List ℕ)) → IfSome (plain_in word args) S → IfSome (short_in word args) (IsLine S f)
short_fits S f word args plain =
    either_way (is_word word (codes "field")) (IsLine S f) _ _ (λ _. field_fits S f (one_of args)) (λ _.
    either_way (is_word word (codes "vertex")) (IsLine S f) _ _ (λ _. vertex_fits S f (one_of args)) (λ _.
    either_way (is_word word (codes "arrow")) (IsLine S f) _ _ (λ _. arrow_fits S f (three_of args)) (λ _.
    either_way (is_word word (codes "bound")) (IsLine S f) _ _ (λ _. bound_fits S f (one_of args)) (λ _.
    either_way (is_word word (codes "basis")) (IsLine S f) _ _ (λ _. nothing_fits S f line.Basis args tt) (λ _.
    either_way (is_word word (codes "end")) (IsLine S f) _ _ (λ _. nothing_fits S f line.End args tt) (λ _.
    statement_fits S f (plain_in word args) plain))))))

both_fit : {X : Type 0} (P Q : X → Type 0) (r : Option X) → IfSome r P → IfSome r Q → IfSome r (λ x. P x × Q x)
both_fit P Q None p q = tt
both_fit P Q (Some x) p q = (p, q)

-- the grammar allows the statement over the field, and it takes a word of three bytes and two more tokens
abbrev pub IsWritten : Gf → List ℕ → List (List ℕ) → StatementKind → Type 0
IsWritten f word args k = IsStatement f k × IsLong word args

-- a line that is read under a header is in the ranges of its field
pub line_fits : (h : Header) (word : List ℕ) (args : List (List ℕ)) → IfSome (line_in h word args) (IsLine (IsWritten h.field word args) h.field)
line_fits h word args =
    let f = h.field in
    let S = IsWritten f word args in
    either_way (is_word word (codes "rep")) (IsLine S f) _ _
    (λ rep. statement_fits S f (rep_in args) (both_fit (IsStatement f) (λ _. IsLong word args) (rep_in args) (rep_fits f args) (rep_long word args rep))) (λ _.
    either_way (is_word word (codes "at")) (IsLine S f) _ _ (λ _. at_fits S f args) (λ _.
    either_way (is_word word (codes "relation")) (IsLine S f) _ _ (λ _. relation_fits S f (relation_in h args)) (λ _.
    short_fits S f word args (both_fit (IsStatement f) (λ _. IsLong word args) (plain_in word args) (plain_fits f word args) (plain_long word args)))))
