-- What may follow is decided: a line may follow a part, or it may not.
use Rattle.std.proofs.Common.{◌≡◌, ◌≢◌, ℕ, ◌<◌, List, length, ◌⊎◌, inl, inr, refl}
use Rattle.std.specs.Prelude.{IsSome}
use Rattle.std.specs.declared.option.Option.{Option}
use Rattle.quiver_paths.specs.declared.naming.Name.{Name}
use Rattle.quiver_paths.specs.declared.Arrow.{Arrow}
use Rattle.quiver_paths.specs.Quiver.{vertex_count, arrow_count}
use Rattle.path_algebra.specs.declared.Relation.{Relation}
use Rattle.script_lang.specs.declared.line.Line.{Line}
use Rattle.script_lang.specs.declared.line.Line.TheVariants as line
use Rattle.script_lang.specs.declared.part.Place.{Place}
use Rattle.script_lang.specs.declared.part.Place.TheVariants.{Start, Vertices, Arrows, Relations, Body, Block}
use Rattle.script_lang.specs.declared.part.Part.{Part}
use Rattle.script_lang.specs.Parts.{FitsVertex, FitsArrow, FitsBound, FitsRelation, MayFollow, awaits_arrows, vertex_place, takes_at, is_block}
use Rattle.deciding.proofs.Deciding.{Decided, like, three, four, five, fails, tested, below, at_most, same_numbers, of_each}
use Rattle.deciding.proofs.DecidedPaths.{relation_decided}

-- ---- places

at_start : (x : Place) → Decided (x ≡ Start)
at_start Start = inl refl
at_start Vertices = inr (λ e. cc)
at_start Arrows = inr (λ e. cc)
at_start Relations = inr (λ e. cc)
at_start Body = inr (λ e. cc)
at_start (Block s) = inr (λ e. cc)

at_vertices : (x : Place) → Decided (x ≡ Vertices)
at_vertices Start = inr (λ e. cc)
at_vertices Vertices = inl refl
at_vertices Arrows = inr (λ e. cc)
at_vertices Relations = inr (λ e. cc)
at_vertices Body = inr (λ e. cc)
at_vertices (Block s) = inr (λ e. cc)

at_relations : (x : Place) → Decided (x ≡ Relations)
at_relations Start = inr (λ e. cc)
at_relations Vertices = inr (λ e. cc)
at_relations Arrows = inr (λ e. cc)
at_relations Relations = inl refl
at_relations Body = inr (λ e. cc)
at_relations (Block s) = inr (λ e. cc)

pub at_body : (x : Place) → Decided (x ≡ Body)
at_body Start = inr (λ e. cc)
at_body Vertices = inr (λ e. cc)
at_body Arrows = inr (λ e. cc)
at_body Relations = inr (λ e. cc)
at_body Body = inl refl
at_body (Block s) = inr (λ e. cc)

-- ---- lines

vertex_decided : (p : Part) (n : List ℕ) → Decided (FitsVertex p n)
vertex_decided p n =
    like (λ k. record { place = k.0; room = k.1; new = k.2 }) (λ k. (k.place, k.room, k.new))
    (three (at_vertices p.place) (below (vertex_count p.header.quiver) 32) (of_each (λ (m : Name). m ≢ n) (λ m. fails (same_numbers m n)) p.header.quiver.vertices))

some_decided : (r : Option ℕ) → Decided (IsSome r)
some_decided r = tested _

arrow_decided : (p : Part) (n v w : List ℕ) → Decided (FitsArrow p n v w)
arrow_decided p n v w =
    like (λ k. record { place = k.0; room = k.1; new = k.2; starts = k.3; ends = k.4 }) (λ k. (k.place, k.room, k.new, k.starts, k.ends))
    (five (tested (awaits_arrows p.place)) (below (arrow_count p.header.quiver) 128) (of_each (λ (a : Arrow). a.name ≢ n) (λ (a : Arrow). fails (same_numbers a.name n)) p.header.quiver.arrows)
    (some_decided (vertex_place p.header.quiver.vertices v)) (some_decided (vertex_place p.header.quiver.vertices w)))

bound_decided : (p : Part) (t : ℕ) → Decided (FitsBound p t)
bound_decided p t =
    like (λ k. record { place = k.0; has_vertex = k.1; from = k.2; to = k.3 }) (λ k. (k.place, k.has_vertex, k.from, k.to))
    (four (tested (awaits_arrows p.place)) (below 0 (vertex_count p.header.quiver)) (at_most 2 t) (at_most t 32))

relation_line_decided : (p : Part) (r : Relation) → Decided (FitsRelation p r)
relation_line_decided p r =
    like (λ k. record { place = k.0; room = k.1; relation_is = k.2 }) (λ k. (k.place, k.room, k.relation_is))
    (three (at_relations p.place) (below (length p.header.relations) 256) (relation_decided p.header r))

pub may_follow_decided : (p : Part) (l : Line) → Decided (MayFollow p l)
may_follow_decided p (line.Field f) = at_start p.place
may_follow_decided p (line.Vertex n) = vertex_decided p n
may_follow_decided p (line.Arrow n v w) = arrow_decided p n v w
may_follow_decided p (line.Bound t) = bound_decided p t
may_follow_decided p (line.Relation r) = relation_line_decided p r
may_follow_decided p line.Basis = at_relations p.place
may_follow_decided p (line.Statement k) = at_body p.place
may_follow_decided p (line.At l) = tested (takes_at p.place l)
may_follow_decided p line.End = tested (is_block p.place)
