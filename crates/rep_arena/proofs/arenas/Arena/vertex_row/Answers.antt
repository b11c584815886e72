use Rattle.std.proofs.Common.{◌<◌, subst, sym}
use Rattle.std.specs.Prelude.{slice_index}
use Rattle.linear_algebra.specs.Rows.{IsRow}
use Rattle.module_types.specs.declared.Map.{Map}
use Rattle.rep_arena.specs.Entries.{module_at}
use Rattle.rep_arena.proofs.EntryRows.{vertex_row_in, is_vertex_row}
use Rattle.rep_arena.proofs.arenas.Arena.vertex_row.Goals as goal

pub vertex_row-requires-clause-row : goal.vertex_row-requires-clause-row
vertex_row-requires-clause-row c =
    let e = c.args.self.now in
    vertex_row_in e c.map.result c.map.ensures.lawful c.args.vertex c.args.i c.requires.vertex
    (subst (λ (f : Map). c.args.i < slice_index (module_at e f.source).dims c.args.vertex) (sym c.map.ensures.entry) c.requires.row)

pub returns-clause-is_row : goal.returns-clause-is_row
returns-clause-is_row c =
    let e = c.args.self.now in
    subst (λ (f : Map). IsRow e.header.field (slice_index (module_at e f.target).dims c.args.vertex) c.vertex_row.result.now) c.map.ensures.entry
    (is_vertex_row e c.map.result c.map.ensures.lawful c.args.vertex c.args.i c.requires.vertex
    (subst (λ (f : Map). c.args.i < slice_index (module_at e f.source).dims c.args.vertex) (sym c.map.ensures.entry) c.requires.row) c.vertex_row.result.now c.vertex_row.ensures)
