use Rattle.std.proofs.Common.{◌<◌, subst, sym}
use Rattle.std.specs.Prelude.{slice_index}
use Rattle.linear_algebra.specs.Rows.{IsRow}
use Rattle.module_types.specs.declared.Module.{Module}
use Rattle.module_types.specs.Algebras.{algebra_at}
use Rattle.rep_arena.proofs.EntryRows.{arrow_row_in, is_arrow_row}
use Rattle.rep_arena.proofs.arenas.Arena.arrow_row.Goals as goal

pub arrow_row-requires-clause-row : goal.arrow_row-requires-clause-row
arrow_row-requires-clause-row c =
    let h = c.args.self.now.header in
    arrow_row_in h c.module.result c.module.ensures.lawful c.args.arrow c.args.i c.requires.arrow
    (subst (λ (m : Module). c.args.i < slice_index m.dims ((algebra_at m.side h).quiver.source c.args.arrow)) (sym c.module.ensures.entry) c.requires.row)

pub returns-clause-is_row : goal.returns-clause-is_row
returns-clause-is_row c =
    let h = c.args.self.now.header in
    subst (λ (m : Module). IsRow h.field (slice_index m.dims ((algebra_at m.side h).quiver.target c.args.arrow)) c.arrow_row.result.now) c.module.ensures.entry
    (is_arrow_row h c.module.result c.module.ensures.lawful c.args.arrow c.args.i c.requires.arrow
    (subst (λ (m : Module). c.args.i < slice_index m.dims ((algebra_at m.side h).quiver.source c.args.arrow)) (sym c.module.ensures.entry) c.requires.row) c.arrow_row.result.now c.arrow_row.ensures)
