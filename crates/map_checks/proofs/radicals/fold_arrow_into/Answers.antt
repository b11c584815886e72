use Rattle.std.proofs.Common.{◌<◌, sym, ◌∙◌, subst}
use Rattle.module_types.specs.Algebras.{algebra_at}
use Rattle.module_types.specs.Readings.{read}
use Rattle.module_checks.proofs.Sides.{arrows_at, plain_at}
use Rattle.map_checks.proofs.ArrowRows.{arrow_taken}
use Rattle.map_checks.proofs.radicals.fold_arrow_into.Goals as goal

pub returns-clause-more : goal.returns-clause-more
returns-clause-more c =
    let h = c.args.header.now in
    let x = c.args.x.now in
    let Q = (algebra_at x.side h).quiver in
    let l : c.args.a < Q.arrows = subst (λ n. c.args.a < n) (sym (arrows_at x.side h)) c.requires.arrow in
    arrow_taken (read h x) c.args.vertex c.args.unknowns c.args.rows c.args.a c.index-matrix.result.now c.args.entries.now c.fold_rows.new.entries
    (plain_at h.field Q x c.requires.x c.args.a c.index-matrix.result.now l c.index-matrix.ensures) (sym c.target_at.ensures ∙ c.if-target_at-vertex.false) c.fold_rows.ensures.more
