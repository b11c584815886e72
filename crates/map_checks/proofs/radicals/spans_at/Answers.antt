use Rattle.std.proofs.Common.{◌≤◌, ◌+◌, ◌*◌, sym, ◌∙◌, arith, mul-le-mul_right}
use Rattle.module_types.specs.Readings.{read}
use Rattle.map_checks.proofs.ArrowRows.{spans_at_yes, rank_at, entries_at}
use Rattle.map_checks.proofs.radicals.spans_at.Goals as goal

pub returns-then-rank-rows : goal.returns-then-rank-rows
returns-then-rank-rows c s = c.if-rank-rows.true
    (rank_at (read c.args.header.now c.args.x.now) c.args.vertex c.cols-unknowns.result _ c.arrow_rank-rank.result c.arrow_rank-rank.new.entries (c.cols-unknowns.ensures.count ∙ c.requires.fits.columns) c.arrow_rank-rank.ensures.elements c.arrow_rank-rank.ensures.form
    c.args.matrix.now c.cols-unknowns.ensures.matrix c.requires.fits.field c.requires.fits.columns c.requires.reduced s ∙ sym c.rows.ensures.count)

pub holds_entries-requires : goal.holds_entries-requires
holds_entries-requires c =
    let a = c.args.matrix.now in
    let few : a.row_count ≤ 2 * c.cols-unknowns.result + 1 = omega (arith, c.arrow_rank-rank.ensures.few, c.if-rank-rows.false, c.rows.ensures.count) in
    let fits : a.row_count * c.cols-unknowns.result ≤ (2 * c.cols-unknowns.result + 1) * c.cols-unknowns.result = mul-le-mul_right c.cols-unknowns.result few in
    rw (c.arrow_rank-rank.ensures.shape, ← c.cols-unknowns.ensures.count) fits

pub returns-then-not-holds_entries : goal.returns-then-not-holds_entries
returns-then-not-holds_entries c s = c.if-not-holds_entries.ensures
    (entries_at (read c.args.header.now c.args.x.now) c.args.vertex c.cols-unknowns.result _ c.arrow_rank-rank.result c.arrow_rank-rank.new.entries (c.cols-unknowns.ensures.count ∙ c.requires.fits.columns) c.arrow_rank-rank.ensures.elements c.arrow_rank-rank.ensures.form
    c.args.matrix.now c.cols-unknowns.ensures.matrix c.requires.fits.field c.requires.fits.columns c.requires.reduced s)

pub returns : goal.returns
returns c =
    spans_at_yes (read c.args.header.now c.args.x.now) c.args.vertex c.cols-unknowns.result _ c.arrow_rank-rank.result c.arrow_rank-rank.new.entries (c.cols-unknowns.ensures.count ∙ c.requires.fits.columns) c.arrow_rank-rank.ensures.elements c.arrow_rank-rank.ensures.form
    c.args.matrix.now c.cols-unknowns.ensures.matrix c.requires.fits.field c.requires.fits.columns (c.if-rank-rows.false ∙ c.rows.ensures.count) c.if-not-holds_entries.ensures
