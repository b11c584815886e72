use Rattle.map_checks.proofs.ArrowRows.{row_written, row_clear}
use Rattle.map_checks.proofs.radicals.write_row.Goals as goal

pub returns-clause-clear : goal.returns-clause-clear
returns-clause-clear c = row_clear c.args.field c.args.unknowns c.args.rows c.args.used c.args.i c.args.matrix.now c.args.entries.now c.add_row.new.entries c.add_row.ensures.spread c.requires.clear c.requires.inside

pub returns-clause-more : goal.returns-clause-more
returns-clause-more c = row_written c.args.field c.args.unknowns c.args.rows c.args.used c.args.i c.args.matrix.now c.args.entries.now c.add_row.new.entries c.add_row.ensures.spread c.requires.clear c.requires.inside
