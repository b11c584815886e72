use Rattle.std.proofs.Common.{length}
use Rattle.cover_checks.proofs.Appended.{row_appended, clear_behind, row_inside}
use Rattle.cover_checks.proofs.copying.append_row.Goals as goal

pub copy_part-requires-clause-at_inside : goal.copy_part-requires-clause-at_inside
copy_part-requires-clause-at_inside c = row_inside c.args.unknowns c.args.rows c.args.used (length c.args.entries.now) c.requires.inside c.requires.shape

pub returns-clause-clear : goal.returns-clause-clear
returns-clause-clear c = clear_behind c.args.field c.args.unknowns c.args.rows c.args.used c.args.row.now c.args.entries.now c.copy_part.new.target c.copy_part.ensures.written c.requires.clear c.requires.inside

pub returns-clause-more : goal.returns-clause-more
returns-clause-more c = row_appended c.args.field c.args.unknowns c.args.rows c.args.used c.args.row.now c.args.entries.now c.copy_part.new.target c.copy_part.ensures.written c.requires.clear c.requires.inside
