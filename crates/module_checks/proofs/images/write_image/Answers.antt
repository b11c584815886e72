use Rattle.module_checks.proofs.PathImages.{image_written, image_clear}
use Rattle.module_checks.proofs.images.write_image.Goals as goal

pub returns-clause-clear : goal.returns-clause-clear
returns-clause-clear c = image_clear c.args.field c.args.unknowns c.args.rows c.args.used c.args.from c.args.first c.args.matrix.now c.args.row.now c.args.entries.now c.add_image.new.entries c.add_image.ensures.spread c.requires.clear c.requires.inside

pub returns-clause-more : goal.returns-clause-more
returns-clause-more c = image_written c.args.field c.args.unknowns c.args.rows c.args.used c.args.from c.args.first c.args.matrix.now c.args.row.now c.args.entries.now c.add_image.new.entries c.add_image.ensures.spread c.requires.clear c.requires.inside
