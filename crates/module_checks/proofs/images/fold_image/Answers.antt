use Rattle.module_checks.proofs.PathImages.{image_not_taken, asks_after}
use Rattle.module_checks.proofs.images.fold_image.Goals as goal

pub returns-then-is_zero_within-clause-more : goal.returns-then-is_zero_within-clause-more
returns-then-is_zero_within-clause-more c = image_not_taken c.args.field c.args.unknowns c.args.rows c.args.row.now c.args.entries.now c.args.from c.args.matrix.now c.args.first (rw c.rows.ensures.count at c.if-is_zero_within.ensures)

pub returns-clause-more : goal.returns-clause-more
returns-clause-more c = asks_after c.args.field c.args.unknowns c.args.rows _ c.args.entries.now c.make_room-place.new.entries c.write_image.new.entries c.make_room-place.ensures.same c.write_image.ensures.more
