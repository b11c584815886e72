use Rattle.module_types.specs.Readings.{read}
use Rattle.module_faults.proofs.StoppedRows.{stopped_of_meets, meets_of_stopped, below_more}
use Rattle.module_faults.proofs.next_arrows.next_arrow.Goals as goal

pub returns-then-not-all_meet-clause-lives : goal.returns-then-not-all_meet-clause-lives
returns-then-not-all_meet-clause-lives c stopped =
    c.if-not-all_meet.ensures (meets_of_stopped (read c.args.header.now c.args.m.now) c.args.unknowns c.args.rows c.args.count c.images_along-used.result c.loop-k.k c.args.images.now c.images_along-used.new.entries c.args.level.now
    c.requires.level_columns c.images_along-used.ensures.count c.images_along-used.ensures.clear c.images_along-used.ensures.asked stopped)

pub loop-k-preserved : goal.loop-k-preserved
loop-k-preserved c =
    below_more (read c.args.header.now c.args.m.now) c.args.unknowns c.args.count c.args.images.now c.args.level.now c.loop-k.k
    (stopped_of_meets (read c.args.header.now c.args.m.now) c.args.unknowns c.args.rows c.args.count c.images_along-used.result c.loop-k.k c.args.images.now c.images_along-used.new.entries c.args.level.now
    c.requires.level_columns c.images_along-used.ensures.count c.images_along-used.ensures.clear c.images_along-used.ensures.asked c.if-not-all_meet.ensures) c.loop-k.invariant
