use Rattle.path_basis.proofs.Runs.{runs_in-later}
use Rattle.path_basis.proofs.inserting.has_run.Goals as goal

pub loop-start-preserved : goal.loop-start-preserved
loop-start-preserved c = runs_in-later c.args.run.now c.args.arrows.now c.loop-start.start c.starts_with.result c.loop-start-test.true c.starts_with.ensures.value c.if-starts_with.false c.loop-start.invariant
