use Rattle.acceptance.proofs.LoopRules.{two_loops_are}
use Rattle.acceptance.proofs.gaps.two_loops.Goals as goal

pub returns : goal.returns
returns c = two_loops_are c.in_ok-header.header c.in_ok-header.ensures.field c.in_ok-header.ensures.header
