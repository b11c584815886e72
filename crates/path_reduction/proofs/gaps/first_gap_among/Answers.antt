use Rattle.std.proofs.Common.{arith}
use Rattle.path_reduction.proofs.Closing.{first_gap_from, no_gap_from, one_path_more}
use Rattle.path_reduction.proofs.gaps.first_gap_among.Goals as goal

pub returns-in-Some : goal.returns-in-Some
returns-in-Some c = first_gap_from c.args.header.now c.args.rules.now c.args.paths.now c.loop-path.path-index c.path-item.result c.in-Some.gap c.requires.paths c.loop-path-test.true c.path-item.is
    c.loop-path.invariant (rw c.in-Some.is at c.in_ok-gap.ensures)

pub loop-path-preserved : goal.loop-path-preserved
loop-path-preserved c = one_path_more c.args.header.now c.args.rules.now c.args.paths.now c.loop-path.path-index c.path-item.result c.loop-path-test.true c.path-item.is c.loop-path.invariant
    (rw c.in_default.is at c.in_ok-gap.ensures)

pub returns : goal.returns
returns c = no_gap_from c.args.header.now c.args.rules.now c.args.paths.now c.requires.paths (λ k d l. c.loop-path.invariant k d (omega (arith, l, c.loop-path-test.false)))
