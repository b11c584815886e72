use Rattle.std.proofs.Common.{◌<◌, length, arith}
use Rattle.header_text.proofs.Joining.{line_step}
use Rattle.claim_text.proofs.WrittenBlocks.{steps_take}
use Rattle.claim_text.proofs.writing.push_steps.Goals as goal

pub loop-i-preserved : goal.loop-i-preserved
loop-i-preserved c =
    let inside : c.loop-i.i < length c.args.steps.now = omega (arith, c.loop-i-test.true) in
    line_step _ _ _ _ _ _ c.loop-i.invariant c.in_ok-push_step.ensures (steps_take c.args.quiver.now c.args.steps.now c.loop-i.i _ inside)
