use Rattle.std.proofs.Common.{◌++◌, ◌<◌, length, sym, ap, ◌∙◌, arith}
use Rattle.claim_lines.proofs.WrittenLines.{then}
use Rattle.claim_lines.proofs.SpacedTokens.{parts_take}
use Rattle.claim_lines.proofs.head_writing.push_parts.Goals as goal

pub loop-part-preserved : goal.loop-part-preserved
loop-part-preserved c =
    let inside : c.loop-part.part-index < length c.args.parts.now = omega (arith, c.loop-part-test.true) in
    then _ _ _ _ _ (then _ _ _ _ _ c.loop-part.invariant c.in_ok-push_number.ensures) c.in_ok-push_number-2.ensures
    ∙ ap (λ r. c.args.out.now.items ++ r) (sym (parts_take c.args.parts.now c.loop-part.part-index _ inside))
