use Rattle.std.proofs.Common.{◌++◌, ◌<◌, length, sym, ap, ◌∙◌, arith}
use Rattle.claim_lines.proofs.WrittenLines.{then}
use Rattle.claim_lines.proofs.SpacedTokens.{numbers_take}
use Rattle.claim_lines.proofs.head_writing.push_numbers.Goals as goal

pub loop-n-preserved : goal.loop-n-preserved
loop-n-preserved c =
    let inside : c.loop-n.n-index < length c.args.numbers.now = omega (arith, c.loop-n-test.true) in
    then _ _ _ _ _ c.loop-n.invariant c.in_ok-push_number.ensures ∙ ap (λ r. c.args.out.now.items ++ r) (sym (numbers_take c.args.numbers.now c.loop-n.n-index 0 inside))
