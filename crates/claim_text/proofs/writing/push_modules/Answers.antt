use Rattle.std.proofs.Common.{◌++◌, ◌<◌, ◌+◌, length, ap, ◌∙◌, arith}
use Rattle.header_text.specs.Spelling.{text_of}
use Rattle.header_text.proofs.Joining.{line_step}
use Rattle.claim_text.specs.Spelling.{module_block}
use Rattle.claim_text.proofs.WrittenBlocks.{order_take}
use Rattle.claim_text.proofs.writing.push_modules.Goals as goal

pub loop-i-preserved : goal.loop-i-preserved
loop-i-preserved c =
    let inside : c.loop-i.i < length c.args.modules.now = omega (arith, c.loop-i-test.true) in
    line_step _ _ _ _ _ _ c.loop-i.invariant
    (c.in_ok-push_module.ensures ∙ ap (λ r. c.loop-i.out.items ++ text_of (module_block c.args.header.now (c.args.before + c.loop-i.i) r)) c.index-modules-i.is)
    (order_take (module_block c.args.header.now) c.args.before c.args.modules.now c.loop-i.i c.index-modules-i.result inside)
