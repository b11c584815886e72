use Rattle.std.proofs.Common.{◌++◌, ◌<◌, length, ap, ◌∙◌, arith}
use Rattle.header_text.specs.Spelling.{text_of}
use Rattle.header_text.proofs.Joining.{line_step}
use Rattle.claim_text.specs.Spelling.{term_block}
use Rattle.claim_text.proofs.WrittenBlocks.{order_take_from_0}
use Rattle.claim_text.proofs.writing.push_terms.Goals as goal

pub loop-k-preserved : goal.loop-k-preserved
loop-k-preserved c =
    let inside : c.loop-k.k < length c.args.terms.now = omega (arith, c.loop-k-test.true) in
    line_step _ _ _ _ _ _ c.loop-k.invariant
    (c.in_ok-push_term.ensures ∙ ap (λ r. c.loop-k.out.items ++ text_of (term_block c.args.quiver.now c.loop-k.k r)) c.index-terms-k.is)
    (order_take_from_0 (term_block c.args.quiver.now) c.args.terms.now c.loop-k.k c.index-terms-k.result inside)
