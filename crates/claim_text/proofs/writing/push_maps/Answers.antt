use Rattle.std.proofs.Common.{◌++◌, ◌<◌, ◌+◌, length, ap, ◌∙◌, arith}
use Rattle.header_text.specs.Spelling.{text_of}
use Rattle.header_text.proofs.Joining.{line_step}
use Rattle.claim_text.specs.Spelling.{map_block}
use Rattle.claim_text.proofs.WrittenBlocks.{order_take}
use Rattle.claim_text.proofs.writing.push_maps.Goals as goal

pub loop-i-preserved : goal.loop-i-preserved
loop-i-preserved c =
    let inside : c.loop-i.i < length c.args.maps.now = omega (arith, c.loop-i-test.true) in
    line_step _ _ _ _ _ _ c.loop-i.invariant
    (c.in_ok-push_map.ensures ∙ ap (λ r. c.loop-i.out.items ++ text_of (map_block c.args.header.now (c.args.before + c.loop-i.i) r)) c.index-maps-i.is)
    (order_take (map_block c.args.header.now) c.args.before c.args.maps.now c.loop-i.i c.index-maps-i.result inside)
