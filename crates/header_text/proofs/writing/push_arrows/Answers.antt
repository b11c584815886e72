use Rattle.std.proofs.Common.{◌++◌, ◌<◌, length, ap, ◌∙◌, arith}
use Rattle.header_text.proofs.Joining.{joined_take, piece_step}
use Rattle.header_text.specs.Spelling.{arrow_name}
use Rattle.header_text.proofs.writing.push_arrows.Goals as goal

pub loop-i-preserved : goal.loop-i-preserved
loop-i-preserved c =
    let inside : c.loop-i.i < length c.args.arrows.now = omega arith in
    piece_step _ _ _ _ _ _ _ _ c.loop-i.invariant c.in_ok-push_between.ensures
    (c.in_ok-extend_from_slice.ensures.items ∙ ap (λ r. c.push_between.new.out.items ++ r) c.arrow_text.ensures)
    (joined_take (arrow_name c.args.quiver.now) 46 c.args.arrows.now c.loop-i.i 0 inside)
