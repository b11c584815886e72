use Rattle.std.proofs.Common.{◌++◌, ◌<◌, length, ap, ◌∙◌, arith}
use Rattle.header_text.proofs.Joining.{plus_take, piece_step}
use Rattle.header_text.specs.Spelling.{term_text}
use Rattle.header_text.proofs.writing.push_terms.Goals as goal

pub loop-i-preserved : goal.loop-i-preserved
loop-i-preserved c =
    let inside : c.loop-i.i < length c.args.terms.now = omega arith in
    piece_step _ _ _ _ _ _ _ _ c.loop-i.invariant c.in_ok-push_between.ensures
    (c.in_ok-push_term.ensures ∙ ap (λ r. c.push_between.new.out.items ++ term_text c.args.quiver.now r) c.index-terms-i.is)
    (plus_take (term_text c.args.quiver.now) c.args.terms.now c.loop-i.i c.index-terms-i.result inside)
