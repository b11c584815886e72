use Rattle.std.proofs.Common.{◌++◌, ◌<◌, length, ap, ◌∙◌, arith}
use Rattle.header_text.proofs.Joining.{text_take, line_step}
use Rattle.claim_lines.specs.Spelling.{word_line}
use Rattle.text_lines.specs.Strict.{strict_line}
use Rattle.claim_text.proofs.writing.push_words.Goals as goal

pub loop-word-preserved : goal.loop-word-preserved
loop-word-preserved c =
    let inside : c.loop-word.word-index < length c.args.words.now = omega (arith, c.loop-word-test.true) in
    line_step _ _ _ _ _ _ c.loop-word.invariant
    (c.in_ok-push_word.ensures ∙ ap (λ r. c.loop-word.out.items ++ strict_line (word_line c.args.quiver.now r)) (c.word-item.is))
    (text_take (word_line c.args.quiver.now) c.args.words.now c.loop-word.word-index c.word-item.result inside)
