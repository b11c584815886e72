use Rattle.std.proofs.Common.{◌++◌, ap, sym, ◌∙◌}
use Rattle.claim_lines.proofs.WrittenLines.{then}
use Rattle.claim_text.proofs.WrittenBlocks.{block_text-pieces}
use Rattle.claim_text.proofs.writing.push_block.Goals as goal

pub returns : goal.returns
returns c =
    let o = c.args.out.now.items in
    then o _ _ _ _ (then o _ _ _ _ (then o _ _ _ _ (then o _ _ _ _ (then o _ _ _ _ c.in_ok-push_count.ensures c.in_ok-push_words.ensures) c.in_ok-push_count-2.ensures)
    c.in_ok-push_steps.ensures) c.in_ok-push_count-3.ensures) c.in_ok-push_rules.ensures
    ∙ ap (λ r. o ++ r) (sym (block_text-pieces c.args.quiver.now c.args.words.now c.args.steps.now c.args.rules.now))
