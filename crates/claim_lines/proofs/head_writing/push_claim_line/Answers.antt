use Rattle.std.proofs.Common.{◌++◌, ◌∷◌, codes, decimal, sym, ap, ◌∙◌}
use Rattle.claim_lines.specs.Spelling.{head_form}
use Rattle.claim_lines.proofs.SpacedTokens.{claim_written, line-behind}
use Rattle.claim_lines.proofs.head_writing.push_claim_line.Goals as goal

pub returns : goal.returns
returns c =
    claim_written _ _ _ _ _ _ _ _ _ _ c.in_ok-extend_from_slice.ensures.items c.in_ok-push_number.ensures c.in_ok-extend_from_slice-2.ensures.items c.in_ok-push_number-2.ensures c.in_ok-push_head.ensures
    c.in_ok-push.ensures.items
    ∙ ap (λ r. c.args.out.now.items ++ r) (sym (line-behind (codes "claim") (decimal c.args.k ∷ codes "line" ∷ decimal c.args.line ∷ head_form c.args.head.now)))
