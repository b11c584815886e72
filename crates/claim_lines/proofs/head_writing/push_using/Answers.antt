use Rattle.std.proofs.Common.{◌++◌, ◌∷◌, map, decimal, codes, sym, ap, ◌∙◌}
use Rattle.claim_lines.proofs.WrittenLines.{then}
use Rattle.claim_lines.proofs.SpacedTokens.{behind-append}
use Rattle.claim_lines.proofs.head_writing.push_using.Goals as goal

pub returns : goal.returns
returns c =
    then _ _ _ _ _ c.in_ok-push_form.ensures c.in_ok-push_form-2.ensures
    ∙ ap (λ r. c.args.out.now.items ++ r) (sym (behind-append (c.args.word.now ∷ map decimal c.args.numbers.now) (codes "using" ∷ map decimal c.args.claims.now)))
