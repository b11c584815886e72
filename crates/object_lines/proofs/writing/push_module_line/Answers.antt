use Rattle.std.proofs.Common.{[], ◌∷◌, ◌++◌, codes, decimal, ap, ◌∙◌}
use Rattle.object_lines.specs.Spelling.{numbers_form, side_word}
use Rattle.object_lines.proofs.WrittenLines.{line_is, then_tokens, then_token, one_token}
use Rattle.object_lines.proofs.writing.push_module_line.Goals as goal

pub returns : goal.returns
returns c =
    let k = decimal c.args.k in
    let side = side_word c.args.side in
    let dims = numbers_form c.args.dims.now in
    line_is _ _ _ _ (codes "module") (k ∷ side ∷ dims) c.in_ok-extend_from_slice.ensures.items
    (then_tokens _ _ _ (k ∷ side ∷ []) dims
    (then_token _ _ _ (k ∷ []) side (one_token _ _ k c.in_ok-push_number.ensures) (c.in_ok-push_token.ensures ∙ ap (λ t. c.push_number.new.out.items ++ 32 ∷ t) c.side_text.ensures))
    c.in_ok-push_numbers.ensures) c.in_ok-push.ensures.items
