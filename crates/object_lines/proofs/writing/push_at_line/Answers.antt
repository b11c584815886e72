use Rattle.std.proofs.Common.{[], ◌∷◌, codes}
use Rattle.object_lines.specs.Spelling.{matrix_form}
use Rattle.object_lines.proofs.WrittenLines.{line_is, then_tokens, one_token}
use Rattle.object_lines.proofs.writing.push_at_line.Goals as goal

pub returns : goal.returns
returns c =
    let name = c.args.name.now in
    let form = matrix_form c.args.m.now.rows in
    line_is _ _ _ _ (codes "at") (name ∷ form) c.in_ok-extend_from_slice.ensures.items
    (then_tokens _ _ _ (name ∷ []) form (one_token _ _ name c.in_ok-push_token.ensures) c.in_ok-push_matrix.ensures) c.in_ok-push.ensures.items
