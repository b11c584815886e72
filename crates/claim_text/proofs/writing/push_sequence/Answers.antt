use Rattle.std.proofs.Common.{◌++◌, ap, sym, ◌∙◌}
use Rattle.object_lines.specs.Spelling.{phi_line, left_line, middle_line}
use Rattle.claim_lines.proofs.WrittenLines.{then}
use Rattle.claim_text.specs.Spelling.{at_vertices}
use Rattle.claim_text.proofs.WrittenBlocks.{text-of_five}
use Rattle.claim_text.proofs.writing.push_sequence.Goals as goal

pub returns : goal.returns
returns c =
    let o = c.args.out.now.items in
    let h = c.args.header.now in
    then o _ _ _ _ (then o _ _ _ _ (then o _ _ _ _ (then o _ _ _ _ c.in_ok-push_phi_line.ensures c.in_ok-push_left_line.ensures) c.in_ok-push_at_vertices.ensures)
    c.in_ok-push_middle_line.ensures) c.in_ok-push_at_vertices-2.ensures
    ∙ ap (λ r. o ++ r) (sym (text-of_five (phi_line c.args.phi.now) left_line (at_vertices h c.args.left.now) middle_line (at_vertices h c.args.middle.now)))
