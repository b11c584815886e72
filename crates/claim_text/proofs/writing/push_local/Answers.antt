use Rattle.std.proofs.Common.{◌++◌, ap, map, sym, ◌∙◌}
use Rattle.text_lines.specs.Strict.{strict_line}
use Rattle.object_lines.specs.Spelling.{ideal_line, power_line, residue_line, row_line}
use Rattle.claim_lines.proofs.WrittenLines.{then}
use Rattle.claim_text.proofs.WrittenBlocks.{text-of_four}
use Rattle.claim_text.proofs.writing.push_local.Goals as goal

pub returns : goal.returns
returns c =
    let o = c.args.out.now.items in
    let m = c.args.ideal.now in
    let first = c.in_ok-push_ideal_line.ensures ∙ ap (λ n. o ++ strict_line (ideal_line n)) c.rows.ensures.count in
    then o _ _ _ _ (then o _ _ _ _ (then o _ _ _ _ first c.in_ok-push_row_lines.ensures) c.in_ok-push_power_line.ensures) c.in_ok-push_residue_line.ensures
    ∙ ap (λ r. o ++ r) (sym (text-of_four (ideal_line m.row_count) (map row_line m.rows) (power_line c.args.power) (residue_line c.args.residue)))
