use Rattle.std.proofs.Common.{◌++◌, List, [], All, ap, sym, subst, ◌∙◌}
use Rattle.text_lines.specs.Strict.{strict_line}
use Rattle.header_text.specs.Spelling.{text_of}
use Rattle.report_types.specs.declared.claims.Record.{Record}
use Rattle.claim_lines.specs.Spelling.{end_line}
use Rattle.claim_text.specs.Spelling.{records_lines, front_text}
use Rattle.claim_text.specs.Writable.{IsWritable}
use Rattle.claim_lines.proofs.WrittenLines.{then}
use Rattle.claim_text.proofs.WrittenRecords.{report_text-pieces, all_writable}
use Rattle.claim_text.proofs.writing.write.Goals as goal

pub returns : goal.returns
returns c =
    let r = c.args.report.now in
    let front = c.in_ok-push_front.ensures ∙ ap (λ x. x ++ front_text r) c.new-out.ensures.items in
    then [] _ _ _ _ (then [] _ _ _ _ front (c.in_ok-push_records.ensures ∙ ap (λ rs. c.push_front.new.out.items ++ text_of (records_lines r.header 0 0 0 rs)) c.as_slice.ensures))
    (c.in_ok-push_end.ensures ∙ ap (λ k. c.push_records.new.out.items ++ strict_line (end_line r.header k r.end)) c.len.ensures)
    ∙ sym (report_text-pieces r)

pub push_records-requires-clause-writable : goal.push_records-requires-clause-writable
push_records-requires-clause-writable c = subst (λ (x : List Record). All IsWritable x) (sym c.as_slice.ensures) (all_writable c.args.report.now c.requires)
