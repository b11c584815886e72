use Rattle.std.proofs.Common.{sym, subst, ap, ◌∙◌}
use Rattle.text_lines.specs.Lines.{lines}
use Rattle.text_lines.specs.Reading.{ReadsWhole}
use Rattle.claim_text.specs.Part.{report_of}
use Rattle.claim_text.specs.Steps.{Step, MayEnd}
use Rattle.claim_text.specs.Texts.{IsTextOf}
use Rattle.claim_text.proofs.SoundReading.{read_is_report}
use Rattle.claim_text.proofs.reader.read.Goals as goal

pub returns-in-Ok-clause-report : goal.returns-in-Ok-clause-report
returns-in-Ok-clause-report c =
    let last = c.read_lines.new.reader in
    subst (IsTextOf c.args.text.now) (sym (c.report_of.ensures ∙ ap report_of c.reader.view_is))
    (read_is_report c.args.text.now last (subst (λ s. ReadsWhole Step MayEnd s (lines c.args.text.now) last) c.start.ensures c.in-Ok.ensures.whole))
