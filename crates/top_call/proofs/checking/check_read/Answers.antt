use Rattle.std.proofs.Common.{ap, ◌∙◌, subst}
use Rattle.report_types.specs.Verdicts.{IsVerdict}
use Rattle.top_call.specs.Texts.{holds_text}
use Rattle.top_call.proofs.OutcomeLemmas.{accepts}
use Rattle.top_call.proofs.checking.check_read.Goals as goal

pub returns-in_ok-text-in-Holds : goal.returns-in_ok-text-in-Holds
returns-in_ok-text-in-Holds g c =
    accepts c.args.input.now c.in_ok-text-in-Holds.text.items c.args.report.now c.requires.reads (subst (IsVerdict c.args.report.now) c.in-Holds.is c.in_ok-check_report.ensures)
    (c.in_ok-text-in-Holds.ensures ∙ ap holds_text c.len.ensures)
