-- A whole report as a beginning.
use Rattle.std.proofs.Common.{[], sym, append-nil}
use Rattle.script_types.specs.declared.Script.{Script}
use Rattle.report_types.specs.declared.reports.Report.{Report}
use Rattle.script_answers.proofs.Fronts.{fronts_begin}
use Rattle.script_run.specs.Runs.{IsRightReport, IsRightBeginning}

pub as_beginning : (script : Script) (report : Report) → IsRightReport script report → IsRightBeginning script report
as_beginning script report right = record {
  header = right.answers.header;
  allowed = right.lawful.header;
  lawful = record { few = right.lawful.few; few_modules = right.lawful.few_modules; few_maps = right.lawful.few_maps; each = right.lawful.each };
  begins = fronts_begin script report report.records [] right.answers (sym (append-nil report.records));
  conditions = right.conditions;
  hold = right.hold;
}
