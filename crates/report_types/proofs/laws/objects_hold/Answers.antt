use Rattle.std.proofs.Common.{subst}
use Rattle.std.specs.Prelude.{take}
use Rattle.report_types.specs.Holding.{MayHold}
use Rattle.report_types.specs.Verdicts.{sides_by}
use Rattle.report_types.proofs.VerdictLaws.{words_of}
use Rattle.report_types.proofs.laws.objects_hold.Goals as goal

pub returns-clause-modules : goal.returns-clause-modules
returns-clause-modules c = λ report k r ok holds e.
    let n = words_of report.header ok in (subst (MayHold report.header (sides_by n) (take k report.records)) e (holds n)).modules

pub returns-clause-maps : goal.returns-clause-maps
returns-clause-maps c = λ report k r ok holds e.
    let n = words_of report.header ok in (subst (MayHold report.header (sides_by n) (take k report.records)) e (holds n)).maps
