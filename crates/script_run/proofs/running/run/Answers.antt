use Rattle.std.proofs.Common.{subst}
use Rattle.script_run.specs.Records.{IsBasisAnswer}
use Rattle.script_run.proofs.RightReports.{right_too_many}
use Rattle.script_run.proofs.Pieces.{halts_for_memory}
use Rattle.script_run.proofs.running.run.Goals as goal

pub returns-in_default-clause-end : goal.returns-in_default-clause-end
returns-in_default-clause-end g c =
    halts_for_memory c.args.script.now c.in-Ok.report (g.K.Sink.taken c.args.sink.now) (g.K.Sink.taken c.write_front.new.sink) c.in-Ok.ensures.reached

pub write_last-requires-clause-right : goal.write_last-requires-clause-right
write_last-requires-clause-right g c =
    right_too_many c.args.script.now c.in-Ok.report.header c.in-Ok.report.records c.in-TooMany.count c.requires.lawful
    (subst (IsBasisAnswer c.args.script.now) c.in-TooMany.is c.in-Ok-answer_basis.ensures) c.in-Ok.ensures.header c.in-Ok.ensures.empty
