use Rattle.script_run.proofs.Pieces.{faults_before}
use Rattle.script_run.proofs.RightReports.{right_first}
use Rattle.script_run.proofs.running.run_statements.Goals as goal

pub returns-in-Err-clause-end : goal.returns-in-Err-clause-end
returns-in-Err-clause-end g c = λ start reached.
    c.end_of_halt.ensures c.args.script.now start (g.K.Sink.taken c.write_first.new.sink) (g.K.Sink.faults c.args.sink.now) (g.K.Sink.faults c.write_first.new.sink)
    (c.in-Err.ensures.halted start reached)

pub write_last-requires-clause-right : goal.write_last-requires-clause-right
write_last-requires-clause-right g c =
    right_first c.args.script.now c.args.first c.requires.lawful c.requires.first c.in-Ok.next.header c.in-Ok.next.records c.end_of_statements.result
    c.in-Ok.ensures.header c.in-Ok.ensures.records c.end_of_statements.ensures

pub returns-clause-end : goal.returns-clause-end
returns-clause-end g c = λ start reached.
    faults_before c.args.script.now c.write_last.result start (g.K.Sink.taken c.write_last.new.sink) (g.K.Sink.faults c.args.sink.now) (g.K.Sink.faults c.write_first.new.sink)
    (g.K.Sink.faults c.write_last.new.sink) c.write_first.ensures.count (c.write_last.ensures.end start (c.in-Ok.ensures.reached start reached))
