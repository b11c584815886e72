use Rattle.report_types.specs.declared.reports.End.TheVariants.{Done}
use Rattle.script_run.proofs.RightReports.{alone_is_report}
use Rattle.script_run.proofs.Pieces.{halts_for_memory, first_reached, first_faulty, pushed_one, record_written}
use Rattle.script_run.proofs.writing.write_first.Goals as goal

pub returns-in_default-clause-halted : goal.returns-in_default-clause-halted
returns-in_default-clause-halted g c = λ start reached. halts_for_memory c.args.script.now c.args.report start (g.K.Sink.taken c.args.sink.now) reached

pub returns-in_default-write_record-clause-halted : goal.returns-in_default-write_record-clause-halted
returns-in_default-write_record-clause-halted g c = λ start reached. halts_for_memory c.args.script.now c.args.report start (g.K.Sink.taken c.args.sink.now) reached

pub returns-in_default-write_whole-clause-halted : goal.returns-in_default-write_whole-clause-halted
returns-in_default-write_whole-clause-halted g c = λ start reached.
    let one = pushed_one c.args.report.records c.push.new.self c.args.first c.requires.empty c.in-Ok.ensures in
    first_faulty c.args.script.now c.args.report c.args.first c.push.new.self c.deref.result.now c.requires.lawful c.requires.first c.requires.header c.requires.empty one
    (record_written c.args.report.header c.push.new.self c.args.first c.in-Ok-write_record.text.items c.deref.result.now one c.in-Ok-write_record.ensures c.deref.ensures.value)
    start (g.K.Sink.taken c.args.sink.now) (g.K.Sink.taken c.write_whole.new.sink) (g.K.Sink.faults c.args.sink.now) (g.K.Sink.faults c.write_whole.new.sink) reached
    c.in_default-write_whole.ensures.front c.in_default-write_whole.ensures.failed

pub returns-clause-reached : goal.returns-clause-reached
returns-clause-reached g c = λ start reached.
    let one = pushed_one c.args.report.records c.push.new.self c.args.first c.requires.empty c.in-Ok.ensures in
    first_reached c.args.script.now c.args.report c.args.first c.push.new.self c.deref.result.now c.requires.lawful c.requires.first c.requires.header c.requires.empty one
    (record_written c.args.report.header c.push.new.self c.args.first c.in-Ok-write_record.text.items c.deref.result.now one c.in-Ok-write_record.ensures c.deref.ensures.value)
    Done start (g.K.Sink.taken c.args.sink.now) (g.K.Sink.taken c.write_whole.new.sink) reached c.in-Ok-write_whole.ensures.written

pub write_record-requires-clause-lawful : goal.write_record-requires-clause-lawful
write_record-requires-clause-lawful g c =
    alone_is_report c.args.script.now c.args.first c.args.report.header c.push.new.self c.requires.lawful c.requires.first c.requires.header
    (pushed_one c.args.report.records c.push.new.self c.args.first c.requires.empty c.in-Ok.ensures)
