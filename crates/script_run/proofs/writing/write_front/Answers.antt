use Rattle.std.proofs.Common.{◌∙◌}
use Rattle.report_types.specs.declared.reports.End.TheVariants as end
use Rattle.script_run.proofs.Pieces.{front_reached, front_faulty}
use Rattle.script_run.proofs.writing.write_front.Goals as goal

pub returns-in_default-write_whole-clause-halted : goal.returns-in_default-write_whole-clause-halted
returns-in_default-write_whole-clause-halted g c =
    front_faulty c.args.script.now c.in-Ok.header c.deref.result.now (g.K.Sink.taken c.args.sink.now) (g.K.Sink.taken c.write_whole.new.sink) (g.K.Sink.faults c.args.sink.now) (g.K.Sink.faults c.write_whole.new.sink)
    c.requires c.in-Ok.ensures.cases (c.deref.ensures.value ∙ c.in-Ok-write_header.ensures) c.in_default-write_whole.ensures.front c.in_default-write_whole.ensures.failed

pub returns-clause-reached : goal.returns-clause-reached
returns-clause-reached g c =
    front_reached c.args.script.now c.in-Ok.header c.new.result end.Done c.deref.result.now (g.K.Sink.taken c.args.sink.now) (g.K.Sink.taken c.write_whole.new.sink)
    c.requires c.in-Ok.ensures.cases c.new.ensures (c.deref.ensures.value ∙ c.in-Ok-write_header.ensures) c.in-Ok-write_whole.ensures.written
