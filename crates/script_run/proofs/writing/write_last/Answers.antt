use Rattle.std.proofs.Common.{sym, ◌∙◌, subst}
use Rattle.script_run.specs.declared.ends.RunEnd.{RunEnd}
use Rattle.script_run.specs.Runs.{RunsTo}
use Rattle.script_run.proofs.Pieces.{halts_for_memory, last_taken, last_faulty}
use Rattle.script_run.proofs.writing.write_last.Goals as goal

pub returns-in_default-clause-end : goal.returns-in_default-clause-end
returns-in_default-clause-end g c = λ start reached. halts_for_memory c.args.script.now c.args.report start (g.K.Sink.taken c.args.sink.now) reached

pub returns-in_default-write_whole-clause-end : goal.returns-in_default-write_whole-clause-end
returns-in_default-write_whole-clause-end g c = λ start reached.
    last_faulty c.args.script.now c.args.report c.args.last c.deref.result.now c.requires.right (c.deref.ensures.value ∙ c.in-Ok.ensures)
    start (g.K.Sink.taken c.args.sink.now) (g.K.Sink.taken c.write_whole.new.sink) (g.K.Sink.faults c.args.sink.now) (g.K.Sink.faults c.write_whole.new.sink) reached
    c.in_default-write_whole.ensures.front c.in_default-write_whole.ensures.failed

pub returns-clause-end : goal.returns-clause-end
returns-clause-end g c = λ start reached.
    subst (λ (r : RunEnd). RunsTo c.args.script.now r start (g.K.Sink.taken c.write_whole.new.sink) (g.K.Sink.faults c.args.sink.now) (g.K.Sink.faults c.write_whole.new.sink)) (sym c.end_of.ensures)
    (last_taken c.args.script.now c.args.report c.args.last c.deref.result.now c.requires.right (c.deref.ensures.value ∙ c.in-Ok.ensures)
    start (g.K.Sink.taken c.args.sink.now) (g.K.Sink.taken c.write_whole.new.sink) (g.K.Sink.faults c.args.sink.now) (g.K.Sink.faults c.write_whole.new.sink) _ reached
    c.in-Ok-write_whole.ensures.written c.len-claims.ensures)
