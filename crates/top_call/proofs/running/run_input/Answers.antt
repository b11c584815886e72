use Rattle.std.proofs.Common.{sym, subst}
use Rattle.top_call.specs.declared.outcome.Outcome.{Outcome}
use Rattle.top_call.specs.declared.modes.Mode.TheVariants.{Run}
use Rattle.top_call.specs.Steps.{EndsWith}
use Rattle.top_call.proofs.OutcomeLemmas.{run_written, refused_script}
use Rattle.top_call.proofs.running.run_input.Goals as goal

pub returns-in-Ok-clause-ends : goal.returns-in-Ok-clause-ends
returns-in-Ok-clause-ends g c =
    subst (λ (o : Outcome). EndsWith Run c.args.input.now o (g.K.Sink.taken c.args.sink.now) (g.K.Sink.taken c.run.new.sink) (g.K.Sink.faults c.args.sink.now) (g.K.Sink.faults c.run.new.sink))
    (sym c.outcome_of.ensures)
    (run_written c.args.input.now c.in-Ok.script c.in-Ok.ensures.script c.run.result (g.K.Sink.taken c.args.sink.now) (g.K.Sink.taken c.run.new.sink) (g.K.Sink.faults c.args.sink.now)
    (g.K.Sink.faults c.run.new.sink) c.run.ensures.end)

pub returns-in-Err-BadText-clause-ends : goal.returns-in-Err-BadText-clause-ends
returns-in-Err-BadText-clause-ends g c =
    refused_script c.args.input.now c.in-Err-BadText.line (g.K.Sink.taken c.args.sink.now) (g.K.Sink.taken c.refuse_text.new.sink) (g.K.Sink.faults c.args.sink.now)
    (g.K.Sink.faults c.refuse_text.new.sink) c.refuse_text.result (rw c.in-Err-BadText.field-0-is at c.in-Err-BadText.ensures.refused) c.refuse_text.ensures.ends
