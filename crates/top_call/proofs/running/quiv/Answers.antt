use Rattle.std.proofs.Common.{map}
use Rattle.std.specs.Prelude.{string_bytes}
use Rattle.top_call.proofs.ExpectedLemmas.{as_expected}
use Rattle.top_call.proofs.WholeRuns.{runs_whole}
use Rattle.top_call.proofs.running.quiv.Goals as goal

pub returns-clause-complete : goal.returns-clause-complete
returns-clause-complete g c = λ mode asks x y input tells short good.
    as_expected (map string_bytes c.args.words.now) (g.S.Source.left c.args.source.now)
    (g.S.Source.left c.answer.new.source) (g.K.Sink.taken c.args.sink.now) (g.K.Sink.taken c.answer.new.sink) mode input asks tells short good c.answer.result
    (g.S.Source.faults c.args.source.now) (g.S.Source.faults c.answer.new.source) (g.K.Sink.faults c.args.sink.now) (g.K.Sink.faults c.answer.new.sink) c.answer.ensures.writes
    c.answer.ensures.cause x y

pub returns-clause-unrefused : goal.returns-clause-unrefused
returns-clause-unrefused g c = λ asks x y input tells short script reads few.
    runs_whole (map string_bytes c.args.words.now) (g.S.Source.left c.args.source.now)
    (g.S.Source.left c.answer.new.source) (g.K.Sink.taken c.args.sink.now) (g.K.Sink.taken c.answer.new.sink) input asks tells short script reads few c.answer.result
    (g.S.Source.faults c.args.source.now) (g.S.Source.faults c.answer.new.source) (g.K.Sink.faults c.args.sink.now) (g.K.Sink.faults c.answer.new.sink) c.answer.ensures.writes
    c.answer.ensures.cause x y

pub returns-clause-writes : goal.returns-clause-writes
returns-clause-writes g c = c.answer.ensures.writes

pub returns-clause-cause : goal.returns-clause-cause
returns-clause-cause g c = c.answer.ensures.cause

pub returns-clause-counts : goal.returns-clause-counts
returns-clause-counts g c = c.answer.ensures.counts

pub returns-clause-unread : goal.returns-clause-unread
returns-clause-unread g c = c.answer.ensures.unread
