use Rattle.std.proofs.Common.{map, refl}
use Rattle.std.specs.Prelude.{string_bytes}
use Rattle.top_call.specs.declared.outcome.Outcome.TheVariants.{Usage, TooLong}
use Rattle.top_call.specs.declared.modes.Mode.TheVariants.{Run, Check}
use Rattle.top_call.specs.Texts.{usage_text, too_long_text}
use Rattle.top_call.proofs.OutcomeLemmas.{line_written, too_long_is, input_answered}
use Rattle.top_call.proofs.WordLemmas.{asks_for, asks_something}
use Rattle.top_call.proofs.running.answer.Goals as goal

pub returns-in_default-clause-writes : goal.returns-in_default-clause-writes
returns-in_default-clause-writes g c =
    line_written (map string_bytes c.args.words.now) (g.S.Source.left c.args.source.now) (g.S.Source.left c.args.source.now) (g.K.Sink.taken c.args.sink.now) (g.K.Sink.taken c.finish.new.sink)
    Usage c.finish.result usage_text (g.K.Sink.faults c.args.sink.now) (g.K.Sink.faults c.finish.new.sink)
    record { other = λ mode a. c.in_default.ensures mode a.workers a.asks; unread = refl; written = refl } c.finish.ensures.outcome

pub returns-in-Err-TooLong-clause-writes : goal.returns-in-Err-TooLong-clause-writes
returns-in-Err-TooLong-clause-writes g c =
    line_written (map string_bytes c.args.words.now) (g.S.Source.left c.args.source.now) (g.S.Source.left c.read_all.new.source) (g.K.Sink.taken c.args.sink.now)
    (g.K.Sink.taken c.finish-in-Err-TooLong.new.sink) TooLong c.finish-in-Err-TooLong.result too_long_text (g.K.Sink.faults c.args.sink.now) (g.K.Sink.faults c.finish-in-Err-TooLong.new.sink)
    (too_long_is (map string_bytes c.args.words.now) (g.S.Source.left c.args.source.now) (g.S.Source.left c.read_all.new.source) c.in-Some.asked.mode c.input_limit.result (asks_for (map string_bytes c.args.words.now) c.in-Some.asked c.in-Some.ensures)
    c.input_limit.ensures (rw c.in-Err-TooLong.field-0-is at c.in-Err-TooLong.ensures.refused)) c.finish-in-Err-TooLong.ensures.outcome

pub returns-in-Run-clause-writes : goal.returns-in-Run-clause-writes
returns-in-Run-clause-writes g c =
    input_answered (map string_bytes c.args.words.now) (g.S.Source.left c.args.source.now) (g.S.Source.left c.read_all.new.source) (g.K.Sink.taken c.args.sink.now)
    (g.K.Sink.taken c.run_input.new.sink) Run c.in-Some.asked.mode c.in-Ok.input.items c.deref.result.now c.input_limit.result c.run_input.result (g.K.Sink.faults c.args.sink.now)
    (g.K.Sink.faults c.run_input.new.sink) (asks_for (map string_bytes c.args.words.now) c.in-Some.asked c.in-Some.ensures) c.in-Run.is c.input_limit.ensures c.in-Ok.ensures.read c.in-Ok.ensures.within c.deref.ensures.value c.run_input.ensures.ends

pub returns-clause-writes : goal.returns-clause-writes
returns-clause-writes g c =
    input_answered (map string_bytes c.args.words.now) (g.S.Source.left c.args.source.now) (g.S.Source.left c.read_all.new.source) (g.K.Sink.taken c.args.sink.now)
    (g.K.Sink.taken c.answer_check.new.sink) Check c.in-Some.asked.mode c.in-Ok.input.items c.deref-in-Check.result.now c.input_limit.result c.answer_check.result (g.K.Sink.faults c.args.sink.now)
    (g.K.Sink.faults c.answer_check.new.sink) (asks_for (map string_bytes c.args.words.now) c.in-Some.asked c.in-Some.ensures) c.in-Check.is c.input_limit.ensures c.in-Ok.ensures.read c.in-Ok.ensures.within c.deref-in-Check.ensures.value c.answer_check.ensures.ends

pub returns-in-Err-Fault-clause-unread : goal.returns-in-Err-Fault-clause-unread
returns-in-Err-Fault-clause-unread g c = λ none. absurd (asks_something (map string_bytes c.args.words.now) c.in-Some.asked c.in-Some.ensures none)

pub returns-in-Err-TooLong-clause-unread : goal.returns-in-Err-TooLong-clause-unread
returns-in-Err-TooLong-clause-unread g c = λ none. absurd (asks_something (map string_bytes c.args.words.now) c.in-Some.asked c.in-Some.ensures none)

pub returns-in-Err-NoMemory-clause-unread : goal.returns-in-Err-NoMemory-clause-unread
returns-in-Err-NoMemory-clause-unread g c = λ none. absurd (asks_something (map string_bytes c.args.words.now) c.in-Some.asked c.in-Some.ensures none)

pub returns-in-Run-clause-unread : goal.returns-in-Run-clause-unread
returns-in-Run-clause-unread g c = λ none. absurd (asks_something (map string_bytes c.args.words.now) c.in-Some.asked c.in-Some.ensures none)

pub returns-clause-unread : goal.returns-clause-unread
returns-clause-unread g c = λ none. absurd (asks_something (map string_bytes c.args.words.now) c.in-Some.asked c.in-Some.ensures none)
