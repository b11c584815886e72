use Rattle.std.proofs.Common.{sym, ◌∙◌}
use Rattle.script_lang.proofs.Steps.{step_counted, no_line_counted}
use Rattle.script_lang.proofs.reader.take_tokens.Goals as goal

pub returns-in_default-2-clause-step : goal.returns-in_default-2-clause-step
returns-in_default-2-clause-step c =
    no_line_counted c.args.part.now c.count_line.new.part c.in-Some.word.now c.next_word.new.self c.args.words.now c.count_line.ensures c.in-Some.ensures (sym c.in_default-2.is ∙ c.in_ok-line.ensures)

pub returns-clause-step : goal.returns-clause-step
returns-clause-step c =
    step_counted c.args.part.now c.count_line.new.part c.in-Some.word.now c.next_word.new.self c.args.words.now c.in-Some-2.line _ c.take.result c.count_line.ensures c.in-Some.ensures (sym c.in-Some-2.is ∙ c.in_ok-line.ensures) c.take.ensures.taken
