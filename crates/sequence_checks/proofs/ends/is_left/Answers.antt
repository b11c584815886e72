use Rattle.translate_checks.specs.Across.{sides_of, of_terms}
use Rattle.translate_checks.specs.Steps.{module_in}
use Rattle.sequence_checks.proofs.EndTests.{left_yes, left_no}
use Rattle.sequence_checks.proofs.ends.is_left.Goals as goal

pub returns-in-Some : goal.returns-in-Some
returns-in-Some c = λ t.
    let h = c.args.table.now.header in
    let ws = c.args.table.now.words in
    left_no (sides_of h ws t c.args.side) (of_terms c.args.cover.now c.args.syzygy.now) (module_in h ws t c.args.side c.args.n.now) c.args.rows.now c.first_failing_embedding-answer.result c.in-Some.field-0 c.in-Some.is (c.first_failing_embedding-answer.ensures t)

pub returns-in-None : goal.returns-in-None
returns-in-None c = λ t.
    let h = c.args.table.now.header in
    let ws = c.args.table.now.words in
    left_yes (sides_of h ws t c.args.side) (of_terms c.args.cover.now c.args.syzygy.now) (module_in h ws t c.args.side c.args.n.now) c.args.rows.now c.first_failing_embedding-answer.result c.in-None.is (c.first_failing_embedding-answer.ensures t)
