use Rattle.std.proofs.Common.{arith}
use Rattle.cover_checks.proofs.ChosenSteps.{pass_pivot, pass_place, chosen_printed}
use Rattle.cover_checks.proofs.choosing.meet_column.Goals as goal

pub returns-then-has_pivot : goal.returns-then-has_pivot
returns-then-has_pivot c = λ q Q W X terms k size places R l m. pass_pivot W X terms k c.args.w size c.args.width c.args.rank c.args.basis.now places c.args.pivots.now c.args.term.now R c.args.c c.args.met l m c.if-has_pivot.ensures

pub returns-then-not-is_printed_row : goal.returns-then-not-is_printed_row
returns-then-not-is_printed_row c = λ q Q W X terms k size places R l m C. c.if-not-is_printed_row.ensures (chosen_printed W X terms k c.args.w size c.args.width c.args.rank c.args.basis.now places c.args.pivots.now c.args.term.now R c.args.c c.args.met l m c.if-has_pivot.ensures C)

pub returns-then-met-len : goal.returns-then-met-len
returns-then-met-len c = λ q Q W X terms k size places R l m C. let p = chosen_printed W X terms k c.args.w size c.args.width c.args.rank c.args.basis.now places c.args.pivots.now c.args.term.now R c.args.c c.args.met l m c.if-has_pivot.ensures C in
    let b = p.counted in
    omega (arith, b)

pub returns : goal.returns
returns c = λ q Q W X terms k size places R l m. pass_place W X terms k c.args.w size c.args.width c.args.rank c.args.basis.now places c.args.pivots.now c.args.term.now R c.args.c c.args.met l m c.if-has_pivot.ensures c.if-not-is_printed_row.ensures
