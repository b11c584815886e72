use Rattle.std.proofs.Common.{arith}
use Rattle.header_text.proofs.Readers.{no_numeral, low_numeral, order_small}
use Rattle.linear_algebra.specs.Field.{order}
use Rattle.header_text.proofs.tokens.cut_coefficient.Goals as goal

pub returns-in_default-read_numeral-clause-none : goal.returns-in_default-read_numeral-clause-none
returns-in_default-read_numeral-clause-none c =
    no_numeral (order c.args.field) c.args.token.now c.in-Some.digits.now c.in-Some.rest.now (order_small c.args.field) c.in-Some.ensures.cut.0 c.in-Some.ensures.cut.1
    (λ n h. c.in_default-read_numeral.ensures.none n (omega (arith, c.from.ensures, c.size.ensures, h)))

pub returns-then-c-lt2-clause-none : goal.returns-then-c-lt2-clause-none
returns-then-c-lt2-clause-none c =
    low_numeral (order c.args.field) c.args.token.now c.in-Some.digits.now c.in-Some.rest.now c.in-Some-read_numeral.c (order_small c.args.field) c.in-Some.ensures.cut.0 c.in-Some.ensures.cut.1
    c.in-Some-read_numeral.ensures.found c.if-c-lt2.true
