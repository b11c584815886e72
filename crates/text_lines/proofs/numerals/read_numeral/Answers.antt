use Rattle.std.proofs.Common.{sym, subst, arith, length}
use Rattle.text_lines.specs.Numerals.{WritesNumber}
use Rattle.text_lines.proofs.Digits.{written_is_decimal, decimal_is_written, decimal_no_leading_zero, decimal_value, alone}
use Rattle.text_lines.proofs.numerals.read_numeral.Goals as goal

pub returns-then-has_leading_zero-clause-none : goal.returns-then-has_leading_zero-clause-none
returns-then-has_leading_zero-clause-none c n within same =
    let zero = c.has_leading_zero.ensures.0 c.if-has_leading_zero.true in
    decimal_no_leading_zero c.args.bytes.now n (omega arith) same zero.0 zero.1

pub returns-in_err-n-clause-none : goal.returns-in_err-n-clause-none
returns-in_err-n-clause-none c =
    rw c.from_residual.ensures (λ n within same. c.in_err-n.ensures.none n (omega arith) (subst (λ l. WritesNumber l n) (sym same) (decimal_is_written n (omega arith))))

pub returns-then-n-most-clause-none : goal.returns-then-n-most-clause-none
returns-then-n-most-clause-none c n within same =
    let value = decimal_value c.args.bytes.now c.in_ok-n.n n (omega arith) same c.in_ok-n.ensures.found in
    absurd (omega (arith, value))

pub returns-clause-found : goal.returns-clause-found
returns-clause-found c = written_is_decimal c.args.bytes.now c.in_ok-n.n (omega arith) c.in_ok-n.ensures.found
    (alone c.has_leading_zero.result _ (length c.args.bytes.now) c.if-has_leading_zero.false c.has_leading_zero.ensures.1 c.in_ok-n.ensures.found.some)
