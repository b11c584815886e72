use Rattle.std.proofs.Common.{◌+◌, get_or, arith}
use Rattle.std.proofs.lemmas.Str.{digit_value_digit}
use Rattle.std.proofs.lemmas.Str.Parse.{digit_at}
use Rattle.std.proofs.lemmas.Int.Digits.{digits_value_more, digits_more}
use Rattle.text_lines.proofs.Digits.{digits_value-take}
use Rattle.text_lines.proofs.numerals.digits_value.Goals as goal

pub returns-then-not-is_ascii_digit-clause-none : goal.returns-then-not-is_ascii_digit-clause-none
returns-then-not-is_ascii_digit-clause-none c n small writes =
    omega (arith, digit_at c.args.bytes.now c.loop-byte.byte-index writes.digits c.loop-byte-test.true, c.if-not-is_ascii_digit.ensures.cases)

pub returns-then-n-digit-clause-none : goal.returns-then-n-digit-clause-none
returns-then-n-digit-clause-none c n small writes =
    let more = digits_value_more 10 c.args.bytes.now c.loop-byte.byte-index c.loop-byte-test.true in
    let within = digits_value-take c.args.bytes.now (c.loop-byte.byte-index + 1) in
    let digit = digit_value_digit (get_or c.args.bytes.now c.loop-byte.byte-index 0) c.if-not-is_ascii_digit.ensures.cases in
    omega (arith, more, within, digit, writes.value)

pub loop-byte-preserved : goal.loop-byte-preserved
loop-byte-preserved c =
    let more = digits_value_more 10 c.args.bytes.now c.loop-byte.byte-index c.loop-byte-test.true in
    let digit = digit_value_digit (get_or c.args.bytes.now c.loop-byte.byte-index 0) c.if-not-is_ascii_digit.ensures.cases in
    record {
      digits = digits_more 10 c.args.bytes.now c.loop-byte.byte-index c.loop-byte-test.true c.loop-byte.invariant.digits (c.if-not-is_ascii_digit.ensures.bound);
      value = omega (arith, more, digit);
    }
