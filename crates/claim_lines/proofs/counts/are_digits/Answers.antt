use Rattle.std.proofs.Common.{◌≡◌, true, false, arith}
use Rattle.std.proofs.lemmas.Str.Parse.{digit_at}
use Rattle.std.proofs.lemmas.Int.Digits.{digits_more}
use Rattle.claim_lines.proofs.counts.are_digits.Goals as goal

pub returns-then-not-is_ascii_digit : goal.returns-then-not-is_ascii_digit
returns-then-not-is_ascii_digit c = (
  λ f. let g : false ≡ true = f in cc,
  λ all.
      let digit = digit_at c.args.bytes.now c.loop-byte.byte-index all c.loop-byte-test.true in
      absurd (omega (arith, digit, c.if-not-is_ascii_digit.ensures.cases)),
)

pub loop-byte-preserved : goal.loop-byte-preserved
loop-byte-preserved c = digits_more 10 c.args.bytes.now c.loop-byte.byte-index c.loop-byte-test.true c.loop-byte.invariant (c.if-not-is_ascii_digit.ensures.bound)
