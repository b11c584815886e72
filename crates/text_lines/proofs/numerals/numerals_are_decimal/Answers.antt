use Rattle.text_lines.proofs.Digits.{numeral-decimal}
use Rattle.text_lines.proofs.numerals.numerals_are_decimal.Goals as goal

pub returns : goal.returns
returns c = numeral-decimal
