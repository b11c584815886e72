use Rattle.std.proofs.Common.{arith}
use Rattle.text_lines.proofs.ShortNumbers.{number-long, number-read}
use Rattle.text_lines.proofs.script.script_number.Goals as goal

pub returns-then-bytes-gt10 : goal.returns-then-bytes-gt10
returns-then-bytes-gt10 c = number-long c.args.bytes.now (omega arith)

pub returns : goal.returns
returns c = number-read c.args.bytes.now c.digits_value.result c.if-bytes-gt10.false c.digits_value.ensures.found c.digits_value.ensures.none
