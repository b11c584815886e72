use Rattle.object_lines.proofs.NumberReading.{is_number}
use Rattle.object_lines.proofs.numbers.take_number.Goals as goal

pub returns : goal.returns
returns c = is_number c.in-Some.found c.args.n c.args.tokens.now c.take_numeral.new.self c.in-Some.ensures.within c.ranges.n.fits c.in-Some.ensures.taken
