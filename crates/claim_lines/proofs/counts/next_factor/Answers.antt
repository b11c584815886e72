use Rattle.std.proofs.Common.{◌<◌, ◌^◌, arith, lit<}
use Rattle.header_text.proofs.Readers.{order_small}
use Rattle.claim_lines.proofs.NumberReading.{zero_first}
use Rattle.claim_lines.proofs.counts.next_factor.Goals as goal

pub returns-then-n-eq0 : goal.returns-then-n-eq0
returns-then-n-eq0 c = λ x rest is e. zero_first c.in-Some.n x c.args.tokens.now _ rest c.if-n-eq0.true (is.0) (let low = order_small c.args.field in let small = is.1 in let big : 27 < 2 ^ 64 = lit< tt in omega arith) c.in-Some.ensures.taken e
