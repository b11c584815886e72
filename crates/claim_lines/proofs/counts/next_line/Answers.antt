use Rattle.std.proofs.Common.{◌<◌, ◌^◌, arith, lit<}
use Rattle.claim_lines.proofs.NumberReading.{zero_first}
use Rattle.claim_lines.proofs.counts.next_line.Goals as goal

pub returns-then-n-eq0 : goal.returns-then-n-eq0
returns-then-n-eq0 c = λ x rest is e. zero_first c.in-Some.n x c.args.tokens.now _ rest c.if-n-eq0.true (let from = is.from in omega arith) (let to = is.to in let big : 4194304 < 2 ^ 64 = lit< tt in omega arith) c.in-Some.ensures.taken e
