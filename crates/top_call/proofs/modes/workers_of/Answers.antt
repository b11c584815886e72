use Rattle.std.proofs.Common.{arith, sym, ◌∙◌}
use Rattle.header_text.proofs.Uniqueness.{decimal_one}
use Rattle.top_call.proofs.modes.workers_of.Goals as goal

pub returns-then-found-eq0 : goal.returns-then-found-eq0
returns-then-found-eq0 c = λ k named.
    let same = decimal_one c.in-Some.found k (omega (arith, c.in-Some.ensures.within)) (omega (arith, named.to)) (sym c.in-Some.ensures.found ∙ c.as_bytes.ensures.value ∙ named.written) in
    omega (arith, same, named.from, c.if-found-eq0.true)
