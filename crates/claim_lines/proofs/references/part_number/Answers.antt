use Rattle.std.proofs.Common.{◌<◌, ◌^◌, sym, ◌∙◌, arith, lit<}
use Rattle.header_text.proofs.Uniqueness.{decimal_one}
use Rattle.claim_lines.proofs.ReferenceReading.{part_small}
use Rattle.claim_lines.proofs.references.part_number.Goals as goal

pub returns-then-k-eq0 : goal.returns-then-k-eq0
returns-then-k-eq0 c = λ x is e.
    let low : 0 < 2 ^ 64 = lit< tt in
    let same = decimal_one c.in-Some.k x (omega (arith, c.if-k-eq0.true)) (part_small x is) (sym c.in-Some.ensures.found ∙ e) in
    let from = is.from in
    absurd (omega (arith, same, c.if-k-eq0.true))
