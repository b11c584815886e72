use Rattle.std.proofs.Common.{◌∷◌, [], decimal, sym, ◌∙◌}
use Rattle.claim_lines.proofs.RuleReading.{one_tail}
use Rattle.claim_lines.proofs.rules.tail_and_place.Goals as goal

pub returns-in_default-only_place : goal.returns-in_default-only_place
returns-in_default-only_place c = λ x is e.
    let known = rw c.in-Some.is at c.in_ok-terms.ensures in
    let same = one_tail c.args.header.now c.requires x.0 c.in-Some.terms (decimal x.1 ∷ []) c.read_tail.new.tokens is.0 known.0 (sym e ∙ known.1) in
    c.in_default-only_place.ensures x.1 is.1 (sym same.1)
