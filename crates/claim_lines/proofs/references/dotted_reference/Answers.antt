use Rattle.std.proofs.Common.{refl}
use Rattle.claim_lines.proofs.ReferenceReading.{dotted_only}
use Rattle.claim_lines.proofs.references.dotted_reference.Goals as goal

pub returns-in_default : goal.returns-in_default
returns-in_default c = λ r is e.
    let d = dotted_only c.args.front.now c.args.back.now c.requires r is e in
    c.in_default.ensures c.args.front.now d.named refl

pub returns-in_default-suffix_of : goal.returns-in_default-suffix_of
returns-in_default-suffix_of c = λ r is e.
    let d = dotted_only c.args.front.now c.args.back.now c.requires r is e in
    c.in_default-suffix_of.ensures r.suffix d.value d.spelled
