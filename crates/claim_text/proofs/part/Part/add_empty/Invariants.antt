use Rattle.claim_text.specs.Filling.{Filling}
use Rattle.claim_text.proofs.part.Part.add_empty.Given as goal

abbrev pub invariant-loop-i : goal.invariant-loop-i
invariant-loop-i l = Filling l.owner l.fn.self l.self l._i l._i-end
