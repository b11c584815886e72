use Rattle.header_text.proofs.TermLemmas.{DifferBelow}
use Rattle.header_text.proofs.terms.are_different.Given as goal

abbrev pub invariant-loop-i : goal.invariant-loop-i
invariant-loop-i l = DifferBelow l.terms l.i
