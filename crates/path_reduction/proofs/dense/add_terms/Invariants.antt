use Rattle.std.proofs.Common.{take}
use Rattle.path_algebra.specs.Elements.{sum_of_terms}
use Rattle.path_reduction.specs.Reducing.{HoldsElement}
use Rattle.path_reduction.proofs.dense.add_terms.Given as goal

abbrev pub invariant-loop-term : goal.invariant-loop-term
invariant-loop-term l = HoldsElement l.header l.space (sum_of_terms l.header.field l.header.bound (take l.term-index l.terms)) l.coefs
