use Rattle.std.proofs.Common.{take}
use Rattle.path_algebra.specs.Elements.{sum_of_terms}
use Rattle.path_algebra.specs.ElementTerms.{AreTermsOf}
use Rattle.path_algebra.proofs.derivations.terms_of_relation.Given as goal

abbrev pub invariant-loop-term : goal.invariant-loop-term
invariant-loop-term l = AreTermsOf l.header (sum_of_terms l.header.field l.header.bound (take l.term-index l.term-items)) l.sum.items
