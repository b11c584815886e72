use Rattle.std.proofs.Common.{◌≡◌, take}
use Rattle.path_algebra.specs.ElementTerms.{terms_behind}
use Rattle.path_algebra.proofs.derivations.terms_behind.Given as goal

abbrev pub invariant-loop-term : goal.invariant-loop-term
invariant-loop-term l = l.products.items ≡ terms_behind l.header.bound l.before (take l.term-index l.terms)
