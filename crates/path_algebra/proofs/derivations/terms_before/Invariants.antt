use Rattle.std.proofs.Common.{◌≡◌, take}
use Rattle.path_algebra.specs.ElementTerms.{terms_before}
use Rattle.path_algebra.proofs.derivations.terms_before.Given as goal

abbrev pub invariant-loop-term : goal.invariant-loop-term
invariant-loop-term l = l.products.items ≡ terms_before l.header.bound l.behind (take l.term-index l.terms)
