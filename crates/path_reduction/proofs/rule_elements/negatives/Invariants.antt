use Rattle.std.proofs.Common.{◌≡◌, take, map}
use Rattle.path_algebra.specs.ElementTerms.{negative}
use Rattle.path_reduction.proofs.rule_elements.negatives.Given as goal

abbrev pub invariant-loop-term : goal.invariant-loop-term
invariant-loop-term l = l.others.items ≡ map (negative l.header.field) (take l.term-index l.terms)
