use Rattle.std.proofs.Common.{ℕ, ◌<◌, slice_index_or}
use Rattle.path_algebra.specs.declared.rules.Rule.{Rule}
use Rattle.word_products.specs.WordProducts.{EndsWithArrows}
use Rattle.word_products.proofs.multiplying.rule_ending.Given as goal

abbrev pub invariant-loop-k : goal.invariant-loop-k
invariant-loop-k l = (j : ℕ) (d : Rule) → j < l.k → EndsWithArrows (slice_index_or l.rules j d).tip l.path → ⊥
