use Rattle.std.proofs.Common.{◌≡◌, take}
use Rattle.linear_algebra.specs.Rows.{unit}
use Rattle.word_products.specs.SparseRows.{acted_terms}
use Rattle.word_products.proofs.word_sums.Sum.of_terms.Given as goal

abbrev pub invariant-loop-term : goal.invariant-loop-term
invariant-loop-term l = l.self ≡ record l.initial.self { sum = acted_terms l.initial.self.field l.rows.rows l.arrows l.bound l.like (take l.term-index l.terms) (unit l.initial.self.width l.place) }
