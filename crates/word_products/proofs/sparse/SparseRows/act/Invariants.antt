use Rattle.std.proofs.Common.{◌≡◌}
use Rattle.word_products.specs.SparseRows.{acted_to}
use Rattle.word_products.proofs.sparse.SparseRows.act.Given as goal

abbrev pub invariant-loop-i : goal.invariant-loop-i
invariant-loop-i l = l.into ≡ acted_to l.self.field l.self.rows l.arrows l.arrow l.from l.i
