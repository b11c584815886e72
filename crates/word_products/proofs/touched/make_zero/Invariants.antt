use Rattle.std.proofs.Common.{ℕ}
use Rattle.linear_algebra.specs.Field.{Gf}
use Rattle.word_products.specs.SparseRows.{HoldsTouched}
use Rattle.word_products.proofs.TouchedRows.{IsCleared}
use Rattle.word_products.proofs.touched.make_zero.Given as goal

abbrev pub invariant-loop-k : goal.invariant-loop-k
invariant-loop-k l = (q : Gf) (n : ℕ) → HoldsTouched q n l.initial.row l.places → IsCleared q n l.places l.row l.k
