use Rattle.std.proofs.Common.{length}
use Rattle.linear_algebra.specs.Field.{Gf}
use Rattle.linear_algebra.specs.Rows.{IsRow}
use Rattle.word_products.specs.WordProducts.{AreEntriesOf}
use Rattle.word_products.proofs.sparse.entries_of.Given as goal

abbrev pub invariant-loop-j : goal.invariant-loop-j
invariant-loop-j l = (q : Gf) → IsRow q (length l.row) l.row → AreEntriesOf q l.row l.j l.entries.items
