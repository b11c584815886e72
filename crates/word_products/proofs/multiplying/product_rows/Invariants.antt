use Rattle.std.proofs.Common.{◌≡◌, ◌*◌, length}
use Rattle.quiver_paths.specs.Quiver.{arrow_count}
use Rattle.word_products.specs.WordProducts.{KnowsProducts}
use Rattle.word_products.proofs.multiplying.product_rows.Given as goal

abbrev pub invariant-loop-i : goal.invariant-loop-i
invariant-loop-i l = record {
  shape : l.rows ≡ record { field = l.header.field; width = length l.words; rows = l.rows.rows };
  count : length l.rows.rows ≡ l.i * arrow_count l.header.quiver;
  products : KnowsProducts l.header l.words l.rules l.rows.rows;
  sum : l.sum ≡ record { field = l.header.field; width = length l.words; sum = l.sum.sum };
}
