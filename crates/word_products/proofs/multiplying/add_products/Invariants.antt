use Rattle.std.proofs.Common.{◌≡◌, ◌+◌, ◌*◌, length}
use Rattle.quiver_paths.specs.Quiver.{arrow_count}
use Rattle.word_products.specs.WordProducts.{KnowsProducts}
use Rattle.word_products.proofs.multiplying.add_products.Given as goal

abbrev pub invariant-loop-a : goal.invariant-loop-a
invariant-loop-a l = record {
  shape : l.rows ≡ record l.initial.rows { rows = l.rows.rows };
  count : length l.rows.rows ≡ l.i * arrow_count l.header.quiver + l.a;
  products : KnowsProducts l.header l.words l.rules l.rows.rows;
  sum : l.sum ≡ record l.initial.sum { sum = l.sum.sum };
}
