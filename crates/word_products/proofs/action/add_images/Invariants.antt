use Rattle.std.proofs.Common.{◌≡◌, ◌+◌, ◌*◌}
use Rattle.quiver_paths.specs.Quiver.{arrow_count}
use Rattle.word_products.specs.Vanishing.{HasImages}
use Rattle.word_products.proofs.action.add_images.Given as goal

abbrev pub invariant-loop-a : goal.invariant-loop-a
invariant-loop-a l = record {
  sum : l.sum ≡ record l.initial.sum { sum = l.sum.sum };
  next : HasImages l.header l.words l.rules l.rows l.k l.span.rows (l.i * arrow_count l.header.quiver + l.a) l.next;
}
