use Rattle.std.proofs.Common.{◌≡◌}
use Rattle.word_products.specs.Vanishing.{SpansImages}
use Rattle.word_products.proofs.action.long_paths_vanish.Given as goal

abbrev pub invariant-loop-k : goal.invariant-loop-k
invariant-loop-k l = record {
  sum : l.sum ≡ record l.initial.sum { sum = l.sum.sum };
  span : SpansImages l.header l.words l.rules l.k l.span;
}
