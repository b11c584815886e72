use Rattle.std.proofs.Common.{ℕ, ◌≡◌, ◌<◌}
use Rattle.quiver_paths.specs.declared.Path.{Path}
use Rattle.path_algebra.specs.Rows.{path_at}
use Rattle.path_algebra.specs.Reduction.{IsReduction}
use Rattle.word_products.specs.Vanishing.{VanishesOn}
use Rattle.word_products.proofs.action.relation_vanishes.Given as goal

abbrev pub invariant-loop-i : goal.invariant-loop-i
invariant-loop-i l = record {
  sum : l.sum ≡ record l.initial.sum { sum = l.sum.sum };
  vanishes : (becomes : Path → Path → ℕ) → IsReduction l.header l.rules becomes → (k : ℕ) → k < l.i → VanishesOn l.header l.words becomes l.relation (path_at l.words k);
}
