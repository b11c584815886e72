use Rattle.std.proofs.Common.{ℕ, ◌≡◌, ◌<◌, slice_index_or}
use Rattle.quiver_paths.specs.declared.Path.{Path}
use Rattle.path_algebra.specs.declared.Relation.{Relation}
use Rattle.path_algebra.specs.Reduction.{IsReduction}
use Rattle.word_products.specs.Vanishing.{RelationVanishes}
use Rattle.word_products.proofs.action.relations_vanish.Given as goal

abbrev pub invariant-loop-relation : goal.invariant-loop-relation
invariant-loop-relation l = record {
  sum : l.sum ≡ record l.initial.sum { sum = l.sum.sum };
  vanishes : (becomes : Path → Path → ℕ) → IsReduction l.header l.rules becomes → (k : ℕ) (d : Relation) → k < l.relation-index → RelationVanishes l.header l.words becomes (slice_index_or l.header.relations k d);
}
