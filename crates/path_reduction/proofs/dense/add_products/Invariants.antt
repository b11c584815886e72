use Rattle.std.proofs.Common.{length, take}
use Rattle.linear_algebra.specs.Rows.{IsRow}
use Rattle.quiver_paths.specs.declared.Path.{Path}
use Rattle.path_reduction.specs.Reducing.{IsAdded, AreMet, multiple_between}
use Rattle.path_reduction.proofs.dense.add_products.Given as goal

abbrev pub invariant-loop-term : goal.invariant-loop-term
invariant-loop-term l = record {
  row_is : IsRow l.header.field (length l.space) l.coefs;
  added : (u v p : Path) → AreMet l.header l.space l.first l.terms l.behind u v p → IsAdded l.header l.space (multiple_between l.header l.factor u (take l.term-index l.terms) v) p l.initial.coefs l.coefs;
}
