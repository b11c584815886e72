use Rattle.std.proofs.Common.{◌≡◌, take, length}
use Rattle.linear_algebra.specs.Rows.{IsRow}
use Rattle.word_products.specs.SparseRows.{acted_along}
use Rattle.word_products.proofs.sparse.SparseRows.act_along.Given as goal

abbrev pub invariant-loop-arrow : goal.invariant-loop-arrow
invariant-loop-arrow l = record {
  row : l.row ≡ acted_along l.self.field l.self.rows l.arrows (take l.arrow-index l.path) l.initial.row;
  fits : IsRow l.self.field l.self.width l.row;
  spare : length l.spare ≡ l.self.width;
}
