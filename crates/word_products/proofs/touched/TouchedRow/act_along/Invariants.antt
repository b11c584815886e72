use Rattle.std.proofs.Common.{◌≡◌, take}
use Rattle.word_products.specs.SparseRows.{acted_along, IsRowOver}
use Rattle.word_products.proofs.touched.TouchedRow.act_along.Given as goal

abbrev pub invariant-loop-arrow : goal.invariant-loop-arrow
invariant-loop-arrow l = record {
  fits : IsRowOver l.rows.field l.rows.width l.self;
  spare : IsRowOver l.rows.field l.rows.width l.spare;
  row : l.self.row ≡ acted_along l.rows.field l.rows.rows l.arrows (take l.arrow-index l.path) l.initial.self.row;
}
