use Rattle.std.proofs.Common.{◌≡◌, take}
use Rattle.word_products.specs.SparseRows.{IsRowOver, with_multiple}
use Rattle.word_products.proofs.touched.TouchedRow.add_multiple.Given as goal

abbrev pub invariant-loop-entry : goal.invariant-loop-entry
invariant-loop-entry l = record {
  fits : IsRowOver l.initial.self.field l.initial.self.width l.self;
  row : l.self.row ≡ with_multiple l.initial.self.field l.factor (take l.entry-index l.row) l.initial.self.row;
}
