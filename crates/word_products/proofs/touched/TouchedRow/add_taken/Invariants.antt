use Rattle.word_products.specs.SparseRows.{IsRowOver}
use Rattle.word_products.proofs.TakenSums.{IsAdding}
use Rattle.word_products.proofs.touched.TouchedRow.add_taken.Given as goal

abbrev pub invariant-loop-entry : goal.invariant-loop-entry
invariant-loop-entry l = record {
  fits : IsRowOver l.initial.self.field l.initial.self.width l.self;
  from : IsRowOver l.initial.self.field l.initial.self.width l.from;
  adding : IsAdding l.initial.self.field l.factor l.initial.self.width l.initial.from.row l.initial.self.row l.from.row l.self.row;
}

abbrev pub decreases-loop-entry : goal.decreases-loop-entry
decreases-loop-entry l = l.from.listed
