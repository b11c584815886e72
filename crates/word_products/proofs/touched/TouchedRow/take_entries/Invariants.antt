use Rattle.word_products.specs.SparseRows.{IsRowOver}
use Rattle.word_products.proofs.TakenSums.{IsTaking}
use Rattle.word_products.proofs.touched.TouchedRow.take_entries.Given as goal

abbrev pub invariant-loop-entry : goal.invariant-loop-entry
invariant-loop-entry l = record {
  fits : IsRowOver l.initial.self.field l.initial.self.width l.self;
  taking : IsTaking l.initial.self.field l.initial.self.width l.initial.self.row l.self.row l.entries.items;
}

abbrev pub decreases-loop-entry : goal.decreases-loop-entry
decreases-loop-entry l = l.self.listed
