use Rattle.word_products.specs.SparseRows.{IsRowOver}
use Rattle.word_products.proofs.TakenSums.{IsActing}
use Rattle.word_products.proofs.touched.TouchedRow.of_arrow.Given as goal

abbrev pub invariant-loop-entry : goal.invariant-loop-entry
invariant-loop-entry l = record {
  fits : IsRowOver l.rows.field l.rows.width l.self;
  from : IsRowOver l.rows.field l.rows.width l.from;
  acting : IsActing l.rows.field l.rows.rows l.arrows l.arrow l.rows.width l.initial.from.row l.from.row l.self.row;
}

abbrev pub decreases-loop-entry : goal.decreases-loop-entry
decreases-loop-entry l = l.from.listed
