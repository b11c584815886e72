use Rattle.std.proofs.Common.{ap, ◌∙◌}
use Rattle.linear_algebra.specs.FieldLaws.{one-lt-order}
use Rattle.word_products.specs.SparseRows.{SparseView}
use Rattle.word_products.proofs.SparseActs.{row_is}
use Rattle.word_products.proofs.TermSums.{zeros_are, IsRow-zeros}
use Rattle.word_products.proofs.DenseRows.{written_row}
use Rattle.word_products.proofs.sparse.SparseRows.write_row.Goals as goal

pub add_multiple-requires-clause-factor : goal.add_multiple-requires-clause-factor
add_multiple-requires-clause-factor c = one-lt-order c.self.inside.field

pub add_multiple-requires-clause-into : goal.add_multiple-requires-clause-into
add_multiple-requires-clause-into c = row_is c.self.inside.field c.self.inside.field _ c.fill.new.self _ (λ i. c.self.inside.field) (c.fill.ensures.after (λ y e. e) ∙ zeros_are _) (IsRow-zeros c.self.inside.field _)

pub returns : goal.returns
returns c = c.add_multiple.ensures
    ∙ written_row c.self.inside.field c.args.self.now.field _ c.args.self.now.width c.row.result.now _ c.fill.new.self (ap (λ (v : SparseView). v.field) c.self.view_is) c.row.ensures.row
    (c.fill.ensures.after (λ y e. e)) c.requires
