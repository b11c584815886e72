use Rattle.std.proofs.Common.{◌≡◌, length, get_or, ap, ap₂, sym, ◌∙◌}
use Rattle.linear_algebra.specs.Rows.{unit}
use Rattle.quiver_paths.specs.Quiver.{arrow_count}
use Rattle.word_products.specs.SparseRows.{SumView, acted_terms}
use Rattle.word_products.proofs.ActingRows.{vanishes-from_row, row-from_vanishes, relation_arrows, relation_some}
use Rattle.word_products.proofs.action.vanishes_on.Goals as goal

pub of_terms-requires-clause-terms : goal.of_terms-requires-clause-terms
of_terms-requires-clause-terms c = rw (c.len.ensures, c.as_slice.ensures) (relation_arrows c.args.header.now c.args.words.now c.args.rules.now c.requires.can c.args.relation.now c.requires.relation)

row_is : (c : goal.After-is_zero) → c.of_terms.new.self.sum ≡ acted_terms c.args.header.now.field c.args.rows.now.rows (arrow_count c.args.header.now.quiver) c.args.header.now.bound c.index-first.result.now.path
    c.args.relation.now.terms (unit (length c.args.words.now) c.args.i)
row_is c = ap (λ (v : SumView). v.sum) c.in_ok-of_terms.ensures
    ∙ ap₂ (λ n ts. acted_terms c.args.sum.now.field c.args.rows.now.rows n c.args.header.now.bound c.index-first.result.now.path ts (unit c.args.sum.now.width c.args.i)) c.len.ensures c.as_slice.ensures
    ∙ ap (λ (v : SumView). acted_terms v.field c.args.rows.now.rows (arrow_count c.args.header.now.quiver) c.args.header.now.bound c.index-first.result.now.path c.args.relation.now.terms (unit v.width c.args.i))
    c.requires.sum

pub returns-clause-vanishes : goal.returns-clause-vanishes
returns-clause-vanishes c becomes red =
    let some = relation_some c.args.header.now c.args.words.now c.args.rules.now c.requires.can c.args.relation.now c.requires.relation in (
      λ t. vanishes-from_row c.args.header.now c.args.words.now c.args.rules.now c.requires.can becomes red c.args.rows.now.rows (c.requires.rows.known.products becomes red) c.requires.rows.count
          c.args.relation.now c.requires.relation c.index-first.result.now (0, some, sym c.index-first.ensures) c.args.i c.requires.place
          (λ j. ap (λ x. get_or x j 0) (sym (row_is c)) ∙ c.is_zero.ensures.0 t j),
      λ v. c.is_zero.ensures.1 (λ j. ap (λ x. get_or x j 0) (row_is c) ∙ row-from_vanishes c.args.header.now c.args.words.now c.args.rules.now c.requires.can becomes red c.args.rows.now.rows
          (c.requires.rows.known.products becomes red) c.requires.rows.count c.args.relation.now c.requires.relation c.index-first.result.now (0, some, sym c.index-first.ensures) c.args.i c.requires.place v j),
    )
