use Rattle.std.proofs.Common.{ap}
use Rattle.word_products.specs.SparseRows.{TouchedView}
use Rattle.word_products.proofs.TouchedRows.{over-new}
use Rattle.word_products.proofs.word_sums.Sum.new.Goals as goal

pub invariant_of-result : goal.invariant_of-result
invariant_of-result c = record {
  sum_is = over-new c.args.field c.args.width 0 c.in_ok-sum.sum c.in_ok-sum.ensures;
  row_is = over-new c.args.field c.args.width 0 c.in_ok-row.row c.in_ok-row.ensures;
  spare_is = over-new c.args.field c.args.width 0 c.in_ok-spare.spare c.in_ok-spare.ensures;
}

pub returns : goal.returns
returns c = ap (λ (t : TouchedView). record { field = c.args.field; width = c.args.width; sum = t.row }) c.in_ok-sum.ensures
