use Rattle.std.proofs.Common.{ap, ◌∙◌}
use Rattle.linear_algebra.specs.Rows.{zeros}
use Rattle.word_products.specs.SparseRows.{SumView}
use Rattle.word_products.proofs.TouchedRows.{over-then}
use Rattle.word_products.proofs.word_sums.Sum.clear.Goals as goal

pub invariant_of-self : goal.invariant_of-self
invariant_of-self c = record {
  sum_is = over-then c.self.inside.field c.self.inside.width c.self.inside.sum c.clear.new.self c.self.invariant.sum_is c.clear.ensures.fits;
  row_is = c.self.invariant.row_is;
  spare_is = c.self.invariant.spare_is;
}

pub returns : goal.returns
returns c = ap (λ x. record { field = c.self.inside.field; width = c.self.inside.width; sum = x }) (c.clear.ensures.row ∙ ap zeros c.self.invariant.sum_is.width_is)
    ∙ ap (λ (v : SumView). record { field = v.field; width = v.width; sum = zeros v.width }) c.self.view_is
