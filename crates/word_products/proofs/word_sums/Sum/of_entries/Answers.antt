use Rattle.std.proofs.Common.{refl, sym, ap, ap₂, ◌∙◌}
use Rattle.linear_algebra.specs.Field.{Gf}
use Rattle.word_products.specs.SparseRows.{SumView, acted_by, dense_row}
use Rattle.word_products.proofs.TermSums.{zeros_are}
use Rattle.word_products.proofs.DenseRows.{written_row}
use Rattle.word_products.proofs.word_sums.Sum.of_entries.Goals as goal

pub returns : goal.returns
returns c = ap (λ x. record { field = c.self.inside.field; width = c.self.inside.width; sum = x }) (c.in_ok-of_arrow.ensures.row
    ∙ ap₂ (λ (q : Gf) x. acted_by q c.args.rows.now.rows c.args.arrows c.args.arrow x) (c.requires.field ∙ sym (ap (λ (v : SumView). v.field) c.self.view_is)) (c.in_ok-add_multiple.ensures.row
    ∙ written_row c.clear.new.self.field c.self.inside.field c.self.inside.row.width c.self.inside.width c.args.entries.now c.args.entries.now c.clear.new.self.row
    (c.clear.ensures.fits.field_is ∙ c.self.invariant.row_is.field_is) refl (c.clear.ensures.row ∙ sym (zeros_are c.self.inside.row.width)) c.self.invariant.row_is.width_is))
    ∙ ap (λ (v : SumView). record { field = v.field; width = v.width; sum = acted_by v.field c.args.rows.now.rows c.args.arrows c.args.arrow (dense_row v.field v.width c.args.entries.now) }) c.self.view_is
