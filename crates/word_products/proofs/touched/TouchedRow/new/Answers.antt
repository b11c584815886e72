use Rattle.std.proofs.Common.{length, ap, ap₂, ◌∙◌}
use Rattle.word_products.proofs.TermSums.{zeros_are}
use Rattle.word_products.proofs.TouchedRows.{touched-zeros}
use Rattle.word_products.proofs.touched.TouchedRow.new.Goals as goal

pub invariant_of-result : goal.invariant_of-result
invariant_of-result c = touched-zeros c.args.field c.args.width _ _ (c.in_ok-row.ensures.items_if_clones_equal (λ y h. h) ∙ zeros_are c.args.width) c.new.ensures.items

pub returns : goal.returns
returns c = ap₂ (λ x y. record { field = c.args.field; width = c.args.width; row = x; listed = y }) (c.in_ok-row.ensures.items_if_clones_equal (λ y h. h) ∙ zeros_are c.args.width) (ap length c.new.ensures.items)
