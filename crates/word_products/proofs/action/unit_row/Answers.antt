use Rattle.std.proofs.Common.{set, ap, ◌∙◌}
use Rattle.word_products.proofs.TermSums.{unit-set}
use Rattle.word_products.proofs.action.unit_row.Goals as goal

pub returns : goal.returns
returns c = ap (λ x. set x c.args.i 1) (c.in_ok-row.ensures.items_if_clones_equal (λ y h. h)) ∙ unit-set c.args.width c.args.i c.requires
