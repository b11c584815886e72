use Rattle.std.proofs.Common.{set, ap, ◌∙◌}
use Rattle.word_products.proofs.TermSums.{unit-set}
use Rattle.word_products.proofs.word_sums.set_unit.Goals as goal

pub returns : goal.returns
returns c = ap (λ x. set x c.args.place 1) (c.fill.ensures.after (λ y e. e)) ∙ unit-set _ c.args.place c.requires
