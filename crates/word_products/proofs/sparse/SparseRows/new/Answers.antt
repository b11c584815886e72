use Rattle.std.proofs.Common.{ap, ap₂, ◌∙◌}
use Rattle.word_products.specs.SparseRows.{pieces}
use Rattle.word_products.proofs.SparseLemmas.{pieces-none}
use Rattle.word_products.proofs.sparse.SparseRows.new.Goals as goal

pub returns : goal.returns
returns c =
    ap₂ (λ x y. record { field = c.args.field; width = c.args.width; rows = pieces x y }) c.new.ensures.items c.new-2.ensures.items
    ∙ ap (λ r. record { field = c.args.field; width = c.args.width; rows = r }) (pieces-none _)
