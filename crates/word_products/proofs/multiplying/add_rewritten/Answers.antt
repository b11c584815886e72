use Rattle.std.proofs.Common.{[]}
use Rattle.word_products.proofs.ProductSteps.{step_none}
use Rattle.word_products.proofs.multiplying.add_rewritten.Goals as goal

pub returns-in-None-clause-products : goal.returns-in-None-clause-products
returns-in-None-clause-products c = absurd (step_none c.args.header.now c.args.words.now c.args.rules.now c.args.rows.now.rows c.args.i c.args.a
    (record { can = c.requires.can; place = c.requires.product.place; arrow = c.requires.product.arrow; count = c.requires.count; known = c.requires.products })
    c.args.path.now c.requires.product c.in-None.ensures
    (record { tip = c.args.path.now; tail = record { terms = [] }; step = 0 }))
