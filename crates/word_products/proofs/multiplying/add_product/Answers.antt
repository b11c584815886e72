use Rattle.std.proofs.Common.{ap, arith}
use Rattle.std.proofs.lemmas.Result.{on_ok_weaker}
use Rattle.word_products.specs.SparseRows.{SparseView}
use Rattle.word_products.proofs.ProductSteps.{step_apart, step_long, step_word, step_new}
use Rattle.word_products.proofs.multiplying.add_product.Goals as goal

pub returns-then-word-arrow-clause-products : goal.returns-then-word-arrow-clause-products
returns-then-word-arrow-clause-products c = on_ok_weaker c.push_row.result (λ e. step_apart c.args.header.now c.args.words.now c.args.rules.now c.args.rows.now.rows c.args.i c.args.a
    (record { can = c.requires.can; place = c.requires.place; arrow = c.requires.arrow; count = c.requires.count; known = c.requires.products })
    c.index-words-i.result c.index-arrow.result.now c.index-words-i.is c.index-arrow.ensures c.push_row.new.self.rows c.if-word-arrow.true (ap (λ (v : SparseView). v.rows) e)) c.push_row.ensures

pub returns-then-len-header-clause-products : goal.returns-then-len-header-clause-products
returns-then-len-header-clause-products c = on_ok_weaker c.push_row-then-len-header.result (λ e. step_long c.args.header.now c.args.words.now c.args.rules.now c.args.rows.now.rows c.args.i c.args.a
    (record { can = c.requires.can; place = c.requires.place; arrow = c.requires.arrow; count = c.requires.count; known = c.requires.products })
    c.index-words-i.result c.index-arrow.result.now c.index-words-i.is c.index-arrow.ensures c.push_row-then-len-header.new.self.rows c.if-word-arrow.false
    (let t = c.if-len-header.true in omega (arith, c.len.ensures, t)) (ap (λ (v : SparseView). v.rows) e)) c.push_row-then-len-header.ensures

pub returns-in-Some-clause-products : goal.returns-in-Some-clause-products
returns-in-Some-clause-products c = on_ok_weaker c.push_row-in-Some.result (λ e. step_word c.args.header.now c.args.words.now c.args.rules.now c.args.rows.now.rows c.args.i c.args.a
    (record { can = c.requires.can; place = c.requires.place; arrow = c.requires.arrow; count = c.requires.count; known = c.requires.products })
    c.index-words-i.result c.index-arrow.result.now c.index-words-i.is c.index-arrow.ensures c.push_row-in-Some.new.self.rows c.in_ok-path.path c.in-Some.place c.if-word-arrow.false c.in_ok-path.ensures
    c.in-Some.ensures.0 c.in-Some.ensures.1 (ap (λ (v : SparseView). v.rows) e)) c.push_row-in-Some.ensures

pub add_rewritten-requires-clause-product : goal.add_rewritten-requires-clause-product
add_rewritten-requires-clause-product c = step_new c.args.header.now c.args.words.now c.args.rules.now c.args.rows.now.rows c.args.i c.args.a
    (record { can = c.requires.can; place = c.requires.place; arrow = c.requires.arrow; count = c.requires.count; known = c.requires.products })
    c.index-words-i.result c.index-arrow.result.now c.index-words-i.is c.index-arrow.ensures c.in_ok-path.path c.if-word-arrow.false c.in_ok-path.ensures
    (let t = c.if-len-header.false in omega (arith, c.len.ensures, t)) c.in-None.ensures
