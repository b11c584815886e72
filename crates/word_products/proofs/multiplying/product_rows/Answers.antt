use Rattle.std.proofs.Common.{◌≡◌, [], length, sym, ap, ◌∙◌, arith}
use Rattle.word_products.specs.SparseRows.{SparseView, SumView}
use Rattle.word_products.proofs.WordRows.{knows-none}
use Rattle.word_products.proofs.multiplying.product_rows.Goals as goal

pub loop-i-init : goal.loop-i-init
loop-i-init c =
    let none : c.new-rows.result.rows ≡ [] = ap (λ (v : SparseView). v.rows) c.new-rows.ensures in
    record {
      shape = c.new-rows.ensures ∙ ap (λ x. record { field = c.args.header.now.field; width = length c.args.words.now; rows = x }) (sym none);
      count = omega (arith, ap length none);
      products = knows-none c.args.header.now c.args.words.now c.args.rules.now c.requires.can c.new-rows.result.rows none;
      sum = c.in_ok-sum.ensures ∙ ap (λ x. record { field = c.args.header.now.field; width = length c.args.words.now; sum = x }) (sym (ap (λ (v : SumView). v.sum) c.in_ok-sum.ensures));
    }
