use Rattle.std.proofs.Common.{ap, ap₂, sym, subst, ◌∙◌}
use Rattle.std.proofs.lemmas.Result.{on_ok_weaker}
use Rattle.linear_algebra.specs.Rows.{unit}
use Rattle.quiver_paths.specs.Quiver.{arrow_count}
use Rattle.path_algebra.specs.declared.rules.Rule.{Rule}
use Rattle.word_products.specs.SparseRows.{SparseView, SumView, acted_terms}
use Rattle.word_products.specs.WordProducts.{EndsWithArrows, IsPushed}
use Rattle.word_products.proofs.ProductSteps.{step_front, step_tail, tail_arrows, tail_coefs}
use Rattle.word_products.proofs.multiplying.add_by_rule.Goals as goal

pub unreachable-requires : goal.unreachable-requires
unreachable-requires c = c.in-None.ensures (step_front c.args.header.now c.args.words.now c.args.rules.now c.args.rows.now.rows c.args.i c.args.a
    (record { can = c.requires.can; place = c.requires.product.place; arrow = c.requires.product.arrow; count = c.requires.count; known = c.requires.products })
    c.args.path.now c.requires.product c.index-rules-k.result (c.args.k, c.requires.rule, sym c.index-rules-k.is)
    (subst (λ (x : Rule). EndsWithArrows x.tip c.args.path.now) (sym c.index-rules-k.is) (c.requires.ends c.index-rules-k.result)) c.in_ok-front.front c.in_ok-front.ensures)

pub of_terms-requires-clause-terms : goal.of_terms-requires-clause-terms
of_terms-requires-clause-terms c = rw (c.len.ensures, c.as_slice.ensures)
    (tail_arrows c.args.header.now c.args.words.now c.args.rules.now c.requires.can c.index-rules-k.result (c.args.k, c.requires.rule, sym c.index-rules-k.is))

pub of_terms-requires-clause-coefs : goal.of_terms-requires-clause-coefs
of_terms-requires-clause-coefs c = rw (ap (λ (v : SumView). v.field) c.requires.sum, c.as_slice.ensures)
    (tail_coefs c.args.header.now c.args.words.now c.args.rules.now c.requires.can c.index-rules-k.result (c.args.k, c.requires.rule, sym c.index-rules-k.is))

pub returns-clause-products : goal.returns-clause-products
returns-clause-products c = on_ok_weaker c.push_sum.result (λ e. step_tail c.args.header.now c.args.words.now c.args.rules.now c.args.rows.now.rows c.args.i c.args.a
    (record { can = c.requires.can; place = c.requires.product.place; arrow = c.requires.product.arrow; count = c.requires.count; known = c.requires.products })
    c.args.path.now c.requires.product c.index-rules-k.result (c.args.k, c.requires.rule, sym c.index-rules-k.is)
    (subst (λ (x : Rule). EndsWithArrows x.tip c.args.path.now) (sym c.index-rules-k.is) (c.requires.ends c.index-rules-k.result))
    c.push_sum.new.rows.rows c.in_ok-front.front c.in-Some.place c.of_terms.new.self.sum c.in_ok-front.ensures c.in-Some.ensures.0 c.in-Some.ensures.1
    (ap (λ (v : SumView). v.sum) c.in_ok-of_terms.ensures
    ∙ ap₂ (λ n ts. acted_terms c.args.sum.now.field c.args.rows.now.rows n c.args.header.now.bound c.index-rules-k.result.tip ts (unit c.args.sum.now.width c.in-Some.place)) c.len.ensures c.as_slice.ensures
    ∙ ap (λ (v : SumView). acted_terms v.field c.args.rows.now.rows (arrow_count c.args.header.now.quiver) c.args.header.now.bound c.index-rules-k.result.tip c.index-rules-k.result.tail.terms
    (unit v.width c.in-Some.place)) c.requires.sum)
    (subst (λ q. IsPushed q c.args.rows.now.rows c.push_sum.new.rows.rows c.of_terms.new.self.sum) (ap (λ (v : SparseView). v.field) c.requires.shape) e)) c.push_sum.ensures.pushed
