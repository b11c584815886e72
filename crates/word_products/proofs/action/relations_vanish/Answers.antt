use Rattle.std.proofs.Common.{◌≡◌, length, inl, inr, get_or, ap, subst, ◌∙◌, arith}
use Rattle.std.proofs.lemmas.Bool.{cases_lt}
use Rattle.std.proofs.lemmas.List.{get_or_default}
use Rattle.word_products.specs.SparseRows.{SumView}
use Rattle.word_products.specs.Vanishing.{RelationVanishes}
use Rattle.word_products.proofs.action.relations_vanish.Goals as goal

pub loop-relation-preserved : goal.loop-relation-preserved
loop-relation-preserved c = record {
  sum = c.in_ok-vanishes.ensures.sum ∙ ap (λ (v : SumView). record { field = v.field; width = v.width; sum = c.relation_vanishes.new.sum.sum }) c.loop-relation.invariant.sum;
  vanishes = λ becomes red k d l. elim (cases_lt k c.loop-relation.relation-index) [
    | inl b ↦ c.loop-relation.invariant.vanishes becomes red k d b
    | inr b ↦
        let same : c.loop-relation.relation-index ≡ k = omega (arith, l, b) in
        let items = c.as_slice-relation-items.ensures in
        let read : c.relation-item.result ≡ get_or c.args.header.now.relations c.loop-relation.relation-index d =
        c.relation-item.is ∙ ap (λ x. get_or x c.loop-relation.relation-index c.relation-item.result) items
        ∙ get_or_default c.args.header.now.relations c.loop-relation.relation-index c.relation-item.result d (let t = c.loop-relation-test.true in let i = ap length items in omega arith) in
        subst (λ x. RelationVanishes c.args.header.now c.args.words.now becomes (get_or c.args.header.now.relations x d)) same
        (subst (RelationVanishes c.args.header.now c.args.words.now becomes) read ((c.in_ok-vanishes.ensures.vanishes becomes red).0 c.if-not-vanishes.false))
  ];
}
