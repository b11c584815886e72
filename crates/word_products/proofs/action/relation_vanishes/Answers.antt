use Rattle.std.proofs.Common.{◌≡◌, false, true, sym, refl, subst, ◌∙◌, arith}
use Rattle.path_algebra.specs.Rows.{path_at}
use Rattle.word_products.specs.Vanishing.{VanishesOn}
use Rattle.word_products.proofs.WordRows.{word_at, word_listed}
use Rattle.word_products.proofs.action.relation_vanishes.Goals as goal

differ : {A : Type 0} → false ≡ true → A
differ e = absurd (cc)

pub returns-then-not-vanishes-clause-vanishes : goal.returns-then-not-vanishes-clause-vanishes
returns-then-not-vanishes-clause-vanishes c becomes red =
    (λ t. differ t, λ v. sym c.if-not-vanishes.true ∙ (c.in_ok-vanishes.ensures.vanishes becomes red).1 (v.vanishes (path_at c.args.words.now c.loop-i.i) (word_listed c.args.words.now c.loop-i.i c.loop-i-test.true)))

pub returns-clause-vanishes : goal.returns-clause-vanishes
returns-clause-vanishes c becomes red = (
  λ t. record {
    vanishes = λ w m. subst (VanishesOn c.args.header.now c.args.words.now becomes c.args.relation.now) (word_at c.args.words.now m.0 w m.1 m.2)
        (c.loop-i.invariant.vanishes becomes red m.0 (let l = m.1 in let f = c.loop-i-test.false in omega arith));
  },
  λ v. refl,
)
