use Rattle.std.proofs.Common.{◌≡◌, true, false}
use Rattle.word_products.proofs.ActionSteps.{action-refuted, action-from}
use Rattle.word_products.proofs.action.action_holds.Goals as goal

differ : {A : Type 0} → false ≡ true → A
differ e = absurd (cc)

pub returns-then-not-relations : goal.returns-then-not-relations
returns-then-not-relations c = (λ t. differ t, action-refuted c.args.header.now c.args.words.now c.args.rules.now c.requires.can c.in_ok-relations.relations c.if-not-relations.true c.in_ok-relations.ensures.vanish)

pub returns : goal.returns
returns c = action-from c.args.header.now c.args.words.now c.args.rules.now c.requires.can c.in_ok-relations.relations c.in_ok-long.long c.if-not-relations.false c.in_ok-relations.ensures.vanish c.in_ok-long.ensures
