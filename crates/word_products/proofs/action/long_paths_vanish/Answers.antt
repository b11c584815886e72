use Rattle.std.proofs.Common.{arith}
use Rattle.word_products.proofs.ActionSteps.{long_answer}
use Rattle.word_products.proofs.action.long_paths_vanish.Goals as goal

pub returns : goal.returns
returns c = long_answer c.args.header.now c.args.words.now c.args.rules.now c.requires.can c.loop-k.k c.loop-k.span c.all_zero.result (let e = c.loop-k.auto.k-end in let t = c.loop-k-test.false in omega arith)
    c.loop-k.invariant.span c.all_zero.ensures
