use Rattle.std.proofs.lemmas.Bool.{MatchBool-at_true}
use Rattle.path_algebra.specs.BasisClauses.{RulesHold}
use Rattle.path_algebra.proofs.LongTips.{long_tips}
use Rattle.alg_table.proofs.first_clauses.first_fault.Goals as goal

pub reduced_holds-requires-clause-tips : goal.reduced_holds-requires-clause-tips
reduced_holds-requires-clause-tips c = long_tips c.args.header.now c.args.words.now c.args.steps.now c.args.rules.now c.requires.allowed c.requires.claim c.if-not-steps_hold.ensures
    (MatchBool-at_true (RulesHold c.args.header.now c.args.steps.now c.args.rules.now) _ c.if-not-branch.false c.in_ok-rules_hold.ensures)

pub words_hold-requires-clause-tips : goal.words_hold-requires-clause-tips
words_hold-requires-clause-tips c = long_tips c.args.header.now c.args.words.now c.args.steps.now c.args.rules.now c.requires.allowed c.requires.claim c.if-not-steps_hold.ensures
    (MatchBool-at_true (RulesHold c.args.header.now c.args.steps.now c.args.rules.now) _ c.if-not-branch.false c.in_ok-rules_hold.ensures)
