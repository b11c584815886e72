use Rattle.std.proofs.Common.{[], subst, sym}
use Rattle.path_algebra.specs.declared.Term.{Term}
use Rattle.path_reduction.proofs.NewRules.{monic_are, monic_some, monic_one, GivesRule, gives_rule, is_new, new_derives}
use Rattle.path_reduction.proofs.rule_elements.new_rule.Goals as goal

pub rule_of-requires-clause-terms : goal.rule_of-requires-clause-terms
rule_of-requires-clause-terms c = monic_are c.args.header.now c.args.given.terms.items c.in_ok-found.found.terms.items c.requires.some c.requires.terms c.in_ok-found.ensures.terms

pub rule_of-requires-clause-some : goal.rule_of-requires-clause-some
rule_of-requires-clause-some c =
    let x : Term = record { coef = 0; path = record { start = 0; end = 0; arrows = [] } } in
    monic_some c.args.header.now c.args.given.terms.items c.in_ok-found.found.terms.items x c.requires.some (c.in_ok-found.ensures.terms x)

pub rule_of-requires-clause-monic : goal.rule_of-requires-clause-monic
rule_of-requires-clause-monic c d = monic_one c.args.header.now c.args.given.terms.items c.in_ok-found.found.terms.items d c.requires.some c.requires.terms c.in_ok-found.ensures.terms

pub returns-clause-new : goal.returns-clause-new
returns-clause-new c =
    is_new c.args.header.now c.args.rules.now c.in_ok-found.found.terms.items c.monic.new.steps.items c.in_ok-rule.rule c.requires.allowed c.requires.tidy
    (subst (GivesRule c.args.header.now c.args.rules.now c.in_ok-found.found.terms.items c.monic.new.steps.items) (sym c.in_ok-rule.ensures.step)
    (gives_rule c.args.header.now c.args.rules.now c.args.given.terms.items c.in_ok-found.found.terms.items c.monic.new.steps.items c.in_ok-found.found.step c.requires.some c.requires.terms c.requires.parallel c.requires.no_tip
    c.in_ok-found.ensures.terms (c.in_ok-found.ensures.makes c.requires.derives)))
    c.in_ok-rule.ensures.terms c.in_ok-rule.ensures.tail

pub returns-clause-derives : goal.returns-clause-derives
returns-clause-derives c =
    new_derives c.args.header.now c.args.rules.now c.in_ok-found.found.terms.items c.monic.new.steps.items c.in_ok-rule.rule c.requires.allowed c.requires.tidy
    (subst (GivesRule c.args.header.now c.args.rules.now c.in_ok-found.found.terms.items c.monic.new.steps.items) (sym c.in_ok-rule.ensures.step)
    (gives_rule c.args.header.now c.args.rules.now c.args.given.terms.items c.in_ok-found.found.terms.items c.monic.new.steps.items c.in_ok-found.found.step c.requires.some c.requires.terms c.requires.parallel c.requires.no_tip
    c.in_ok-found.ensures.terms (c.in_ok-found.ensures.makes c.requires.derives)))
    c.in_ok-rule.ensures.terms c.in_ok-rule.ensures.tail
