use Rattle.std.proofs.Common.{sym, subst}
use Rattle.std.specs.Prelude.{All}
use Rattle.path_algebra.specs.declared.Term.{Term}
use Rattle.path_algebra.specs.Reduction.{HasNoTip}
use Rattle.path_reduction.specs.Derived.{AreDerived}
use Rattle.path_reduction.specs.Reducing.{AreReducedTo}
use Rattle.path_basis.proofs.Resolving.{parallel_reduced}
use Rattle.path_basis.proofs.Growing.{derived_behind, derives_alone}
use Rattle.path_basis.proofs.completion.add_reduced.Goals as goal

pub new_rule-requires-clause-parallel : goal.new_rule-requires-clause-parallel
new_rule-requires-clause-parallel c =
    parallel_reduced c.args.header.now c.args.state.now.rules.items c.args.given.terms.items c.in_ok-reduced.reduced.terms.items c.requires.allowed c.requires.completion.tidy c.requires.terms c.requires.parallel
    (subst (λ rules. AreReducedTo c.args.header.now rules c.args.given.terms.items c.in_ok-reduced.reduced.terms.items) c.deref.ensures.value c.in_ok-reduced.ensures.reduced)

pub new_rule-requires-clause-no_tip : goal.new_rule-requires-clause-no_tip
new_rule-requires-clause-no_tip c =
    subst (λ rules. All (λ (a : Term). HasNoTip c.args.header.now rules a.path) c.in_ok-reduced.reduced.terms.items) (sym c.deref-2.ensures.value)
    (subst (λ rules. All (λ (a : Term). HasNoTip c.args.header.now rules a.path) c.in_ok-reduced.reduced.terms.items) c.deref.ensures.value c.in_ok-reduced.ensures.reduced.no_tip)

pub new_rule-requires-clause-derives : goal.new_rule-requires-clause-derives
new_rule-requires-clause-derives c =
    let h = c.args.header.now in
    derives_alone h _ _ _ _ _ _ c.args.mark c.args.state.now.rules.items
    (λ x from d. c.in_ok-reduced.ensures.makes x (subst (AreDerived h c.args.state.now.steps.items) (sym c.deref.ensures.value) from) d) c.requires.completion.derived c.requires.derives

pub add_rule-requires-clause-derived : goal.add_rule-requires-clause-derived
add_rule-requires-clause-derived c =
    derived_behind c.args.header.now c.args.mark _ _ _ _ c.in_ok-reduced.ensures.lengthens c.in_ok-rule.ensures.lengthens c.in_ok-rule.ensures.derives.lawful c.requires.completion.derived

pub add_rule-requires-clause-removed_derived : goal.add_rule-requires-clause-removed_derived
add_rule-requires-clause-removed_derived c =
    derived_behind c.args.header.now c.args.mark _ _ _ _ c.in_ok-reduced.ensures.lengthens c.in_ok-rule.ensures.lengthens c.in_ok-rule.ensures.derives.lawful c.requires.completion.removed_derived
