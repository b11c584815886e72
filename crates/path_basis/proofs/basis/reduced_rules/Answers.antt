use Rattle.std.proofs.Common.{length, sym, subst, arith}
use Rattle.std.specs.Prelude.{All}
use Rattle.path_algebra.specs.declared.rules.Rule.{Rule}
use Rattle.path_algebra.specs.Derivations.{IsNumber}
use Rattle.path_reduction.specs.Derived.{IsDerivation, AreDerived}
use Rattle.path_basis.specs.Tails.{AreTailsReduced}
use Rattle.path_basis.specs.Pruning.{AreOrdered}
use Rattle.path_basis.proofs.Kept.{ordered_steps, numbered_rules}
use Rattle.path_basis.proofs.Renumbered.{renumbered_count, still_reduced, still_tidy}
use Rattle.path_basis.proofs.Growing.{front_again}
use Rattle.path_basis.proofs.Measure.{few_rules}
use Rattle.path_basis.proofs.ReducedTails.{new_tidy, closed_reduced}
use Rattle.path_basis.proofs.basis.reduced_rules.Goals as goal

pub reduce_tails-requires-clause-count : goal.reduce_tails-requires-clause-count
reduce_tails-requires-clause-count c =
    (let f = few_rules c.args.header.now c.args.state.now.rules.items c.requires.allowed c.requires.completion.tidy in let n = c.requires.few in omega (arith, f, n))

pub drop_unused_steps-requires-clause-ordered : goal.drop_unused_steps-requires-clause-ordered
drop_unused_steps-requires-clause-ordered c = subst AreOrdered (sym c.deref-2.ensures.value) (ordered_steps c.args.header.now c.reduce_tails.new.steps.items c.in_ok-reduced.ensures.lawful.are)

pub drop_unused_steps-requires-clause-numbered : goal.drop_unused_steps-requires-clause-numbered
drop_unused_steps-requires-clause-numbered c =
    subst (λ steps. All (λ (rule : Rule). IsNumber (length steps) rule.step) c.in_ok-reduced.reduced.items) (sym c.deref-2.ensures.value)
    (numbered_rules c.args.header.now c.reduce_tails.new.steps.items c.in_ok-reduced.reduced.items c.in_ok-reduced.ensures.derived)

pub returns-clause-tidy : goal.returns-clause-tidy
returns-clause-tidy c =
    still_tidy c.args.header.now c.in_ok-reduced.reduced.items c.in_ok-rules.rules.items c.in_ok-rules.ensures.rules
    (new_tidy c.args.header.now c.args.state.now.rules.items _ c.requires.allowed c.requires.completion.tidy
    (subst (λ rules. AreTailsReduced c.args.header.now rules (length rules) c.in_ok-reduced.reduced.items) c.deref.ensures.value c.in_ok-reduced.ensures.reduced))

pub returns-clause-closed : goal.returns-clause-closed
returns-clause-closed c closed =
    still_reduced c.args.header.now c.in_ok-reduced.reduced.items c.in_ok-rules.rules.items c.in_ok-rules.ensures.rules
    (closed_reduced c.args.header.now c.args.state.now.rules.items _ c.reduce_tails.new.steps.items c.requires.allowed c.requires.completion.tidy closed
    (subst (λ rules. AreTailsReduced c.args.header.now rules (length rules) c.in_ok-reduced.reduced.items) c.deref.ensures.value c.in_ok-reduced.ensures.reduced) c.in_ok-reduced.ensures.derived)

pub returns-clause-steps : goal.returns-clause-steps
returns-clause-steps c = front_again c.len-mark.result c.args.state.now.steps.items c.reduce_tails.new.steps.items _ (let a = c.len-mark.ensures in let b = c.args.state.now.steps.ok in omega (arith, a, b)) c.in_ok-reduced.ensures.lengthens c.truncate.ensures.items

pub returns-clause-lawful : goal.returns-clause-lawful
returns-clause-lawful c = c.in_ok-rules.ensures.lawful c.args.header.now (subst (IsDerivation c.args.header.now) (sym c.deref-2.ensures.value) c.in_ok-reduced.ensures.lawful)

pub returns-clause-derived : goal.returns-clause-derived
returns-clause-derived c = c.in_ok-rules.ensures.derived c.args.header.now (subst (λ steps. AreDerived c.args.header.now steps c.in_ok-reduced.reduced.items) (sym c.deref-2.ensures.value) c.in_ok-reduced.ensures.derived)

pub returns-clause-few_rules : goal.returns-clause-few_rules
returns-clause-few_rules c =
    (let f = few_rules c.args.header.now c.args.state.now.rules.items c.requires.allowed c.requires.completion.tidy in
    let n = c.requires.few in
    let l = c.in_ok-reduced.ensures.reduced.length_is in
    let same = renumbered_count c.in_ok-reduced.reduced.items c.in_ok-rules.rules.items c.in_ok-rules.ensures.rules in
    omega (arith, f, n, l, same))
