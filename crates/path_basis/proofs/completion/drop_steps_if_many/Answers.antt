use Rattle.std.proofs.Common.{◌∙◌, length, sym, ap, subst, arith}
use Rattle.std.proofs.lemmas.Bool.{eqb-true}
use Rattle.std.specs.Prelude.{All}
use Rattle.path_algebra.specs.declared.rules.Rule.{Rule}
use Rattle.path_algebra.specs.Derivations.{IsNumber}
use Rattle.path_basis.specs.Measure.{free_count}
use Rattle.path_basis.specs.Pruning.{AreOrdered}
use Rattle.path_basis.proofs.Renumbered.{still_free, dropped_completion}
use Rattle.path_basis.proofs.completion.drop_steps_if_many.Goals as goal

pub drop_unused_steps-requires-clause-ordered : goal.drop_unused_steps-requires-clause-ordered
drop_unused_steps-requires-clause-ordered c = subst AreOrdered (sym c.deref.ensures.value) c.requires.ordered

pub drop_unused_steps-requires-clause-numbered : goal.drop_unused_steps-requires-clause-numbered
drop_unused_steps-requires-clause-numbered c =
    subst (λ steps. All (λ (rule : Rule). IsNumber (length steps) rule.step) c.replace-rules.result.items) (sym c.deref.ensures.value)
    (subst (All (λ (rule : Rule). IsNumber (length c.args.state.now.steps.items) rule.step)) (sym (ap (λ v. v.items) c.replace-rules.ensures.value)) c.requires.numbered)

pub returns-clause-same : goal.returns-clause-same
returns-clause-same c h = still_free h c.replace-rules.result.items c.in_ok-rules.rules.items c.in_ok-rules.ensures.rules ∙ ap (free_count h) (ap (λ v. v.items) c.replace-rules.ensures.value)

pub returns-clause-completion : goal.returns-clause-completion
returns-clause-completion c h completion =
    dropped_completion h c.args.state.now.rules.items c.replace-rules.result.items c.in_ok-rules.rules.items c.args.state.now.removed.items c.args.state.now.steps.items c.deref.result.now c.in_ok-rules.steps.items
    (let b = c.args.state.now.removed.ok in let e = eqb-true _ 0 (sym c.is_empty.ensures ∙ c.if-not-is_empty.false) in omega (arith, b, e)) (ap (λ v. v.items) c.replace-rules.ensures.value) c.deref.ensures.value
    c.in_ok-rules.ensures.rules c.in_ok-rules.ensures.count c.in_ok-rules.ensures.lawful c.in_ok-rules.ensures.derived completion
