use Rattle.std.proofs.Common.{take, ap, subst}
use Rattle.path_reduction.specs.Derived.{MakesBefore, MakesBehind}
use Rattle.path_reduction.proofs.Deriving.{makes_between}
use Rattle.path_reduction.proofs.TipStands.{slice_behind}
use Rattle.path_reduction.proofs.making.derive_between.Goals as goal

pub returns-clause-makes : goal.returns-clause-makes
returns-clause-makes c h ok t hu hv =
    let p = c.args.path.now in
    let rule = c.args.rule.now in
    makes_between h rule p c.args.before c.args.steps.now.items c.derive_behind.new.steps.items c.derive_before.new.steps.items c.in_ok-behind.behind c.in_ok-last.last ok t hu hv
    (subst (λ xs. MakesBehind xs c.args.steps.now.items rule.step c.derive_behind.new.steps.items c.in_ok-behind.behind)
    (slice_behind p rule c.args.before c.as_slice-arrows.result.now c.len.result c.as_slice-arrows.ensures c.len.ensures) c.in_ok-behind.ensures.makes)
    (subst (λ xs. MakesBefore xs c.derive_behind.new.steps.items c.in_ok-behind.behind c.derive_before.new.steps.items c.in_ok-last.last) (ap (take c.args.before) c.as_slice-arrows.ensures) c.in_ok-last.ensures.makes)
