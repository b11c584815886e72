use Rattle.std.proofs.Common.{◌≡◌, ◌-◌, ◌+◌, length, arith, subst}
use Rattle.path_basis.specs.Pruning.{AreMarked}
use Rattle.path_basis.proofs.pruning.mark_used.Goals as goal

pub loop-behind-preserved : goal.loop-behind-preserved
loop-behind-preserved c =
    let n = length c.args.steps.now in
    let i = c.loop-behind.behind in
    let l = c.loop-behind-test.true in
    let here : n - 1 - i ≡ n - (i + 1) = omega arith in
    let next : n - i ≡ n - 1 - i + 1 = omega (arith, l) in
    subst (AreMarked c.args.steps.now c.args.rules.now c.mark_named.new.marks.items) here
    (c.mark_named.ensures c.args.rules.now (subst (AreMarked c.args.steps.now c.args.rules.now c.loop-behind.marks.items) next c.loop-behind.invariant))
