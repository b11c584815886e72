use Rattle.std.proofs.Common.{◌<◌, ◌∙◌, arith, length}
use Rattle.local_checks.proofs.Composites.{other_default}
use Rattle.local_checks.proofs.PrintedIdeals.{has_rows, has_no_rows}
use Rattle.local_checks.proofs.clauses.is_not_zero.Goals as goal

pub returns : goal.returns
returns c = has_no_rows c.args.header.now c.args.m.now c.requires.m (λ v l. c.loop-v.invariant v (omega (arith, l, c.loop-v-test.false, c.len-v-end.ensures)))

pub returns-then-index-ne0 : goal.returns-then-index-ne0
returns-then-index-ne0 c =
    let inside : c.loop-v.v < length c.args.m.now.dims = omega (arith, c.loop-v-test.true, c.len-v-end.ensures) in
    has_rows c.args.header.now c.args.m.now c.requires.m c.loop-v.v inside (λ e. c.if-index-ne0.true (other_default c.args.m.now.dims c.loop-v.v c.index.result.now inside c.index.ensures ∙ e))
