use Rattle.std.proofs.Common.{◌≡◌, arith, subst}
use Rattle.resolution_checks.specs.Steps.{ExactUpTo}
use Rattle.resolution_checks.proofs.RanksAt.{exact_up, exact_from, exact_to}
use Rattle.resolution_checks.proofs.exactness.is_exact.Goals as goal

pub loop-k-preserved : goal.loop-k-preserved
loop-k-preserved c = λ t. exact_up c.args.table.now.header c.args.table.now.words t c.args.a.now c.args.terms.now c.loop-k.k (c.loop-k.invariant t) (c.if-not-is_exact_everywhere.ensures t)

pub returns-then-not-is_exact_everywhere : goal.returns-then-not-is_exact_everywhere
returns-then-not-is_exact_everywhere c = λ t e. c.if-not-is_exact_everywhere.ensures t (exact_to c.args.table.now.header c.args.table.now.words t c.args.a.now c.args.terms.now c.args.n c.loop-k.k (omega (arith, c.loop-k-test.true)) e)

pub returns : goal.returns
returns c = λ t.
    let e : c.loop-k.k ≡ c.args.n = omega (arith, c.loop-k-test.false, c.loop-k.auto.k-end) in
    exact_from c.args.table.now.header c.args.table.now.words t c.args.a.now c.args.terms.now c.args.n
    (subst (ExactUpTo c.args.table.now.header c.args.table.now.words t c.args.a.now c.args.terms.now) e (c.loop-k.invariant t))
