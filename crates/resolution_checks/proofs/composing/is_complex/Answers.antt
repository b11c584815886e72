use Rattle.std.proofs.Common.{◌≡◌, arith, subst}
use Rattle.resolution_checks.specs.Steps.{ComposeUpTo}
use Rattle.resolution_checks.proofs.CompositesAt.{up_more, complex_from, complex_to}
use Rattle.resolution_checks.proofs.composing.is_complex.Goals as goal

pub loop-k-preserved : goal.loop-k-preserved
loop-k-preserved c = λ t. up_more c.args.table.now.header c.args.table.now.words t c.args.a.now c.args.terms.now c.loop-k.k (c.loop-k.invariant t) (c.if-not-composes_everywhere.ensures t)

pub returns-then-not-composes_everywhere : goal.returns-then-not-composes_everywhere
returns-then-not-composes_everywhere c = λ t e. c.if-not-composes_everywhere.ensures t (complex_to c.args.table.now.header c.args.table.now.words t c.args.a.now c.args.terms.now c.args.n c.loop-k.k (omega (arith, c.loop-k-test.true)) e)

pub returns : goal.returns
returns c = λ t.
    let e : c.loop-k.k ≡ c.args.n = omega (arith, c.loop-k-test.false, c.loop-k.auto.k-end) in
    complex_from c.args.table.now.header c.args.table.now.words t c.args.a.now c.args.terms.now c.args.n
    (subst (ComposeUpTo c.args.table.now.header c.args.table.now.words t c.args.a.now c.args.terms.now) e (c.loop-k.invariant t))
