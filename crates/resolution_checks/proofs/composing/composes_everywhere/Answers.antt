use Rattle.std.proofs.Common.{◌≡◌, length, sym, ap, ◌∙◌, arith, subst}
use Rattle.quiver_paths.specs.Quiver.{vertex_count}
use Rattle.path_algebra.specs.declared.Header.{Header}
use Rattle.resolution_checks.specs.Steps.{ComposeBelow}
use Rattle.resolution_checks.proofs.CompositesAt.{below_more}
use Rattle.resolution_checks.proofs.composing.composes_everywhere.Goals as goal

pub loop-w-preserved : goal.loop-w-preserved
loop-w-preserved c = λ t. below_more c.args.table.now.header c.args.table.now.words t c.args.a.now c.args.terms.now c.args.k c.loop-w.w (c.loop-w.invariant t) (c.if-not-composes_at.ensures t)

pub returns : goal.returns
returns c = λ t.
    let e : vertex_count c.args.table.now.header.quiver ≡ c.loop-w.w = ap (λ (h : Header). vertex_count h.quiver) (sym c.header.ensures.header) ∙ sym c.len-w-end.ensures ∙ omega (arith, c.loop-w-test.false, c.loop-w.auto.w-end) in
    subst (ComposeBelow c.args.table.now.header c.args.table.now.words t c.args.a.now c.args.terms.now c.args.k) (sym e) (c.loop-w.invariant t)
