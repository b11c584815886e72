use Rattle.std.proofs.Common.{◌≡◌, length, sym, ap, ◌∙◌, arith, subst}
use Rattle.quiver_paths.specs.Quiver.{vertex_count}
use Rattle.path_algebra.specs.declared.Header.{Header}
use Rattle.resolution_checks.specs.Steps.{ExactBelow}
use Rattle.resolution_checks.proofs.RanksAt.{exact_more}
use Rattle.resolution_checks.proofs.exactness.is_exact_everywhere.Goals as goal

pub loop-w-preserved : goal.loop-w-preserved
loop-w-preserved c = λ t. exact_more c.args.table.now.header c.args.table.now.words t c.args.a.now c.args.terms.now c.args.k c.loop-w.w (c.loop-w.invariant t) (c.if-not-is_exact_at.ensures t)

pub returns : goal.returns
returns c = λ t.
    let e : vertex_count c.args.table.now.header.quiver ≡ c.loop-w.w = ap (λ (h : Header). vertex_count h.quiver) (sym c.header.ensures.header) ∙ sym c.len-w-end.ensures ∙ omega (arith, c.loop-w-test.false, c.loop-w.auto.w-end) in
    subst (ExactBelow c.args.table.now.header c.args.table.now.words t c.args.a.now c.args.terms.now c.args.k) (sym e) (c.loop-w.invariant t)
