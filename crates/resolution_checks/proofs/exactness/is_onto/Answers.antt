use Rattle.std.proofs.Common.{◌≡◌, ◌<◌, length, sym, ap, ◌∙◌, arith, subst}
use Rattle.quiver_paths.specs.Quiver.{vertex_count}
use Rattle.path_algebra.specs.declared.Header.{Header}
use Rattle.resolution_checks.specs.Steps.{OntoBelow}
use Rattle.resolution_checks.proofs.RanksAt.{onto_more, onto_from, onto_fails}
use Rattle.resolution_checks.proofs.exactness.is_onto.Goals as goal

pub returns-then-rank-target_dimension : goal.returns-then-rank-target_dimension
returns-then-rank-target_dimension c = λ t e.
    let h = c.args.table.now.header in
    let ws = c.args.table.now.words in
    let a = c.args.a.now in
    let terms = c.args.terms.now in
    let w = c.loop-w.w in
    let n : vertex_count h.quiver ≡ c.len-w-end.result = ap (λ (h : Header). vertex_count h.quiver) (sym c.header.ensures.header) ∙ sym c.len-w-end.ensures in
    c.if-rank-target_dimension.true (onto_fails h ws t a terms w c.term_rank-rank.result c.target_dimension.result (omega (arith, n, c.loop-w-test.true)) (c.term_rank-rank.ensures t) c.target_dimension.ensures e)

pub loop-w-preserved : goal.loop-w-preserved
loop-w-preserved c = λ t.
    let h = c.args.table.now.header in
    let ws = c.args.table.now.words in
    let a = c.args.a.now in
    let terms = c.args.terms.now in
    let w = c.loop-w.w in
    onto_more h ws t a terms w c.term_rank-rank.result c.target_dimension.result (c.loop-w.invariant t) (c.term_rank-rank.ensures t) c.target_dimension.ensures c.if-rank-target_dimension.false

pub returns : goal.returns
returns c = λ t.
    let h = c.args.table.now.header in
    let ws = c.args.table.now.words in
    let a = c.args.a.now in
    let terms = c.args.terms.now in
    let w = c.loop-w.w in
    let e : vertex_count h.quiver ≡ c.loop-w.w = ap (λ (h : Header). vertex_count h.quiver) (sym c.header.ensures.header) ∙ sym c.len-w-end.ensures ∙ omega (arith, c.loop-w-test.false, c.loop-w.auto.w-end) in
    onto_from h ws t a terms (subst (OntoBelow h ws t a terms) (sym e) (c.loop-w.invariant t))
