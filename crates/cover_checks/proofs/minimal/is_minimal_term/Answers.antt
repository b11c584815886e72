use Rattle.std.proofs.Common.{◌≡◌, sym, ap, ◌∙◌, arith}
use Rattle.quiver_paths.specs.Quiver.{vertex_count}
use Rattle.path_algebra.specs.declared.Header.{Header}
use Rattle.module_types.specs.Readings.{read}
use Rattle.resolution_checks.specs.Steps.{words_of_side}
use Rattle.cover_checks.proofs.MinimalTerms.{below_none, below_more, minimal_everywhere, minimal_somewhere}
use Rattle.cover_checks.proofs.minimal.is_minimal_term.Goals as goal

pub loop-w-init : goal.loop-w-init
loop-w-init c = λ t. below_none (words_of_side c.args.table.now.header c.args.table.now.words t c.args.a.now c.args.terms.now) (read c.args.table.now.header c.args.a.now) c.args.terms.now c.args.k

pub loop-w-preserved : goal.loop-w-preserved
loop-w-preserved c = λ t.
    below_more (words_of_side c.args.table.now.header c.args.table.now.words t c.args.a.now c.args.terms.now) (read c.args.table.now.header c.args.a.now) c.args.terms.now c.args.k c.loop-w.w
    (c.loop-w.invariant t) (c.if-not-is_minimal_at.ensures t)

pub returns-then-not-is_minimal_at : goal.returns-then-not-is_minimal_at
returns-then-not-is_minimal_at c = λ t m.
    let n : vertex_count c.args.table.now.header.quiver ≡ c.len-w-end.result = ap (λ (h : Header). vertex_count h.quiver) (sym c.header.ensures.header) ∙ sym c.len-w-end.ensures in
    c.if-not-is_minimal_at.ensures t (minimal_somewhere c.args.table.now.header c.args.table.now.words t c.args.a.now c.args.terms.now c.args.k c.loop-w.w (omega (arith, n, c.loop-w-test.true)) m)

pub returns : goal.returns
returns c = λ t.
    let e : c.loop-w.w ≡ vertex_count c.args.table.now.header.quiver = sym (ap (λ (h : Header). vertex_count h.quiver) (sym c.header.ensures.header) ∙ sym c.len-w-end.ensures ∙ omega (arith, c.loop-w-test.false, c.loop-w.auto.w-end)) in
    minimal_everywhere c.args.table.now.header c.args.table.now.words t c.args.a.now c.args.terms.now c.args.k c.loop-w.w e c.requires.terms (c.loop-w.invariant t)
