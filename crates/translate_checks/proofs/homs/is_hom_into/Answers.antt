use Rattle.std.proofs.Common.{◌≡◌, ap, ◌∙◌, arith}
use Rattle.quiver_paths.specs.Quiver.{arrow_count}
use Rattle.path_algebra.specs.declared.Header.{Header}
use Rattle.module_checks.proofs.Squares.{squares_all}
use Rattle.translate_checks.specs.Steps.{module_in, injectives_in}
use Rattle.translate_checks.proofs.Ends.{arrows_at_side}
use Rattle.translate_checks.proofs.HomSteps.{squares-none, squares-more}
use Rattle.translate_checks.proofs.homs.is_hom_into.Goals as goal

pub loop-k-init : goal.loop-k-init
loop-k-init c = λ t.
    let h = c.args.table.now.header in
    let ws = c.args.table.now.words in
    squares-none (module_in h ws t c.args.side c.args.m.now) (injectives_in h ws t c.args.side c.args.vertices.now) c.args.matrices.now

pub goes_into_at-requires-clause-arrow : goal.goes_into_at-requires-clause-arrow
goes_into_at-requires-clause-arrow c =
    let n : c.len-k-end.result ≡ arrow_count c.args.table.now.header.quiver = c.len-k-end.ensures ∙ ap (λ (h : Header). arrow_count h.quiver) c.header.ensures.header in
    omega (arith, n, c.loop-k-test.true)

pub loop-k-preserved : goal.loop-k-preserved
loop-k-preserved c = λ t.
    let h = c.args.table.now.header in
    let ws = c.args.table.now.words in
    squares-more (module_in h ws t c.args.side c.args.m.now) (injectives_in h ws t c.args.side c.args.vertices.now) c.args.matrices.now c.loop-k.k (c.loop-k.invariant t) (c.if-not-goes_into_at.ensures t)

pub returns-then-not-goes_into_at : goal.returns-then-not-goes_into_at
returns-then-not-goes_into_at c = λ t e. c.if-not-goes_into_at.ensures t (e c.loop-k.k)

pub returns : goal.returns
returns c = λ t.
    let h = c.args.table.now.header in
    let ws = c.args.table.now.words in
    let n : c.len-k-end.result ≡ arrow_count h.quiver = c.len-k-end.ensures ∙ ap (λ (h : Header). arrow_count h.quiver) c.header.ensures.header in
    let s = arrows_at_side c.args.side h in
    squares_all (module_in h ws t c.args.side c.args.m.now) (injectives_in h ws t c.args.side c.args.vertices.now) c.args.matrices.now c.loop-k.k (omega (arith, n, s, c.loop-k-test.false)) (c.loop-k.invariant t)
