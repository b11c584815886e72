use Rattle.std.proofs.Common.{◌≡◌, ◌∙◌, sym, ap, arith}
use Rattle.projectives.specs.Canonical.{with_free}
use Rattle.proj_cover.specs.CanonicalTerms.{term_of}
use Rattle.proj_cover.proofs.Columns.{free_none}
use Rattle.proj_cover.proofs.Pivots.{form_width, pivots_found}
use Rattle.proj_cover.proofs.generators.add_vertex.Goals as goal

pub loop-c-init : goal.loop-c-init
loop-c-init c = λ q Q X before f e. e ∙ ap (term_of X) (sym (free_none X c.args.w before))

pub loop-c-preserved : goal.loop-c-preserved
loop-c-preserved c = λ q Q X before f e.
    let b = c.args.basis.now in
    c.in_ok-add_column.ensures q Q X before (c.cols-width.ensures.count ∙ form_width X c.args.w b f)
    (pivots_found X c.args.w b c.deref.result.now f (c.deref.ensures.value ∙ c.in_ok-pivots.ensures) c.loop-c.c) (c.loop-c.invariant q Q X before f e)

pub returns : goal.returns
returns c = λ q Q X before f e.
    let at : c.loop-c.c ≡ X.dim c.args.w = omega (arith, c.loop-c-test.false, c.loop-c.auto.c-end, c.cols-width.ensures.count, form_width X c.args.w c.args.basis.now f) in
    c.loop-c.invariant q Q X before f e ∙ ap (λ n. term_of X (with_free X c.args.w n before)) at
