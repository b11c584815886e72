use Rattle.std.proofs.Common.{◌≡◌, ◌<◌, sym, ap, ◌∙◌, arith, subst}
use Rattle.quiver_paths.specs.Quiver.{arrow_count}
use Rattle.path_algebra.specs.declared.Header.{Header}
use Rattle.module_types.specs.Algebras.{algebra_at}
use Rattle.module_types.specs.Readings.{read}
use Rattle.module_checks.proofs.Sides.{arrows_at}
use Rattle.map_checks.specs.ArrowRows.{AskArrows}
use Rattle.resolution_checks.specs.Steps.{words_of_side}
use Rattle.cover_checks.specs.Covers.{covered_rep}
use Rattle.cover_checks.proofs.RadicalFolds.{below_none, below_more, stays_where, where_stays, asks_none, asks_more}
use Rattle.cover_checks.proofs.folding.fold_radical.Goals as goal

pub loop-arrow-init : goal.loop-arrow-init
loop-arrow-init c = record {
  used = omega arith;
  elements = c.clear.ensures.elements c.args.field;
  clear = record { clear = λ k h. c.clear.ensures.clear.clear k (omega arith) };
  folded = λ t B.
      let W = words_of_side c.args.table.now.header c.args.table.now.words t c.args.a.now c.args.terms.now in
      let X = read c.args.table.now.header c.args.a.now in (
        below_none W X c.args.terms.now c.args.k c.args.w,
        asks_none W X c.args.terms.now c.args.k c.args.w c.args.field c.requires.field c.args.size c.args.rows c.clear.new.entries c.clear.ensures.clear,
      );
}

pub loop-arrow-preserved : goal.loop-arrow-preserved
loop-arrow-preserved c = record {
  used = c.in_ok-used.ensures.used.0;
  elements = c.in_ok-used.ensures.elements;
  clear = c.in_ok-used.ensures.used.1;
  folded = λ t B.
      let W = words_of_side c.args.table.now.header c.args.table.now.words t c.args.a.now c.args.terms.now in
      let X = read c.args.table.now.header c.args.a.now in
      let g = c.in_ok-used.ensures.folded t B in
      let p = c.loop-arrow.invariant.folded t B in (
        below_more W X c.args.terms.now c.args.k c.args.w c.loop-arrow.arrow p.0 g.0,
        asks_more W X c.args.terms.now c.args.k c.args.w c.args.field c.requires.field c.args.size c.args.rows c.loop-arrow.arrow c.loop-arrow.entries c.fold_arrow.new.entries p.1 g.1,
      );
}

pub returns-in_err-used-clause-folded : goal.returns-in_err-used-clause-folded
returns-in_err-used-clause-folded c = λ t B.
    let h = c.args.table.now.header in
    let W = words_of_side h c.args.table.now.words t c.args.a.now c.args.terms.now in
    let X = read h c.args.a.now in
    let n : c.len-arrow-end.result ≡ arrow_count h.quiver = c.len-arrow-end.ensures ∙ ap (λ (h : Header). arrow_count h.quiver) c.header.ensures.header in
    let l : c.loop-arrow.arrow < (algebra_at c.args.a.now.side h).quiver.arrows = subst (λ z. c.loop-arrow.arrow < z) (sym (arrows_at c.args.a.now.side h)) (omega (arith, n, c.loop-arrow-test.true)) in
    rw c.from_residual.ensures (λ s. c.in_err-used.ensures.folded t B (where_stays W X c.args.terms.now c.args.k c.args.w c.loop-arrow.arrow l s))

pub returns-clause-folded : goal.returns-clause-folded
returns-clause-folded c = λ t B.
    let h = c.args.table.now.header in
    let W = words_of_side h c.args.table.now.words t c.args.a.now c.args.terms.now in
    let X = read h c.args.a.now in
    let n : c.len-arrow-end.result ≡ arrow_count h.quiver = c.len-arrow-end.ensures ∙ ap (λ (h : Header). arrow_count h.quiver) c.header.ensures.header in
    let e : c.loop-arrow.arrow ≡ arrow_count h.quiver = omega (arith, n, c.loop-arrow-test.false, c.loop-arrow.auto.arrow-end) in
    let p = c.loop-arrow.invariant.folded t B in (
      stays_where W X c.args.terms.now c.args.k c.args.w c.loop-arrow.arrow (e ∙ sym (arrows_at c.args.a.now.side h)) p.0,
      subst (λ n. AskArrows (covered_rep W X c.args.terms.now c.args.k) c.args.w c.args.size c.args.rows n c.loop-arrow.entries) e p.1,
    )
