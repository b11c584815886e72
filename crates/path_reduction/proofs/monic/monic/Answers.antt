use Rattle.std.proofs.Common.{◌≡◌, ◌<◌, ◌∙◌, sym, ap, subst}
use Rattle.linear_algebra.specs.Field.{order, inv, sub}
use Rattle.linear_algebra.specs.FieldLaws.{inv_below}
use Rattle.path_algebra.specs.declared.Term.{Term}
use Rattle.path_reduction.proofs.Scaled.{monic_same, monic_factor, monic_from_sum, monic_makes, first_nonzero, first_small}
use Rattle.path_reduction.proofs.monic.monic.Goals as goal

pub returns-then-first-eq1-clause-terms : goal.returns-then-first-eq1-clause-terms
returns-then-first-eq1-clause-terms c x = monic_same c.args.header.now c.args.given.terms.items c.index.result.now x c.requires.some c.requires.terms c.index.ensures c.if-first-eq1.true

pub sub-factor-requires-clause-a_below : goal.sub-factor-requires-clause-a_below
sub-factor-requires-clause-a_below c = subst (λ n. n < order c.args.header.now.field) (sym c.inv.ensures) (inv_below c.args.header.now.field c.index.result.now.coef)

pub plus_multiple-requires-clause-nonzero : goal.plus_multiple-requires-clause-nonzero
plus_multiple-requires-clause-nonzero c =
    let q = c.args.header.now.field in
    let terms = c.args.given.terms.items in
    let x : Term = c.index.result.now in
    subst (λ n. 0 < n) (sym (c.sub-factor.ensures ∙ ap (λ i. sub q i 1) c.inv.ensures))
    (monic_factor q x.coef (first_nonzero c.args.header.now terms x c.requires.some c.requires.terms c.index.ensures) (first_small c.args.header.now terms x c.requires.some c.requires.terms c.index.ensures) c.if-first-eq1.false).0

pub plus_multiple-requires-clause-small : goal.plus_multiple-requires-clause-small
plus_multiple-requires-clause-small c =
    let q = c.args.header.now.field in
    let terms = c.args.given.terms.items in
    let x : Term = c.index.result.now in
    subst (λ n. n < order q) (sym (c.sub-factor.ensures ∙ ap (λ i. sub q i 1) c.inv.ensures))
    (monic_factor q x.coef (first_nonzero c.args.header.now terms x c.requires.some c.requires.terms c.index.ensures) (first_small c.args.header.now terms x c.requires.some c.requires.terms c.index.ensures) c.if-first-eq1.false).1

pub returns-clause-terms : goal.returns-clause-terms
returns-clause-terms c d =
    let q = c.args.header.now.field in
    monic_from_sum c.args.header.now c.args.given.terms.items c.deref.result.now c.deref-2.result.now c.in_ok-terms.terms.items c.index.result.now d c.sub-factor.result c.requires.some c.requires.terms c.index.ensures
    c.deref.ensures.value c.deref-2.ensures.value (c.sub-factor.ensures ∙ ap (λ i. sub q i 1) c.inv.ensures) c.in_ok-terms.ensures

pub returns-clause-makes : goal.returns-clause-makes
returns-clause-makes c d =
    let q = c.args.header.now.field in
    let terms = c.args.given.terms.items in
    let x : Term = c.index.result.now in
    let factor : c.sub-factor.result ≡ sub q (inv q x.coef) 1 = c.sub-factor.ensures ∙ ap (λ i. sub q i 1) c.inv.ensures in
    let facts = monic_factor q x.coef (first_nonzero c.args.header.now terms x c.requires.some c.requires.terms c.index.ensures) (first_small c.args.header.now terms x c.requires.some c.requires.terms c.index.ensures) c.if-first-eq1.false in
    monic_makes c.args.header.now terms c.deref.result.now c.deref-2.result.now c.in_ok-terms.terms.items c.sub-factor.result c.args.steps.now.items c.push_step.new.steps.items c.args.given.step c.in_ok-step.step
    (subst (λ n. 0 < n) (sym factor) facts.0) (subst (λ n. n < order q) (sym factor) facts.1) c.deref.ensures.value c.deref-2.ensures.value c.in_ok-terms.ensures c.in_ok-step.ensures.pushed c.in_ok-step.ensures.number d
