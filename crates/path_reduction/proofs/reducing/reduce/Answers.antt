use Rattle.std.proofs.Common.{◌+◌, length, sym, ap, subst, arith}
use Rattle.linear_algebra.specs.Field.{add}
use Rattle.linear_algebra.specs.Rows.{IsRow}
use Rattle.path_algebra.specs.Elements.{sum_of_terms}
use Rattle.path_algebra.specs.ElementTerms.{AreTermsOf}
use Rattle.path_reduction.specs.Reducing.{HoldsElement, AreZeros, IsLastPlace, row_element}
use Rattle.path_reduction.proofs.Deriving.{derives_same, still_derived, Lengthens-same, Lengthens-trans}
use Rattle.path_reduction.proofs.PathPlaces.{few_listed}
use Rattle.path_reduction.proofs.DenseSteps.{reducing_begins, reducing_down, reducing_ends}
use Rattle.path_reduction.proofs.reducing.reduce.Goals as goal

pub loop-place-init : goal.loop-place-init
loop-place-init c =
    let h = c.args.header.now in
    let few = few_listed h.quiver h.bound c.args.space.now c.requires.space c.requires.allowed.quiver.ends c.requires.few in
    let holds = subst (λ ts. HoldsElement h c.args.space.now (sum_of_terms h.field h.bound ts) c.in_ok-coefs.coefs.items) c.deref.ensures.value c.in_ok-coefs.ensures in
    record {
      reducing = reducing_begins h c.args.rules.now c.args.given.terms.items c.args.space.now c.in_ok-coefs.coefs.items _ c.requires.allowed c.requires.tidy c.requires.terms (omega (arith, c.len-end.ensures)) holds;
      within = omega (arith, c.len-end.ensures);
      count = omega (arith, few, c.len-end.ensures);
      lengthens = Lengthens-same c.args.steps.now.items;
      makes = λ x from d. derives_same h c.args.steps.now.items c.args.given.step _ _ (λ p. ap (add h.field (x p)) (sym (holds.value p))) d;
    }

pub loop-place-preserved : goal.loop-place-preserved
loop-place-preserved c =
    let h = c.args.header.now in
    let rules = c.args.rules.now in
    let given = c.args.given.terms.items in
    let row = c.loop-place.element.coefs.items in
    let i = c.loop-place.invariant in
    let last = subst (λ cs. IsLastPlace cs c.loop-place.end c.in-Some.place) c.deref-in-loop-place.ensures.value c.in-Some.ensures in
    record {
      reducing = c.in_ok-element.ensures.reducing given (reducing_down h rules given c.args.space.now row c.loop-place.end (c.in-Some.place + 1) last.zeros i.reducing);
      within = omega (arith, last.inside, i.within);
      count = omega (arith, last.inside, i.count, c.in_ok-element.ensures.count);
      lengthens = Lengthens-trans c.args.steps.now.items c.loop-place.steps.items c.reduce_at.new.steps.items i.lengthens c.in_ok-element.ensures.lengthens;
      makes = λ x from d.
          let before = i.makes x from d in
          c.in_ok-element.ensures.makes x (still_derived h c.args.steps.now.items c.loop-place.steps.items rules i.lengthens before.lawful from) before;
    }

pub returns-clause-reduced : goal.returns-clause-reduced
returns-clause-reduced c =
    let h = c.args.header.now in
    let i = c.loop-place.invariant in
    let row = c.loop-place.element.coefs.items in
    let of = subst (λ cs. AreTermsOf h (row_element h c.args.space.now cs) c.in_ok-terms.terms.items) c.deref-2.ensures.value
    (c.in_ok-terms.ensures h c.requires.space (subst (IsRow h.field (length c.args.space.now)) (sym c.deref-2.ensures.value) i.reducing.row_is)) in
    reducing_ends h c.args.rules.now c.args.given.terms.items c.args.space.now row c.loop-place.end c.in_ok-terms.terms.items c.requires.allowed c.requires.tidy c.requires.space
    (subst (λ cs. AreZeros cs 0 c.loop-place.end) c.deref-in-loop-place.ensures.value c.in_default.ensures) i.reducing of

pub returns-clause-makes : goal.returns-clause-makes
returns-clause-makes c x from d =
    let h = c.args.header.now in
    let i = c.loop-place.invariant in
    let of = subst (λ cs. AreTermsOf h (row_element h c.args.space.now cs) c.in_ok-terms.terms.items) c.deref-2.ensures.value
    (c.in_ok-terms.ensures h c.requires.space (subst (IsRow h.field (length c.args.space.now)) (sym c.deref-2.ensures.value) i.reducing.row_is)) in
    derives_same h c.loop-place.steps.items c.loop-place.element.step _ _ (λ p. ap (add h.field (x p)) (sym (of.value p))) (i.makes x from d)
