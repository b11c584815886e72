use Rattle.std.proofs.Common.{◌≤◌, subst, arith}
use Rattle.path_reduction.proofs.DenseElements.{gather_begins, gather_last, gather_ends}
use Rattle.path_reduction.proofs.dense.terms_of.Goals as goal

pub loop-place-init : goal.loop-place-init
loop-place-init c = record {
  within = omega arith;
  gathered = λ h lists is. gather_begins h c.args.space.now c.args.coefs.now _ c.new-terms.result.items (omega arith) c.new-terms.ensures.items;
}

pub loop-place-preserved : goal.loop-place-preserved
loop-place-preserved c = record {
  within = omega (arith, c.in-Some.ensures.inside, c.loop-place.invariant.within);
  gathered = λ h lists is.
      gather_last h c.args.space.now c.args.coefs.now c.loop-place.end c.in-Some.place c.loop-place.terms.items c.push_term.new.terms.items c.path.result.now lists is
      (subst (λ n. c.loop-place.end ≤ n) c.requires c.loop-place.invariant.within) c.in-Some.ensures c.path.ensures c.in_ok-push_term.ensures (c.loop-place.invariant.gathered h lists is);
}

pub returns : goal.returns
returns c h lists is =
    gather_ends h c.args.space.now c.args.coefs.now c.loop-place.end c.loop-place.terms.items is (subst (λ n. c.loop-place.end ≤ n) c.requires c.loop-place.invariant.within) c.in_default.ensures
    (c.loop-place.invariant.gathered h lists is)
