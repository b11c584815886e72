use Rattle.std.proofs.Common.{arith, sym, ◌∙◌, ap}
use Rattle.path_algebra.specs.Occurring.{arrows_cmp}
use Rattle.path_algebra.proofs.TipPlaces.{tip-less, tip-greater, tip-equal}
use Rattle.path_algebra.proofs.tips.tip_place.Goals as goal

pub loop-low-preserved-in-Less : goal.loop-low-preserved-in-Less
loop-low-preserved-in-Less c = record {
  within = c.loop-low.invariant.within;
  between = λ k d l e.
      let old = c.loop-low.invariant.between k d l e in
      let past = tip-less c.args.rules.now c.args.arrows.now _ k c.index-rules-middle.result d
      (record { ascending = c.requires; first_inside = (let w = c.loop-low.invariant.within in omega arith); second_inside = l; first = c.index-rules-middle.is; second = e })
      (ap (λ xs. arrows_cmp xs c.args.arrows.now) (sym c.as_slice.ensures) ∙ sym c.compare_arrows.ensures ∙ c.in-Less.is) in
      (omega arith, old.1);
}

pub returns-in-Equal-clause-found : goal.returns-in-Equal-clause-found
returns-in-Equal-clause-found c = let w = c.loop-low.invariant.within in omega arith

pub returns-in-Equal-clause-same : goal.returns-in-Equal-clause-same
returns-in-Equal-clause-same c d = tip-equal c.args.rules.now c.args.arrows.now _ c.index-rules-middle.result d (let w = c.loop-low.invariant.within in omega arith) c.index-rules-middle.is
    (ap (λ xs. arrows_cmp xs c.args.arrows.now) (sym c.as_slice.ensures) ∙ sym c.compare_arrows.ensures ∙ c.in-Equal.is)

pub loop-low-preserved : goal.loop-low-preserved
loop-low-preserved c = record {
  within = (let w = c.loop-low.invariant.within in omega arith);
  between = λ k d l e.
      let old = c.loop-low.invariant.between k d l e in (
        old.0,
        tip-greater c.args.rules.now c.args.arrows.now _ k c.index-rules-middle.result d
            (record { ascending = c.requires; first_inside = (let w = c.loop-low.invariant.within in omega arith); second_inside = l; first = c.index-rules-middle.is; second = e })
            (ap (λ xs. arrows_cmp xs c.args.arrows.now) (sym c.as_slice.ensures) ∙ sym c.compare_arrows.ensures ∙ c.in-Greater.is),
      );
}
