use Rattle.std.proofs.Common.{◌<◌, ◌++◌, length, sym, subst, arith}
use Rattle.std.specs.Prelude.{IfSome, IfNone}
use Rattle.std.proofs.lemmas.List.{take_all}
use Rattle.linear_algebra.specs.Field.{order, mul}
use Rattle.linear_algebra.specs.FieldLaws.{mul_below}
use Rattle.path_reduction.specs.ShortPaths.{IsWalked}
use Rattle.path_reduction.proofs.DenseSteps.{AddsAt, adds_row, added_none, added_more, added_all}
use Rattle.path_reduction.proofs.dense.add_products.Goals as goal

pub loop-term-init : goal.loop-term-init
loop-term-init c = record {
  row_is = c.requires.row;
  added = λ u v p m. added_none c.args.header.now c.args.space.now c.args.first c.args.terms.now c.args.behind.now u v p m c.args.factor c.args.coefs.now c.requires.row;
}

pub add_at-requires-clause-coef : goal.add_at-requires-clause-coef
add_at-requires-clause-coef c = subst (λ x. x < order c.args.header.now.field) (sym c.mul.ensures) (mul_below c.args.header.now.field _ _)

pub loop-term-preserved : goal.loop-term-preserved
loop-term-preserved c =
    let h = c.args.header.now in
    let adds = subst (λ m. AddsAt h m c.loop-term.coefs c.add_at.new.coefs c.walk_on-place.result) c.mul.ensures c.add_at.ensures in
    record {
      row_is = adds_row h (length c.args.space.now) (mul h.field c.args.factor c.term-item.result.coef) c.loop-term.coefs c.add_at.new.coefs c.walk_on-place.result c.loop-term.invariant.row_is adds;
      added = λ u v p m.
          added_more h c.args.space.now c.args.first c.args.terms.now c.args.behind.now u v p m c.args.factor c.args.coefs.now c.loop-term.coefs c.add_at.new.coefs c.loop-term.term-index c.term-item.result
          c.walk_on-place.result c.loop-term-test.true c.term-item.is
          (subst (λ xs. IfSome c.walk_on-place.result (IsWalked c.args.space.now c.args.first (xs ++ c.args.behind.now))) c.as_slice.ensures c.walk_on-place.ensures.some)
          (subst (λ xs. IfNone c.walk_on-place.result ((k : _) → IsWalked c.args.space.now c.args.first (xs ++ c.args.behind.now) k → ⊥)) c.as_slice.ensures c.walk_on-place.ensures.none)
          adds (c.loop-term.invariant.added u v p m);
    }

pub returns : goal.returns
returns c u v p m =
    added_all c.args.header.now c.args.space.now c.args.factor u v p c.args.terms.now _ c.args.coefs.now c.loop-term.coefs
    (take_all c.loop-term.term-index c.args.terms.now (omega (arith, c.loop-term-test.false))) (c.loop-term.invariant.added u v p m)
