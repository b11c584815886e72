use Rattle.std.proofs.Common.{sym, ◌∙◌, arith, List, subst}
use Rattle.std.proofs.lemmas.Bool.{eqb-true}
use Rattle.path_algebra.specs.declared.Term.{Term}
use Rattle.path_algebra.specs.Elements.{sum_of_terms}
use Rattle.path_algebra.specs.ElementTerms.{IsMerging, plus_multiple}
use Rattle.path_algebra.proofs.Merging.{merging_begins, merging_ends, merging_rests}
use Rattle.path_algebra.proofs.sums.plus_multiple.Goals as goal

pub loop-left-init : goal.loop-left-init
loop-left-init c = subst (λ (d : List Term). IsMerging c.args.header.now c.args.factor
    (plus_multiple c.args.header.now.field (sum_of_terms c.args.header.now.field c.args.header.now.bound c.args.first.now) c.args.factor (sum_of_terms c.args.header.now.field c.args.header.now.bound c.args.second.now)) d c.args.first.now c.args.second.now)
    (sym c.new-sum.ensures.items) (merging_begins c.args.header.now c.args.factor c.args.first.now c.args.second.now c.requires.first c.requires.second)

pub offset_bounds-left-taken : goal.offset_bounds-left-taken
offset_bounds-left-taken c = let l = c.in_ok-taken.ensures.one.0 in omega arith

pub offset_bounds-right-taken : goal.offset_bounds-right-taken
offset_bounds-right-taken c = let l = c.in_ok-taken.ensures.one.1 in omega arith

pub loop-left-preserved : goal.loop-left-preserved
loop-left-preserved c =
    merging_rests c.args.header.now c.args.factor _ c.push_greatest.new.sum.items c.loop-left.left.now c.loop-left.right.now c.in_ok-taken.taken.0 c.in_ok-taken.taken.1
    (c.in_ok-taken.ensures.merging _ c.loop-left.invariant)

pub returns : goal.returns
returns c = merging_ends c.args.header.now c.args.factor _ c.loop-left.sum.items c.loop-left.left.now c.loop-left.right.now c.loop-left.invariant
    (eqb-true _ 0 (sym c.is_empty.ensures ∙ c.if-not-is_empty.false)) (eqb-true _ 0 (sym c.is_empty-else-not-is_empty.ensures ∙ c.if-not-is_empty-2.false))
