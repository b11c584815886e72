use Rattle.std.proofs.Common.{sym, ◌∙◌, arith, ◌≡◌, ◌≢◌, length}
use Rattle.std.proofs.lemmas.Bool.{eqb-true, eqb-false}
use Rattle.path_algebra.proofs.Merging.{written_first, written_second, AreBelow-none}
use Rattle.path_algebra.proofs.sums.push_greatest.Goals as goal

pub returns-then-is_empty-clause-merging : goal.returns-then-is_empty-clause-merging
returns-then-is_empty-clause-merging c total m =
    let none : length c.args.right.now ≡ 0 = eqb-true _ 0 (sym c.is_empty.ensures ∙ c.if-is_empty.true) in
    written_first c.args.header.now c.args.factor total c.args.sum.now.items c.push.new.self.items c.args.left.now c.args.right.now c.index-left-0.result c.in_ok-clone.field-0
    (omega arith) c.index-left-0.is c.in_ok-clone.ensures.cases c.in_ok-push.ensures.items (AreBelow-none c.args.right.now c.index-left-0.result.path none) m

pub returns-then-is_empty-2-clause-merging : goal.returns-then-is_empty-2-clause-merging
returns-then-is_empty-2-clause-merging c total m =
    let none : length c.args.left.now ≡ 0 = eqb-true _ 0 (sym c.is_empty-2.ensures ∙ c.if-is_empty-2.true) in
    written_second c.args.header.now c.args.factor total c.args.sum.now.items c.push-then-is_empty-2.new.self.items c.args.left.now c.args.right.now c.index-right-0.result c.in_ok-times.field-0
    c.requires.nonzero c.requires.small (omega arith) c.index-right-0.is c.in_ok-times.ensures c.in_ok-push-2.ensures.items (AreBelow-none c.args.left.now c.index-right-0.result.path none) m

pub push_greater-requires-clause-left_some : goal.push_greater-requires-clause-left_some
push_greater-requires-clause-left_some c = let n : length c.args.left.now ≢ 0 = eqb-false _ 0 (sym c.is_empty-2.ensures ∙ c.if-is_empty-2.false) in omega arith

pub push_greater-requires-clause-right_some : goal.push_greater-requires-clause-right_some
push_greater-requires-clause-right_some c = let n : length c.args.right.now ≢ 0 = eqb-false _ 0 (sym c.is_empty.ensures ∙ c.if-is_empty.false) in omega arith
