use Rattle.std.proofs.Common.{sym, ◌∙◌}
use Rattle.quiver_paths.proofs.PathOrderLemmas.{IsSmaller-from_greater}
use Rattle.path_algebra.proofs.Merging.{written_first, written_second, written_both, alike, AreBelow-first}
use Rattle.path_algebra.proofs.sums.push_greater.Goals as goal

pub returns-in_ok-push-in-Greater-clause-merging : goal.returns-in_ok-push-in-Greater-clause-merging
returns-in_ok-push-in-Greater-clause-merging c total m =
    written_first c.args.header.now c.args.factor total c.args.sum.now.items c.push.new.self.items c.args.left.now c.args.right.now c.index-left-0.result c.in_ok-clone-in-Greater.field-0
    c.requires.left_some c.index-left-0.is c.in_ok-clone-in-Greater.ensures.cases c.in_ok-push-in-Greater.ensures.items
    (AreBelow-first c.args.header.now c.args.right.now c.index-right-0.result c.index-left-0.result.path c.requires.right c.requires.right_some c.index-right-0.is
    (IsSmaller-from_greater c.index-left-0.result.path c.index-right-0.result.path (sym c.compare.ensures ∙ c.in-Greater.is))) m

pub returns-in_ok-push-in-Less-clause-merging : goal.returns-in_ok-push-in-Less-clause-merging
returns-in_ok-push-in-Less-clause-merging c total m =
    written_second c.args.header.now c.args.factor total c.args.sum.now.items c.push-in-Less.new.self.items c.args.left.now c.args.right.now c.index-right-0.result c.in_ok-times-in-Less.field-0
    c.requires.nonzero c.requires.small c.requires.right_some c.index-right-0.is c.in_ok-times-in-Less.ensures c.in_ok-push-in-Less.ensures.items
    (AreBelow-first c.args.header.now c.args.left.now c.index-left-0.result c.index-right-0.result.path c.requires.left c.requires.left_some c.index-left-0.is
    (sym c.compare.ensures ∙ c.in-Less.is)) m

pub returns-in_ok-push_joined-in-Equal-clause-merging : goal.returns-in_ok-push_joined-in-Equal-clause-merging
returns-in_ok-push_joined-in-Equal-clause-merging c total m =
    written_both c.args.header.now c.args.factor total c.args.sum.now.items c.push_joined.new.sum.items c.args.left.now c.args.right.now c.index-left-0.result c.index-right-0.result
    (alike c.args.header.now c.args.left.now c.args.right.now c.index-left-0.result c.index-right-0.result c.requires.left c.requires.right c.requires.left_some c.requires.right_some
    c.index-left-0.is c.index-right-0.is (sym c.compare.ensures ∙ c.in-Equal.is)) c.in_ok-push_joined-in-Equal.ensures m
