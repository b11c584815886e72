use Rattle.std.proofs.Common.{◌+◌, length}
use Rattle.path_algebra.specs.Elements.{sum_of_terms}
use Rattle.path_algebra.specs.ElementTerms.{IsMerging, plus_multiple}
use Rattle.path_algebra.proofs.sums.plus_multiple.Given as goal

abbrev pub invariant-loop-left : goal.invariant-loop-left
invariant-loop-left l = IsMerging l.header l.factor
    (plus_multiple l.header.field (sum_of_terms l.header.field l.header.bound l.first) l.factor (sum_of_terms l.header.field l.header.bound l.second)) l.sum.items l.left l.right

abbrev pub decreases-loop-left : goal.decreases-loop-left
decreases-loop-left l = length l.left + length l.right
