use Rattle.std.proofs.Common.{◌≤◌, length}
use Rattle.linear_algebra.specs.Rows.{IsRow}
use Rattle.quiver_paths.specs.PathList.{ListsPathsBelow}
use Rattle.path_algebra.specs.declared.Header.{Header}
use Rattle.path_reduction.proofs.DenseElements.{IsGathered}
use Rattle.path_reduction.proofs.dense.terms_of.Given as goal

abbrev pub invariant-loop-place : goal.invariant-loop-place
invariant-loop-place l = record {
  within : l.end ≤ length l.coefs;
  gathered : (h : Header) → ListsPathsBelow h.quiver h.bound l.space → IsRow h.field (length l.space) l.coefs → IsGathered h l.space l.coefs l.end l.terms.items;
}

abbrev pub decreases-loop-place : goal.decreases-loop-place
decreases-loop-place l = l.end
