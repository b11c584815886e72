use Rattle.std.proofs.Common.{◌∙◌, arith}
use Rattle.fp_linear.specs.Matrix.{PlainMatrix}
use Rattle.module_operations.proofs.Counts.{map_take-more, map_take-all}
use Rattle.module_operations.proofs.quotient_modules.col_counts.Goals as goal

pub loop-i-preserved : goal.loop-i-preserved
loop-i-preserved c =
    rw (c.in_ok-push.ensures.items, c.cols.ensures.count)
    (map_take-more (λ (m : PlainMatrix). m.col_count) c.args.matrices.now c.loop-i.i c.index.result.now c.loop-i.counts.items (omega arith) c.index.ensures c.loop-i.invariant)

pub returns : goal.returns
returns c = c.from_vec.ensures ∙ c.loop-i.invariant ∙ map_take-all (λ (m : PlainMatrix). m.col_count) c.args.matrices.now c.loop-i.i (omega arith)
