use Rattle.std.proofs.Common.{◌/◌, ◌%◌, ap, ◌∙◌, get_or}
use Rattle.linear_algebra.specs.Rows.{entry}
use Rattle.linear_algebra.proofs.Rows.{row-entry}
use Rattle.module_checks.proofs.VertexMatrices.{copied_more}
use Rattle.module_checks.proofs.ranks.copy_entries.Goals as goal

pub loop-e-preserved : goal.loop-e-preserved
loop-e-preserved c =
    let a = c.args.matrix.now in
    copied_more a c.loop-e.e _ c.loop-e.entries (rw (c.loop-e.auto.entries, c.requires, ← c.cols-cols.ensures.count, ← c.rows.ensures.count) c.loop-e-test.true)
    (ap (λ r. get_or r (c.loop-e.e % c.cols-cols.result) 0) c.row-row.ensures.row ∙ row-entry a.rows (c.loop-e.e / c.cols-cols.result) (c.loop-e.e % c.cols-cols.result)
    ∙ ap (λ n. entry a.rows (c.loop-e.e / n) (c.loop-e.e % n)) c.cols-cols.ensures.count) c.loop-e.invariant
