use Rattle.std.proofs.Common.{◌/◌, ◌%◌, sym, ap, ◌∙◌, get_or}
use Rattle.linear_algebra.specs.Rows.{entry}
use Rattle.linear_algebra.proofs.Rows.{row-entry}
use Rattle.map_checks.proofs.ArrowRows.{held_more}
use Rattle.map_checks.proofs.radicals.holds_entries.Goals as goal

pub returns-then-entries-e : goal.returns-then-entries-e
returns-then-entries-e c h =
    let a = c.args.matrix.now in
    c.if-entries-e.true (h.at c.loop-e.e (rw (← c.cols-cols.ensures.count, ← c.rows.ensures.count) c.loop-e-test.true)
    ∙ sym (ap (λ r. get_or r (c.loop-e.e % c.cols-cols.result) 0) c.row-row.ensures.row ∙ row-entry a.rows (c.loop-e.e / c.cols-cols.result) (c.loop-e.e % c.cols-cols.result)
    ∙ ap (λ n. entry a.rows (c.loop-e.e / n) (c.loop-e.e % n)) c.cols-cols.ensures.count))

pub loop-e-preserved : goal.loop-e-preserved
loop-e-preserved c =
    let a = c.args.matrix.now in
    held_more a c.loop-e.e c.args.entries.now c.loop-e.invariant (c.if-entries-e.false
    ∙ ap (λ r. get_or r (c.loop-e.e % c.cols-cols.result) 0) c.row-row.ensures.row ∙ row-entry a.rows (c.loop-e.e / c.cols-cols.result) (c.loop-e.e % c.cols-cols.result)
    ∙ ap (λ n. entry a.rows (c.loop-e.e / n) (c.loop-e.e % n)) c.cols-cols.ensures.count)
