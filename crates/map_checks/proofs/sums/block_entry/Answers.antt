use Rattle.std.proofs.Common.{sym, ap, ◌∙◌, arith, ◌-◌, get_or, ltb, le-ltb}
use Rattle.std.proofs.lemmas.Bool.{cond-false}
use Rattle.linear_algebra.specs.Rows.{entry}
use Rattle.linear_algebra.proofs.Rows.{row-entry}
use Rattle.linear_algebra.proofs.Typed.{entry_right}
use Rattle.map_checks.proofs.BlockParts.{block_zero}
use Rattle.map_checks.proofs.sums.block_entry.Goals as goal

pub returns-then-j-start-2 : goal.returns-then-j-start-2
returns-then-j-start-2 c =
    let m = c.args.matrix.now in
    sym (block_zero c.args.start (entry m.rows c.args.r) c.args.j
    (λ i e. entry_right m.field m.row_count m.col_count m.rows c.cols.ensures.matrix.grid c.args.r i (omega (arith, e, c.if-j-start-2.true, c.cols.ensures.count, c.if-j-start.false))))

pub returns : goal.returns
returns c =
    let m = c.args.matrix.now in
    ap (λ r. get_or r (c.args.j - c.args.start) 0) c.row.ensures.row ∙ row-entry m.rows c.args.r (c.args.j - c.args.start)
    ∙ sym (cond-false (ltb c.args.j c.args.start) 0 (entry m.rows c.args.r (c.args.j - c.args.start)) (le-ltb c.args.j c.args.start (omega (arith, c.if-j-start.false))))
