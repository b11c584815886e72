use Rattle.std.proofs.Common.{arith, ap, ◌∙◌}
use Rattle.claim_blocks.specs.PartMatrices.{filled_part}
use Rattle.claim_blocks.proofs.FilledMatrices.{takes_matrix}
use Rattle.claim_blocks.proofs.part_matrices.PartMatrices.take.Goals as goal

pub returns : goal.returns
returns c =
    let p = c.args.self.now in
    takes_matrix c.args.header.now p c.len-i.result c.row_count-rows.result c.column_count-columns.result c.in-Some.m c.args.tokens c.fill.new.self c.len-i.ensures
    (omega (arith, c.if-i-len.false, c.len.ensures)) (omega (arith, c.if-i-len-2.false, c.len-else-i-len.ensures)) c.row_count-rows.ensures c.column_count-columns.ensures (rw c.in-Some.is at c.in_ok-m.ensures)
    (λ e. omega (arith, e, c.if-rows-eq0.false)) (λ e. omega (arith, e, c.if-columns-eq0.false)) (c.in_ok-fill.ensures ∙ ap (λ ms. filled_part (record p { matrices = ms })) c.in_ok-push.ensures)
