use Rattle.std.proofs.Common.{arith}
use Rattle.claim_blocks.proofs.FilledMatrices.{added_one, added_none, none_left, none_right}
use Rattle.claim_blocks.proofs.part_matrices.PartMatrices.add_next.Goals as goal
use Rattle.claim_blocks.proofs.part_matrices.PartMatrices.add_next.Goals.{else-rows-ne0-via-then-rows-ne0+else-columns-ne0, else-rows-ne0-via-else-rows-ne0}

pub returns-then-columns-ne0 : goal.returns-then-columns-ne0
returns-then-columns-ne0 c =
    added_none c.args.self.now c.len-i.result c.row_count-rows.result c.column_count-columns.result c.len-i.ensures c.row_count-rows.ensures c.column_count-columns.ensures
    (λ e. omega (arith, e, c.if-rows-ne0.true)) (λ e. omega (arith, e, c.if-columns-ne0.true))

pub returns : goal.returns
returns c =
    let r = c.row_count-rows.result in
    let k = c.column_count-columns.result in
    added_one c.args.self.now c.push.new.self c.in_ok-empty.empty c.len-i.result r k c.requires c.len-i.ensures c.row_count-rows.ensures c.column_count-columns.ensures
    (elim c.else-rows-ne0.branch [
      | else-rows-ne0-via-then-rows-ne0+else-columns-ne0 w ↦ none_right r k (omega (arith, w.if-columns-ne0))
      | else-rows-ne0-via-else-rows-ne0 w ↦ none_left r k (omega (arith, w.if-rows-ne0))
    ]) c.in_ok-empty.ensures c.in_ok-push.ensures
