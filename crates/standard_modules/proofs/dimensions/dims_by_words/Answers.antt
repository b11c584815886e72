use Rattle.std.proofs.Common.{◌∙◌, length, arith}
use Rattle.term_rows.specs.SumDims.{count_to}
use Rattle.standard_modules.proofs.Counted.{counted, count_few}
use Rattle.standard_modules.proofs.Lists.{list_of-none, list_of-pushed}
use Rattle.standard_modules.proofs.dimensions.dims_by_words.Goals as goal

pub loop-w-init : goal.loop-w-init
loop-w-init c = c.new-dims.ensures.items ∙ list_of-none (count_to c.args.table.now.words c.args.side c.args.v)

pub overflow_cast-words_at : goal.overflow_cast-words_at
overflow_cast-words_at c =
    let h = c.args.table.now.header in
    let ws = c.args.table.now.words in
    let side = c.args.side in
    let T = c.header.ensures.table in
    let n = counted h ws T side c.args.v c.loop-w.w c.side_in_table-hand.result c.words_at.result.now c.side_in_table-hand.ensures c.words_at.ensures in
    let f = count_few h ws T side c.args.v c.loop-w.w in
    omega (arith, n, f)

pub loop-w-preserved : goal.loop-w-preserved
loop-w-preserved c =
    let h = c.args.table.now.header in
    let ws = c.args.table.now.words in
    let side = c.args.side in
    let T = c.header.ensures.table in
    let n = counted h ws T side c.args.v c.loop-w.w c.side_in_table-hand.result c.words_at.result.now c.side_in_table-hand.ensures c.words_at.ensures in
    c.in_ok-push.ensures.items ∙ list_of-pushed c.loop-w.w (count_to ws side c.args.v) c.loop-w.dims.items (length c.words_at.result.now) c.loop-w.invariant n
