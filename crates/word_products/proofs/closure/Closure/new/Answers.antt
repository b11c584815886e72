use Rattle.std.proofs.Common.{◌≡◌, length, arith, ◌+◌, ◌*◌}
use Rattle.word_products.proofs.RowSlices.{rows_of-none}
use Rattle.word_products.proofs.closure.Closure.new.Goals as goal

pub returns : goal.returns
returns c = λ i. record {
  field = c.args.field;
  columns = c.args.columns;
  room = (let e : length c.in_ok-pivots.pivots.items ≡ 2 * c.args.columns + 1 = (let l = c.in_ok-pivots.ensures.len in let o = c.in_ok-pivots.pivots.ok in omega arith) in e i);
  rows = rows_of-none c.args.columns c.new.result.items i;
}
