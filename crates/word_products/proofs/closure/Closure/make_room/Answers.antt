use Rattle.std.proofs.Common.{arith}
use Rattle.linear_algebra.proofs.Rows.{length-rows_of}
use Rattle.word_products.proofs.closure.Closure.make_room.Goals as goal

pub returns-else-self-len-clause-room : goal.returns-else-self-len-clause-room
returns-else-self-len-clause-room c = rw (← c.self.view_is) (let e = length-rows_of c.self.inside.rows c.self.inside.columns c.self.inside.entries.items in let f = c.self.invariant.rows_fit in let o = c.self.inside.pivots.ok in let n = c.len.ensures in let d = c.if-self-len.false in omega arith)
