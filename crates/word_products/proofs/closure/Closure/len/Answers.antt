use Rattle.std.proofs.Common.{sym}
use Rattle.linear_algebra.proofs.Rows.{length-rows_of}
use Rattle.word_products.proofs.closure.Closure.len.Goals as goal

pub returns : goal.returns
returns c = rw (← c.self.view_is) (sym (length-rows_of c.self.inside.rows c.self.inside.columns c.self.inside.entries.items))
