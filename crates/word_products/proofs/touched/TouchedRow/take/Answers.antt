use Rattle.std.proofs.Common.{◌≡◌, length, arith}
use Rattle.word_products.proofs.TouchedRows.{touched-none}
use Rattle.word_products.proofs.touched.TouchedRow.take.Goals as goal

pub returns-in-None-clause-taken : goal.returns-in-None-clause-taken
returns-in-None-clause-taken c =
    let none : length c.self.inside.places.items ≡ 0 = (let p = c.in-None.ensures.cases.0 in let o = c.self.inside.places.ok in omega arith) in
    rw (← c.self.view_is) (touched-none c.self.inside.field c.self.inside.width c.self.inside.row.items c.self.inside.places.items c.self.invariant none)
