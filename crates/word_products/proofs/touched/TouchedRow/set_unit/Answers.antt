use Rattle.word_products.proofs.TouchedRows.{unit-added}
use Rattle.word_products.proofs.touched.TouchedRow.set_unit.Goals as goal

pub returns-clause-row : goal.returns-clause-row
returns-clause-row c = unit-added c.clear.new.self.field c.args.self.now.width c.args.place c.clear.new.self.row c.add_at.new.self.row c.clear.ensures.row c.requires c.in_ok-add_at.ensures.row
