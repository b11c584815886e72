use Rattle.module_checks.proofs.VertexMatrices.{copied_rank}
use Rattle.module_checks.proofs.ranks.rank_of.Goals as goal

pub returns : goal.returns
returns c = copied_rank c.args.matrix.now c.copy_entries.new.entries c.echelon_rows.new.entries c.echelon_rows.new.pivots c.echelon_rows.result c.rows.ensures.matrix c.copy_entries.ensures.copied c.copy_entries.ensures.elements
    (rw c.field.ensures.field at c.echelon_rows.ensures.elements) (rw (c.field.ensures.field, c.rows-2.ensures.count, c.cols-2.ensures.count) at c.echelon_rows.ensures.form)
