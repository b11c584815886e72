use Rattle.term_rows.proofs.TermRowCells.{first_dim}
use Rattle.term_rows.proofs.term_matrices.target_dimension.Goals as goal

pub returns-then-k-eq0 : goal.returns-then-k-eq0
returns-then-k-eq0 c = first_dim c.args.table.now.words c.args.table.now.header c.args.a.now c.args.terms.now c.args.k c.args.w c.index.result.now c.if-k-eq0.true c.requires.vertex c.requires.a.counted c.index.ensures
