use Rattle.std.proofs.Common.{arith}
use Rattle.standard_modules.specs.StandardModules.{projective_rep}
use Rattle.standard_modules.proofs.Modules.{written_shape, written_over, projective_total, projective_over}
use Rattle.standard_modules.proofs.standard.projective_module.Goals as goal

pub returns-clause-shape : goal.returns-clause-shape
returns-clause-shape c =
    let h = c.args.table.now.header in
    let ws = c.args.table.now.words in
    let T = c.in_ok-m.ensures.table in
    let e = projective_total h ws T c.args.side c.args.v in
    written_shape h c.args.side (projective_rep h ws T c.args.side c.args.v) c.in_ok-m.m (c.in_ok-m.ensures.module T) (omega (arith, e, c.projective_dim-dim.ensures.dim, c.if-dim-gt-MOST_DIMENSION.false))

pub returns-clause-over : goal.returns-clause-over
returns-clause-over c =
    let h = c.args.table.now.header in
    let ws = c.args.table.now.words in
    let T = c.in_ok-m.ensures.table in
    written_over h c.args.side (projective_rep h ws T c.args.side c.args.v) c.in_ok-m.m (c.in_ok-m.ensures.module T) (projective_over h ws T c.args.side c.args.v)
