use Rattle.std.proofs.Common.{◌+◌, ◌∙◌, arith}
use Rattle.fp_linear.proofs.Cells.{cell-is}
use Rattle.fp_linear.proofs.KernelOf.{AreElements-none, IsExtended-written}
use Rattle.fp_linear.proofs.matrix.kernel.extend.Goals as goal

pub put_units-requires-clause-zero : goal.put_units-requires-clause-zero
put_units-requires-clause-zero c = λ i j l k. c.copy_block.ensures.block.others i (c.args.cols + j) (omega arith) (omega arith) ∙ cell-is (c.args.cols + c.args.rows) c.args.wide.now i (c.args.cols + j) ∙ c.requires.zero _

pub returns-clause-extended : goal.returns-clause-extended
returns-clause-extended c = λ q h.
    IsExtended-written q c.args.rows c.args.cols c.args.entries.now c.copy_block.new.target c.put_units.new.entries _
    (c.put_units.ensures.elements q (c.copy_block.ensures.elements q h (AreElements-none q c.args.wide.now c.requires.zero))) c.copy_block.ensures.block c.put_units.ensures.units

pub returns-clause-elements : goal.returns-clause-elements
returns-clause-elements c = λ q h. c.put_units.ensures.elements q (c.copy_block.ensures.elements q h (AreElements-none q c.args.wide.now c.requires.zero))
