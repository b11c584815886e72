use Rattle.fp_linear.proofs.KernelOf.{kernel-of, pivots-ascend}
use Rattle.cover_checks.proofs.Extended.{ends_block}
use Rattle.cover_checks.proofs.kernels.kernel_of.Goals as goal

pub count_below-left-requires-clause-ascending : goal.count_below-left-requires-clause-ascending
count_below-left-requires-clause-ascending c = λ i k l b. pivots-ascend c.args.field _ _ _ c.echelon_rows-rank.new.pivots c.echelon_rows-rank.result i k c.echelon_rows-rank.ensures.form l b

pub returns-clause-kernel : goal.returns-clause-kernel
returns-clause-kernel c =
    kernel-of c.args.field c.args.rows c.args.cols c.echelon_rows-rank.result c.count_below-left.result c.args.matrix.now c.extend.new.wide c.echelon_rows-rank.new.entries c.echelon_rows-rank.new.pivots c.copy_ends.new.target _
    (c.extend.ensures.extended c.args.field c.requires.elements) c.echelon_rows-rank.ensures.elements c.echelon_rows-rank.ensures.form c.count_below-left.ensures.fits c.count_below-left.ensures.before c.count_below-left.ensures.behind (c.copy_ends.ensures.elements c.args.field c.echelon_rows-rank.ensures.elements (c.clear.ensures.elements c.args.field))
    (ends_block _ c.args.rows c.count_below-left.result c.args.cols _ c.echelon_rows-rank.new.entries c.copy_ends.new.target c.copy_ends.ensures.ends)
