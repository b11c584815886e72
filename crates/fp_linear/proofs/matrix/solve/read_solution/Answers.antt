use Rattle.std.proofs.Common.{ℕ, get_or}
use Rattle.fp_linear.proofs.KernelOf.{AreElements-none}
use Rattle.fp_linear.proofs.SolveOf.{IsReadFrom-none, IsReadFrom-more}
use Rattle.fp_linear.proofs.matrix.solve.read_solution.Goals as goal

pub loop-i-init : goal.loop-i-init
loop-i-init c = record { read = IsReadFrom-none _ _ _ _ c.args.entries.now c.requires.zero; elements = λ q h. AreElements-none q c.args.entries.now c.requires.zero }

pub loop-i-preserved : goal.loop-i-preserved
loop-i-preserved c = record {
  read = IsReadFrom-more c.args.rows c.args.count c.loop-i.i c.args.rank (λ (a : ℕ). get_or c.args.pivots.now a 0) c.args.wide.now _ _ c.loop-i-test.true c.requires.inside c.requires.ascending c.loop-i.invariant.read c.put_column.ensures.column;
  elements = λ q h. c.put_column.ensures.elements q h (c.loop-i.invariant.elements q h);
}
