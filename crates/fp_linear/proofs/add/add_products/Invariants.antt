use Rattle.fp_linear.specs.Slices.{HasAdded}
use Rattle.fp_linear.proofs.add.add_products.Given as goal

abbrev pub invariant-loop-j : goal.invariant-loop-j
invariant-loop-j l = HasAdded l.fn.field l.factor l.source l.initial.target l.target l.j
