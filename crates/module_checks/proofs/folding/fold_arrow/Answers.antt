use Rattle.module_checks.proofs.Steps.{GoesAlong-none}
use Rattle.module_checks.proofs.folding.fold_arrow.Goals as goal

pub loop-e-init : goal.loop-e-init
loop-e-init c = record {
  used = c.requires.used;
  elements = c.requires.elements;
  clear = c.requires.clear;
  more = GoesAlong-none c.args.field c.args.unknowns c.args.rows c.args.x.now c.args.y.now c.args.target c.args.source c.args.entries.now;
}
