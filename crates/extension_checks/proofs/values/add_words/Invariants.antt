use Rattle.fp_linear.specs.Slices.{AreElements}
use Rattle.extension_checks.specs.Following.{HoldsWords}
use Rattle.extension_checks.proofs.values.add_words.Given as goal

abbrev pub invariant-loop-p : goal.invariant-loop-p
invariant-loop-p l = record {
  words : HoldsWords l.table.header l.table.words l.b l.image l.from l.places l.p l.c l.sum;
  elements : AreElements l.table.header.field l.sum;
}
