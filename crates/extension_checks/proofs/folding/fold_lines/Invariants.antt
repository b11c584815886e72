use Rattle.extension_checks.specs.Asking.{AreTaken, MeetsLines}
use Rattle.module_checks.specs.Commuting.{AsksMore}
use Rattle.extension_checks.proofs.folding.fold_lines.Given as goal

abbrev pub invariant-loop-z : goal.invariant-loop-z
invariant-loop-z l = record {
  taken : AreTaken l.field l.unknowns l.rows l.used l.entries;
  more : AsksMore l.field l.unknowns l.rows l.initial.entries l.entries (MeetsLines l.field l.unknowns l.block l.z);
}
