use Rattle.std.proofs.Common.{◌≡◌, length}
use Rattle.bound_algebra.specs.TypedPaths.{quiver_of}
use Rattle.module_types.specs.Readings.{rep_of}
use Rattle.module_faults.proofs.Searching.{IsFront}
use Rattle.module_faults.proofs.long_paths.first_path.Given as goal

abbrev pub invariant-loop-k : goal.invariant-loop-k
invariant-loop-k l = record {
  counted : length l.arrows.items ≡ l.k;
  front : IsFront l.header.quiver (rep_of l.header.field (quiver_of l.header.quiver) l.m) l.header.bound l.unknowns l.rows l.count l.arrows.items l.images;
}
