use Rattle.std.specs.Prelude.{slice_index}
use Rattle.module_types.specs.Algebras.{algebra_at}
use Rattle.module_types.specs.Readings.{rep_of}
use Rattle.map_checks.specs.BlockParts.{HasBlocks}
use Rattle.map_checks.proofs.sums.has_blocks.Given as goal

abbrev pub invariant-loop-a : goal.invariant-loop-a
invariant-loop-a l = HasBlocks (rep_of l.header.field (algebra_at l.side l.header).quiver l.s) (rep_of l.header.field (algebra_at l.side l.header).quiver l.part) (slice_index l.starts) l.a
