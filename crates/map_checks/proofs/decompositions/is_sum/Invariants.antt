use Rattle.module_types.specs.Algebras.{algebra_at}
use Rattle.module_types.specs.Readings.{rep_of}
use Rattle.module_types.specs.Written.{part_at}
use Rattle.map_checks.specs.BlockParts.{HasParts, HoldsStarts}
use Rattle.map_checks.proofs.decompositions.is_sum.Given as goal

abbrev pub invariant-loop-i : goal.invariant-loop-i
invariant-loop-i g l = record {
  parts : HasParts (rep_of l.header.field (algebra_at l.side l.header).quiver l.s) (part_at l.header.field (algebra_at l.side l.header).quiver l.side (g.P.Parts.modules l.parts)) l.i;
  starts : HoldsStarts (part_at l.header.field (algebra_at l.side l.header).quiver l.side (g.P.Parts.modules l.parts)) l.i (algebra_at l.side l.header).quiver.vertices l.starts;
}
