use Rattle.std.proofs.Common.{◌≡◌, ◌≤◌, ◌*◌}
use Rattle.std.specs.Prelude.{slice_index}
use Rattle.linear_algebra.specs.BlockFamilies.{total}
use Rattle.projectives.specs.CanonicalCover.{vertex_in}
use Rattle.sequence_checks.proofs.pullbacks.part_start.Given as goal

abbrev pub invariant-loop-c : goal.invariant-loop-c
invariant-loop-c l = record { start : l.start ≡ total l.c (λ k. slice_index l.m.dims (vertex_in l.vertices k)); small : l.start ≤ l.c * 256 }
