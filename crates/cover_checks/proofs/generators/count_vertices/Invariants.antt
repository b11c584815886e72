use Rattle.std.proofs.Common.{◌≡◌, ◌≤◌}
use Rattle.projectives.specs.CanonicalCover.{vertex_in}
use Rattle.projectives.specs.Generators.{count_at}
use Rattle.cover_checks.proofs.generators.count_vertices.Given as goal

abbrev pub invariant-loop-j : goal.invariant-loop-j
invariant-loop-j l = record {
  count : l.count ≡ count_at l.j (vertex_in l.vertices) l.w;
  fits : l.count ≤ l.j;
}
