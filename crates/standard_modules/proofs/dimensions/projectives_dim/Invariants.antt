use Rattle.std.proofs.Common.{◌≡◌, ◌≤◌, ◌*◌}
use Rattle.linear_algebra.specs.BlockFamilies.{total}
use Rattle.standard_modules.specs.StandardModules.{projective_dim_at}
use Rattle.standard_modules.proofs.dimensions.projectives_dim.Given as goal

abbrev pub invariant-loop-j : goal.invariant-loop-j
invariant-loop-j l = record {
  sum : l.dim ≡ total l.j (projective_dim_at l.table.header l.table.words l.side l.vertices);
  few : l.dim ≤ l.j * 131072;
}
