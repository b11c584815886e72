use Rattle.std.proofs.Common.{◌≡◌, ◌++◌}
use Rattle.std.specs.List.{filter}
use Rattle.path_basis.specs.Inserting.{has_run, lacks_run}
use Rattle.path_basis.proofs.inserting.take_out.Given as goal

abbrev pub invariant-loop-rule : goal.invariant-loop-rule
invariant-loop-rule l = record {
  kept : l.kept.items ≡ filter (lacks_run l.arrows) l.yielded;
  removed : l.removed.items ≡ l.fn.removed.items ++ filter (has_run l.arrows) l.yielded;
}
