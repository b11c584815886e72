use Rattle.std.proofs.Common.{subst, ◌∙◌}
use Rattle.path_algebra.specs.declared.Header.{Header}
use Rattle.module_faults.specs.ModuleFaults.{IsSmallModule}
use Rattle.rep_arena.proofs.arenas.Arena.add_module.Goals as goal

pub put_module-requires-clause-lawful : goal.put_module-requires-clause-lawful
put_module-requires-clause-lawful c = subst (λ (h : Header). IsSmallModule h c.args.m) (c.header.ensures.header ∙ c.requires.table) c.in_ok-check_module.ensures
