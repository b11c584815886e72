use Rattle.module_types.specs.Readings.{read}
use Rattle.module_operations.specs.ArrowSpans.{arrow_size, arrow_family}
use Rattle.module_operations.proofs.ArrowStacks.{all_vertices}
use Rattle.module_operations.proofs.ComputedSubmodules.{are_subspaces, arrows_stable, radical_by}
use Rattle.module_operations.proofs.radicals.radical.Goals as goal

pub submodule-requires-clause-spaces : goal.submodule-requires-clause-spaces
submodule-requires-clause-spaces c =
    let h = c.args.header.now in
    let a = c.args.a.now in
    are_subspaces h a (arrow_size (read h a)) (arrow_family (read h a)) c.in_ok-matrices.matrices c.requires.allowed (all_vertices h a c.in_ok-matrices.matrices c.in_ok-matrices.ensures) (arrows_stable h a)

pub returns : goal.returns
returns c =
    let h = c.args.header.now in
    let a = c.args.a.now in
    radical_by h a c.in_ok-module.module c.in_ok-matrices.matrices c.requires.small c.in_ok-module.ensures (all_vertices h a c.in_ok-matrices.matrices c.in_ok-matrices.ensures)
