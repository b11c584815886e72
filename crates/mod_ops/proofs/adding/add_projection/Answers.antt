use Rattle.std.proofs.Common.{ℕ, subst, arith}
use Rattle.rep_arena.specs.Entries.{with_module, IsMapAmong}
use Rattle.mod_ops.proofs.Added.{among_projection}
use Rattle.mod_ops.proofs.adding.add_projection.Goals as goal

pub add_both-requires-clause-map : goal.add_both-requires-clause-map
add_both-requires-clause-map c =
    subst (λ (n : ℕ). IsMapAmong (with_module c.args.arena.now c.args.found.module) (record { source = c.args.source.number; target = n; matrices = c.args.found.matrices })) (omega (arith, c.module_count-number.ensures))
    (among_projection c.args.arena.now c.args.found.module c.args.source.number c.args.found.matrices c.requires.source c.requires.map)
