use Rattle.std.proofs.Common.{ℕ, subst, arith}
use Rattle.rep_arena.specs.Entries.{with_module, IsMapAmong}
use Rattle.mod_ops.proofs.Added.{among_inclusion}
use Rattle.mod_ops.proofs.adding.add_inclusion.Goals as goal

pub add_both-requires-clause-map : goal.add_both-requires-clause-map
add_both-requires-clause-map c =
    subst (λ (n : ℕ). IsMapAmong (with_module c.args.arena.now c.args.found.module) (record { source = n; target = c.args.target.number; matrices = c.args.found.matrices })) (omega (arith, c.module_count-number.ensures))
    (among_inclusion c.args.arena.now c.args.found.module c.args.target.number c.args.found.matrices c.requires.target c.requires.map)
