use Rattle.hom_space.proofs.HomBases.{reduced_meets}
use Rattle.rep_arena.specs.Entries.{module_at}
use Rattle.hom_space.proofs.spaces.hom_basis.Goals as goal

pub returns-clause-conditions : goal.returns-clause-conditions
returns-clause-conditions c =
    reduced_meets c.args.arena.now.header (module_at c.args.arena.now c.args.m.number) (module_at c.args.arena.now c.args.n.number) c.in_ok-basis.basis
    (rw (c.header.ensures.header, c.module-source.ensures.entry, c.module-target.ensures.entry) at c.in_ok-basis.ensures.basis)
