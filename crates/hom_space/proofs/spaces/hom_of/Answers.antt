use Rattle.hom_space.proofs.HomBases.{reduced_meets}
use Rattle.hom_space.proofs.spaces.hom_of.Goals as goal

pub returns-clause-conditions : goal.returns-clause-conditions
returns-clause-conditions c =
    reduced_meets c.args.header.now c.args.a.now c.args.b.now c.in_ok-basis.basis (rw (c.in_ok-first.ensures, c.in_ok-second.ensures) at c.in_ok-basis.ensures)
