use Rattle.std.proofs.Common.{length, ◌+◌}
use Rattle.local_checks.specs.Families.{family}
use Rattle.local_checks.proofs.VertexPowers.{equal_decided}
use Rattle.residue_checks.proofs.UnitRanks.{zero_decided, unit_decided}
use Rattle.residue_checks.proofs.units.is_zero_or_unit.Goals as goal

pub returns-then-is_member-clause-decided : goal.returns-then-is_member-clause-decided
returns-then-is_member-clause-decided c =
    zero_decided c.args.header.now c.args.m.now c.args.ring.now c.args.ring_pivots.now c.args.rows.now c.args.pivots.now c.requires.ring c.requires.subalgebra (family c.args.header.now c.args.m.now c.args.y.now) c.requires.member
    (rw (c.copy_from_slice.ensures.after, c.requires.y.count) at c.if-is_member.ensures.member)

pub returns-clause-decided : goal.returns-clause-decided
returns-clause-decided c =
    unit_decided c.args.header.now c.args.m.now c.args.ring.now c.args.ring_pivots.now c.args.rows.now c.args.pivots.now c.requires.ring c.requires.subalgebra (family c.args.header.now c.args.m.now c.args.y.now) c.requires.member
    c.products_rank-rank.result c.products_rank-rank.ensures.rank _ (rw (c.copy_from_slice.ensures.after, c.requires.y.count) at c.if-is_member.ensures.member)
    (equal_decided (length c.args.pivots.now + c.products_rank-rank.result) (length c.args.ring_pivots.now))
