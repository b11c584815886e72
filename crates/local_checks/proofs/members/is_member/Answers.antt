use Rattle.std.proofs.Common.{length, refl}
use Rattle.local_checks.proofs.Spaces.{member_decided}
use Rattle.local_checks.proofs.members.is_member.Goals as goal

pub returns-clause-member : goal.returns-clause-member
returns-clause-member c = member_decided c.args.field (length c.args.x.now) c.args.rows.now c.args.pivots.now c.requires.space c.args.x.now c.clear_row.new.x c.requires.elements refl c.clear_row.ensures.remainder c.is_zero.result c.is_zero.ensures
