use Rattle.linear_algebra.specs.FieldLaws.{neg_below}
use Rattle.claim_conditions.specs.LocalConditions.{families_of}
use Rattle.local_checks.specs.Families.{family}
use Rattle.local_checks.proofs.ClosedSpaces.{commute_decided}
use Rattle.local_checks.proofs.subrings.commute.Goals as goal

pub returns-clause-commute : goal.returns-clause-commute
returns-clause-commute c =
    commute_decided c.args.header.now c.args.m.now c.args.rows.now c.args.pivots.now ((families_of c.args.header.now c.args.m.now).product (family c.args.header.now c.args.m.now c.args.left.now) (family c.args.header.now c.args.m.now c.args.right.now))
    ((families_of c.args.header.now c.args.m.now).product (family c.args.header.now c.args.m.now c.args.right.now) (family c.args.header.now c.args.m.now c.args.left.now))
    c.compose-2.new.out c.compose.new.out c.add_multiple.new.target c.neg.result c.compose-2.ensures.out c.compose.ensures.out c.add_multiple.ensures.elements c.compose.ensures.product c.compose-2.ensures.product c.neg.ensures c.add_multiple.ensures.sum
    c.is_member.result c.is_member.ensures.member

pub add_multiple-requires-clause-below : goal.add_multiple-requires-clause-below
add_multiple-requires-clause-below c = rw c.neg.ensures (neg_below c.args.header.now.field 1)
