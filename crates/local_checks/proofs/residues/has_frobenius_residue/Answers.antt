use Rattle.std.proofs.Common.{length, ◌+◌}
use Rattle.linear_algebra.specs.FieldLaws.{order-pos, neg_below}
use Rattle.local_checks.proofs.FrobeniusSpaces.{not_first, frobenius_decided}
use Rattle.local_checks.proofs.VertexPowers.{equal_decided}
use Rattle.local_checks.proofs.residues.has_frobenius_residue.Goals as goal

pub returns-then-not-is_subalgebra-clause-frobenius : goal.returns-then-not-is_subalgebra-clause-frobenius
returns-then-not-is_subalgebra-clause-frobenius c = λ k. c.if-not-is_subalgebra.ensures.subalgebra k.subalgebra

pub returns-then-not-commutes_modulo-clause-frobenius : goal.returns-then-not-commutes_modulo-clause-frobenius
returns-then-not-commutes_modulo-clause-frobenius c = λ k. c.if-not-commutes_modulo.ensures.commutes k.frobenius.commutative

pub remainders_rank-first-requires-clause-factor : goal.remainders_rank-first-requires-clause-factor
remainders_rank-first-requires-clause-factor c = order-pos c.args.header.now.field

pub remainders_rank-second-requires-clause-factor : goal.remainders_rank-second-requires-clause-factor
remainders_rank-second-requires-clause-factor c = rw c.neg-minus.ensures (neg_below c.args.header.now.field 1)

pub returns-then-pivots-first-clause-frobenius : goal.returns-then-pivots-first-clause-frobenius
returns-then-pivots-first-clause-frobenius c =
    not_first c.args.header.now c.args.m.now c.args.ring.now c.args.ring_pivots.now c.args.rows.now c.args.pivots.now c.requires.ring c.requires.space c.requires.inside c.requires.ideal
    c.if-not-is_subalgebra.ensures.subalgebra c.if-not-commutes_modulo.ensures.commutes c.remainders_rank-first.result c.remainders_rank-second.result c.neg-minus.result c.neg-minus.ensures
    c.remainders_rank-first.ensures.rank c.remainders_rank-second.ensures.rank c.if-pivots-first.true

pub returns-clause-frobenius : goal.returns-clause-frobenius
returns-clause-frobenius c =
    frobenius_decided c.args.header.now c.args.m.now c.args.ring.now c.args.ring_pivots.now c.args.rows.now c.args.pivots.now c.requires.ring c.requires.space c.requires.inside c.requires.ideal
    c.if-not-is_subalgebra.ensures.subalgebra c.if-not-commutes_modulo.ensures.commutes c.remainders_rank-first.result c.remainders_rank-second.result c.neg-minus.result c.neg-minus.ensures
    c.remainders_rank-first.ensures.rank c.remainders_rank-second.ensures.rank _ c.if-pivots-first.false (equal_decided (length c.args.pivots.now + (1 + c.remainders_rank-second.result)) (length c.args.ring_pivots.now))
