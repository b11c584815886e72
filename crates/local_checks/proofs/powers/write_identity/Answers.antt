use Rattle.std.proofs.Common.{arith}
use Rattle.fp_linear.proofs.Slices.{AreElements-set}
use Rattle.local_checks.proofs.Images.{identity_more, standing_identity, delta_small}
use Rattle.local_checks.proofs.powers.write_identity.Goals as goal

pub loop-e-preserved : goal.loop-e-preserved
loop-e-preserved c = record {
  elements = AreElements-set c.args.field c.loop-e.rows c.loop-e.e c.identity_entry.result c.loop-e.invariant.elements (rw c.identity_entry.ensures (delta_small c.args.field _ _));
  identity = identity_more c.args.size c.loop-e.e c.identity_entry.result c.loop-e.rows (omega (arith, c.loop-e-test.true, c.loop-e.auto.rows, c.requires.shape)) c.identity_entry.ensures c.loop-e.invariant.identity;
}

pub returns-clause-identity : goal.returns-clause-identity
returns-clause-identity c = standing_identity c.args.field c.args.size c.loop-e.rows c.loop-e.invariant.elements (λ k l. c.loop-e.invariant.identity k (omega (arith, l, c.loop-e-test.false)))

pub returns-clause-entries : goal.returns-clause-entries
returns-clause-entries c = λ k l. c.loop-e.invariant.identity k (omega (arith, l, c.loop-e-test.false))
